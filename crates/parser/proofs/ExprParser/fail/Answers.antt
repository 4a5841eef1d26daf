-- `fail` writes an error at the next token. Assumes nothing.
use Rattle.parser.proofs.ParserLaws.{fail_room, did_fail}
use Rattle.parser.proofs.ExprParser.fail.Goals as goal

pub put_error-requires-clause-room : goal.put_error-requires-clause-room
put_error-requires-clause-room c = fail_room _ _ c.requires

pub returns : goal.returns
returns c = did_fail _ _ c.requires.ready (c.put_error.ensures _ c.next_row.ensures)

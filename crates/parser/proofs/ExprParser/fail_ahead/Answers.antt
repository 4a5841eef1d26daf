-- `fail_ahead` writes an error at the first token that is no blank. Assumes nothing.
use Rattle.parser.proofs.ParserLaws.{fail_ahead_room, did_fail_ahead, ahead_here}
use Rattle.parser.proofs.ExprParser.fail_ahead.Goals as goal

pub put_error-requires-clause-room : goal.put_error-requires-clause-room
put_error-requires-clause-room c = fail_ahead_room _ c.requires

pub returns : goal.returns
returns c =
    let e = c.put_error.ensures _ c.token_ahead.ensures in
    did_fail_ahead _ c.requires.ready (rw (ahead_here c.requires.ready) at e)

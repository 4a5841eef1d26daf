-- `bump` eats blanks and then takes a token. Assumes nothing.
use Rattle.trees.proofs.ParseLaws.{bump_is}
use Rattle.parser.proofs.ParserLaws.{asks_is, asks_first, asks_then, did_is, did_then}
use Rattle.parser.proofs.ExprParser.bump.Goals as goal

pub eat_ws-requires : goal.eat_ws-requires
eat_ws-requires c = asks_first _ (asks_is bump_is c.requires)

pub put_token-requires : goal.put_token-requires
put_token-requires c = asks_then (asks_is bump_is c.requires) c.eat_ws.ensures

pub returns : goal.returns
returns c = did_is bump_is (did_then c.eat_ws.ensures c.put_token.ensures)

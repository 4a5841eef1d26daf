-- `expect` eats blanks, and takes a token or reports an error. Assumes nothing.
use Rattle.trees.proofs.ParseLaws.{expect_is}
use Rattle.parser.proofs.ParserLaws.{asks_is, asks_first, asks_then, asks_true, asks_false, did_is, did_then, did_true, did_false}
use Rattle.parser.proofs.ExprParser.expect.Goals as goal

pub eat_ws-requires : goal.eat_ws-requires
eat_ws-requires c = asks_first _ (asks_is (expect_is _) c.requires)

pub put_token-requires : goal.put_token-requires
put_token-requires c = asks_true _ _ c.next_is.ensures c.if-next_is.true (asks_then (asks_is (expect_is _) c.requires) c.eat_ws.ensures)

pub fail-requires : goal.fail-requires
fail-requires c = asks_false _ _ c.next_is.ensures c.if-next_is.false (asks_then (asks_is (expect_is _) c.requires) c.eat_ws.ensures)

pub returns-then-next_is : goal.returns-then-next_is
returns-then-next_is c = did_is (expect_is _) (did_then c.eat_ws.ensures (did_true _ _ c.next_is.ensures c.if-next_is.true c.put_token.ensures))

pub returns-else-next_is : goal.returns-else-next_is
returns-else-next_is c = did_is (expect_is _) (did_then c.eat_ws.ensures (did_false _ _ c.next_is.ensures c.if-next_is.false c.fail.ensures))

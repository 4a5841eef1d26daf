-- `expect_ident` eats blanks, and takes a word or reports an error. Assumes nothing.
use Rattle.trees.proofs.ParseLaws.{expect_ident_is}
use Rattle.parser.proofs.ParserLaws.{asks_is, asks_first, asks_then, asks_true, asks_false, did_is, did_then, did_true, did_false, eaten_ident}
use Rattle.parser.proofs.ExprParser.expect_ident.Goals as goal

pub eat_ws-requires : goal.eat_ws-requires
eat_ws-requires c = asks_first _ (asks_is (expect_ident_is _) c.requires)

pub put_token-requires : goal.put_token-requires
put_token-requires c = asks_true _ _ (eaten_ident c.eat_ws.ensures _ c.at_ident.ensures) c.if-at_ident.true (asks_then (asks_is (expect_ident_is _) c.requires) c.eat_ws.ensures)

pub fail-requires : goal.fail-requires
fail-requires c = asks_false _ _ (eaten_ident c.eat_ws.ensures _ c.at_ident.ensures) c.if-at_ident.false (asks_then (asks_is (expect_ident_is _) c.requires) c.eat_ws.ensures)

pub returns-then-at_ident : goal.returns-then-at_ident
returns-then-at_ident c = did_is (expect_ident_is _) (did_then c.eat_ws.ensures (did_true _ _ (eaten_ident c.eat_ws.ensures _ c.at_ident.ensures) c.if-at_ident.true c.put_token.ensures))

pub returns-else-at_ident : goal.returns-else-at_ident
returns-else-at_ident c = did_is (expect_ident_is _) (did_then c.eat_ws.ensures (did_false _ _ (eaten_ident c.eat_ws.ensures _ c.at_ident.ensures) c.if-at_ident.false c.fail.ensures))

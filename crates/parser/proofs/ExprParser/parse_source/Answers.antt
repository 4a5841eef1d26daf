-- `parse_source` follows its definition, test by test. Assumes nothing.
use Rattle.trees.proofs.ParseLaws.{parse_source_is}
use Rattle.parser.proofs.ParserLaws.{asks_is, asks_true, asks_false, did_is, did_true, did_false}
use Rattle.parser.proofs.ExprParser.parse_source.Goals as goal

pub ident_expr-requires : goal.ident_expr-requires
ident_expr-requires c = asks_true _ _ c.at_ident.ensures c.if-at_ident.true (asks_is parse_source_is c.requires)

pub call_expr-requires : goal.call_expr-requires
call_expr-requires c = asks_true _ _ c.at_ident-else-at_ident.ensures c.if-at_ident-2.true (asks_false _ _ c.at_ident.ensures c.if-at_ident.false (asks_is parse_source_is c.requires))

pub fail_ahead-requires : goal.fail_ahead-requires
fail_ahead-requires c = asks_false _ _ c.at_ident-else-at_ident.ensures c.if-at_ident-2.false (asks_false _ _ c.at_ident.ensures c.if-at_ident.false (asks_is parse_source_is c.requires))

pub returns-then-at_ident : goal.returns-then-at_ident
returns-then-at_ident c = did_is parse_source_is (did_true _ _ c.at_ident.ensures c.if-at_ident.true c.ident_expr.ensures)

pub returns-then-at_ident-2 : goal.returns-then-at_ident-2
returns-then-at_ident-2 c = did_is parse_source_is (did_false _ _ c.at_ident.ensures c.if-at_ident.false (did_true _ _ c.at_ident-else-at_ident.ensures c.if-at_ident-2.true c.call_expr.ensures))

pub returns-else-at_ident-2 : goal.returns-else-at_ident-2
returns-else-at_ident-2 c = did_is parse_source_is (did_false _ _ c.at_ident.ensures c.if-at_ident.false (did_false _ _ c.at_ident-else-at_ident.ensures c.if-at_ident-2.false c.fail_ahead.ensures))

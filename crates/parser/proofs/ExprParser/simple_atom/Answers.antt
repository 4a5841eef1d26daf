-- `simple_atom` follows its definition, test by test. Assumes nothing.
use Rattle.trees.proofs.ParseLaws.{simple_atom_is}
use Rattle.parser.proofs.ParserLaws.{asks_is, asks_true, asks_false, did_is, did_true, did_false}
use Rattle.parser.proofs.ExprParser.simple_atom.Goals as goal

pub call_expr-requires : goal.call_expr-requires
call_expr-requires c = asks_true _ _ c.is_ident.ensures c.if-is_ident.true (asks_is simple_atom_is c.requires)

pub ident_expr-requires : goal.ident_expr-requires
ident_expr-requires c = asks_true _ _ c.is_ident-else-is_ident.ensures c.if-is_ident-2.true (asks_false _ _ c.is_ident.ensures c.if-is_ident.false (asks_is simple_atom_is c.requires))

pub contains_expr-requires : goal.contains_expr-requires
contains_expr-requires c = asks_true _ _ c.at_message_dot.ensures c.if-at_message_dot.true (asks_false _ _ c.is_ident-else-is_ident.ensures c.if-is_ident-2.false (asks_false _ _ c.is_ident.ensures c.if-is_ident.false (asks_is simple_atom_is c.requires)))

pub compare_expr-requires : goal.compare_expr-requires
compare_expr-requires c = asks_true _ _ c.at_field.ensures c.if-at_field.true (asks_false _ _ c.at_message_dot.ensures c.if-at_message_dot.false (asks_false _ _ c.is_ident-else-is_ident.ensures c.if-is_ident-2.false (asks_false _ _ c.is_ident.ensures c.if-is_ident.false (asks_is simple_atom_is c.requires))))

pub fail_ahead-requires : goal.fail_ahead-requires
fail_ahead-requires c = asks_false _ _ c.at_field.ensures c.if-at_field.false (asks_false _ _ c.at_message_dot.ensures c.if-at_message_dot.false (asks_false _ _ c.is_ident-else-is_ident.ensures c.if-is_ident-2.false (asks_false _ _ c.is_ident.ensures c.if-is_ident.false (asks_is simple_atom_is c.requires))))

pub returns-then-is_ident : goal.returns-then-is_ident
returns-then-is_ident c = did_is simple_atom_is (did_true _ _ c.is_ident.ensures c.if-is_ident.true c.call_expr.ensures)

pub returns-then-is_ident-2 : goal.returns-then-is_ident-2
returns-then-is_ident-2 c = did_is simple_atom_is (did_false _ _ c.is_ident.ensures c.if-is_ident.false (did_true _ _ c.is_ident-else-is_ident.ensures c.if-is_ident-2.true c.ident_expr.ensures))

pub returns-then-at_message_dot : goal.returns-then-at_message_dot
returns-then-at_message_dot c = did_is simple_atom_is (did_false _ _ c.is_ident.ensures c.if-is_ident.false (did_false _ _ c.is_ident-else-is_ident.ensures c.if-is_ident-2.false (did_true _ _ c.at_message_dot.ensures c.if-at_message_dot.true c.contains_expr.ensures)))

pub returns-then-at_field : goal.returns-then-at_field
returns-then-at_field c = did_is simple_atom_is (did_false _ _ c.is_ident.ensures c.if-is_ident.false (did_false _ _ c.is_ident-else-is_ident.ensures c.if-is_ident-2.false (did_false _ _ c.at_message_dot.ensures c.if-at_message_dot.false (did_true _ _ c.at_field.ensures c.if-at_field.true c.compare_expr.ensures))))

pub returns-else-at_field : goal.returns-else-at_field
returns-else-at_field c = did_is simple_atom_is (did_false _ _ c.is_ident.ensures c.if-is_ident.false (did_false _ _ c.is_ident-else-is_ident.ensures c.if-is_ident-2.false (did_false _ _ c.at_message_dot.ensures c.if-at_message_dot.false (did_false _ _ c.at_field.ensures c.if-at_field.false c.fail_ahead.ensures))))

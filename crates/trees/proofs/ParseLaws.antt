-- Each definition of Parse.antt as its one line says it, for proofs that must not see further. Assumes nothing.
use mathlib.Core.Path.{◌≡◌, refl}
use mathlib.Core.List.{List}
use Prim.Native.Nat.{ℕ}
use Rattle.syntax.specs.Kind.{STRING_LIT, DOT, L_PAREN, R_PAREN, EQ_EQ, AND_KW, OR_KW, NOT_KW, ROOT, PIPELINE_EXPR, DOT_CALL, CALL_ARGS, BINARY_EXPR, UNARY_EXPR, COMPARE_EXPR, CALL_EXPR, PAREN_EXPR, LITERAL, IDENT_EXPR, CONTAINS_EXPR, COUNT_COMPARE_EXPR, NONE}
use Rattle.syntax.specs.Form.{EXPECT, EXPECT_IDENT, LEFT_OVER, SOURCE, METHOD, ATOM}
use Rattle.syntax.specs.Text.{ascii}
use Rattle.trees.specs.Look.{at_kind, at_text, at_ident, at_message_dot, at_field, at_predicate_method, at_plain_method, has_count_compare_ahead, has_binary_op_at_level}
use Rattle.trees.specs.Parse.{done, next, fails, fails_ahead, ◌▹◌, in_node, choose, eat_ws, bump, next_is, expect, next_is_ident, expect_ident, literal, call_expr, ident_expr, contains_expr, compare_expr, simple_atom, predicate_args, no_args, no_method, parse_method, parse_dot_call, atom_here, step, parse, OrExpr, OrRest, AndExpr, AndRest, Atom, Calls, parse_source, parse_pipeline, parse_pipeline_or_count_compare, remaining, left_over, parse_root}

pub bump_is : bump ≡ eat_ws ▹ next
unfolding bump
bump_is = refl

pub expect_is : (k : ℕ) → expect k ≡ eat_ws ▹ choose (next_is k) next (fails EXPECT k)
unfolding expect
expect_is k = refl

pub expect_ident_is : (w : List ℕ) → expect_ident w ≡ eat_ws ▹ choose (next_is_ident w) next (fails EXPECT_IDENT 0)
unfolding expect_ident
expect_ident_is w = refl

pub literal_is : literal ≡ in_node LITERAL (expect STRING_LIT)
unfolding literal
literal_is = refl

pub call_expr_is : call_expr ≡ in_node CALL_EXPR (bump ▹ expect L_PAREN ▹ literal ▹ expect R_PAREN)
unfolding call_expr
call_expr_is = refl

pub ident_expr_is : ident_expr ≡ in_node IDENT_EXPR bump
unfolding ident_expr
ident_expr_is = refl

pub contains_expr_is : contains_expr ≡ in_node CONTAINS_EXPR (bump ▹ expect DOT ▹ expect_ident (ascii "contains") ▹ expect L_PAREN ▹ literal ▹ expect R_PAREN)
unfolding contains_expr
contains_expr_is = refl

pub compare_expr_is : compare_expr ≡ in_node COMPARE_EXPR (bump ▹ expect EQ_EQ ▹ literal)
unfolding compare_expr
compare_expr_is = refl

pub simple_atom_is : simple_atom ≡ choose (at_ident (ascii "has")) call_expr (choose (at_ident (ascii "connected")) ident_expr (choose at_message_dot contains_expr (choose at_field compare_expr (fails_ahead ATOM))))
unfolding simple_atom
simple_atom_is = refl

pub predicate_args_is : predicate_args (parse OrExpr) ≡ in_node CALL_ARGS (expect L_PAREN ▹ (parse OrExpr) ▹ expect R_PAREN)
unfolding predicate_args
predicate_args_is = refl

pub no_args_is : no_args ≡ in_node CALL_ARGS (expect L_PAREN ▹ expect R_PAREN)
unfolding no_args
no_args_is = refl

pub no_method_is : no_method ≡ fails_ahead METHOD ▹ choose (at_kind NONE) done bump
unfolding no_method
no_method_is = refl

pub parse_method_is : parse_method (parse OrExpr) ≡ choose at_predicate_method (bump ▹ predicate_args (parse OrExpr)) (choose (at_text (ascii "count")) (bump ▹ no_args) (choose at_plain_method bump no_method))
unfolding parse_method
parse_method_is = refl

pub parse_dot_call_is : parse_dot_call (parse OrExpr) ≡ in_node DOT_CALL (expect DOT ▹ parse_method (parse OrExpr))
unfolding parse_dot_call
parse_dot_call_is = refl

pub parse_source_is : parse_source ≡ choose (at_ident (ascii "components")) ident_expr (choose (at_ident (ascii "analysis")) call_expr (fails_ahead SOURCE))
unfolding parse_source
parse_source_is = refl

pub parse_pipeline_is : parse_pipeline ≡ in_node PIPELINE_EXPR (parse_source ▹ parse Calls)
unfolding parse_pipeline
parse_pipeline_is = refl

pub parse_compare_is : parse_pipeline_or_count_compare ≡ choose has_count_compare_ahead (in_node COUNT_COMPARE_EXPR (parse_pipeline ▹ bump ▹ bump)) parse_pipeline
unfolding parse_pipeline_or_count_compare
parse_compare_is = refl

pub left_over_is : left_over ≡ choose (at_kind NONE) done (fails LEFT_OVER 0 ▹ remaining)
unfolding left_over
left_over_is = refl

pub parse_root_is : parse_root ≡ in_node ROOT (parse_pipeline_or_count_compare ▹ eat_ws ▹ left_over)
unfolding parse_root
parse_root_is = refl

pub atom_here_is : atom_here parse ≡ choose (at_kind NOT_KW) (in_node UNARY_EXPR (bump ▹ parse Atom)) (choose (at_kind L_PAREN) (in_node PAREN_EXPR (bump ▹ parse OrExpr ▹ expect R_PAREN)) simple_atom)
unfolding atom_here
atom_here_is = refl

pub step_or_is : step parse OrExpr ≡ choose (has_binary_op_at_level OR_KW) (in_node BINARY_EXPR (parse AndExpr ▹ parse OrRest)) (parse AndExpr)
unfolding step
step_or_is = refl

pub step_or_rest_is : step parse OrRest ≡ choose (at_kind OR_KW) (bump ▹ parse AndExpr ▹ parse OrRest) done
unfolding step
step_or_rest_is = refl

pub step_and_is : step parse AndExpr ≡ choose (has_binary_op_at_level AND_KW) (in_node BINARY_EXPR (parse Atom ▹ parse AndRest)) (parse Atom)
unfolding step
step_and_is = refl

pub step_and_rest_is : step parse AndRest ≡ choose (at_kind AND_KW) (bump ▹ parse Atom ▹ parse AndRest) done
unfolding step
step_and_rest_is = refl

pub step_atom_is : step parse Atom ≡ eat_ws ▹ atom_here parse
unfolding step
step_atom_is = refl

pub step_calls_is : step parse Calls ≡ eat_ws ▹ choose (at_kind DOT) (parse_dot_call (parse OrExpr) ▹ parse Calls) done
unfolding step
step_calls_is = refl

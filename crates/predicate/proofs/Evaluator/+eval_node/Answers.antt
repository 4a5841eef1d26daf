-- The functions that call each other give the truth of the tree whose rows these are; rows left fall around the cycle. Assumes nothing.
use mathlib.Core.Path.{sym, ◌∙◌}
use native.Mathlib.Omega.{arith}
use borrow.Author.Tests.{leb-true, leb-false}
use Rattle.std.proofs.Common.{rules}
use Rattle.syntax.specs.Kind.{ROOT}
use Rattle.predicate.proofs.EvalLaws.{operand_there, joins_deeper, joins_token, joins_decided, joins_open, joining_end, evaluated_binary, evaluated_unary, evaluated_paren, evaluated_atom, inner_empty, inner_first}
use Rattle.predicate.proofs.AtomLaws.{settled_none}
use Rattle.predicate.proofs.RowLaws.{row_there, below_row}
use Rattle.predicate.proofs.Evaluator.+eval_node.Goals as goal
use Rattle.predicate.proofs.Evaluator.+eval_node.Goals.{eval_node-in-Ok, eval_node-in-Err}

pub eval_inner-returns-in-Some : goal.eval_inner-returns-in-Some
eval_inner-returns-in-Some t c = inner_first c.in-Some.ensures c.eval_node-inner.ensures c.skip_below.ensures

pub eval_inner-returns-in-None : goal.eval_inner-returns-in-None
eval_inner-returns-in-None t c = inner_empty c.in-None.ensures c.skip_below-in-None.ensures

pub eval_node-returns-in-Ok-BinaryExpr : goal.eval_node-returns-in-Ok-BinaryExpr
eval_node-returns-in-Ok-BinaryExpr t c = evaluated_binary c.requires (search rules) c.eval_operands.ensures

pub eval_node-returns-in-Ok-UnaryExpr : goal.eval_node-returns-in-Ok-UnaryExpr
eval_node-returns-in-Ok-UnaryExpr t c = evaluated_unary c.requires (search rules) c.eval_inner-inner.ensures

pub eval_node-returns-in-Ok-ParenExpr : goal.eval_node-returns-in-Ok-ParenExpr
eval_node-returns-in-Ok-ParenExpr t c = evaluated_paren c.requires (search rules) c.eval_inner.ensures

pub eval_node-returns : goal.eval_node-returns
eval_node-returns t c =
    elim c.match-try_from.branch [
      | eval_node-in-Ok w ↦ evaluated_atom c.requires (w.value-is ∙ w.is_true-value.ensures ∙ w.find.ensures.so _ _) c.skip_below.ensures
      | eval_node-in-Err w ↦ evaluated_atom c.requires (w.value-is ∙ settled_none c.args.self.now.rule.now c.args.self.now.tree.now c.args.at c.try_from.ensures w.in-Err.is _ _) c.skip_below.ensures
    ]

pub eval_operand-overflow_add-after : goal.eval_operand-overflow_add-after
eval_operand-overflow_add-after t c = omega (arith, operand_there c.requires)

pub eval_operand-offset_bounds-self-at : goal.eval_operand-offset_bounds-self-at
eval_operand-offset_bounds-self-at t c = omega (arith, operand_there c.requires)

pub eval_operand-bounds-self-at : goal.eval_operand-bounds-self-at
eval_operand-bounds-self-at t c = omega (arith, operand_there c.requires)

pub eval_operand-overflow_add-at : goal.eval_operand-overflow_add-at
eval_operand-overflow_add-at t c = omega (arith, operand_there c.requires)

pub eval_operand-offset_bounds-self-at-2 : goal.eval_operand-offset_bounds-self-at-2
eval_operand-offset_bounds-self-at-2 t c = omega (arith, operand_there c.requires)

pub eval_operand-bounds-self-at-2 : goal.eval_operand-bounds-self-at-2
eval_operand-bounds-self-at-2 t c = omega (arith, operand_there c.requires)

pub eval_operand-returns-then-below-self : goal.eval_operand-returns-then-below-self
eval_operand-returns-then-below-self t c = joins_deeper _ c.requires c.if-below-self.true

pub eval_operand-returns-then-not-is_node : goal.eval_operand-returns-then-not-is_node
eval_operand-returns-then-not-is_node t c = joins_token _ c.requires c.if-below-self.false (leb-false ROOT _ (sym c.is_node.ensures ∙ c.if-not-is_node.true)) c.or_after.ensures

pub eval_operand-returns-then-before-or : goal.eval_operand-returns-then-before-or
eval_operand-returns-then-before-or t c = joins_decided _ c.requires c.if-below-self.false (leb-true ROOT _ (sym c.is_node.ensures ∙ c.if-not-is_node.false)) c.if-before-or.true c.skip_below.ensures

pub eval_operand-eval_node-operand-requires : goal.eval_operand-eval_node-operand-requires
eval_operand-eval_node-operand-requires t c = (omega (arith, c.decreases, operand_there c.requires), operand_there c.requires)

pub eval_operand-returns : goal.eval_operand-returns
eval_operand-returns t c =
    joins_open _ c.requires c.if-below-self.false (leb-true ROOT _ (sym c.is_node.ensures ∙ c.if-not-is_node.false)) c.if-before-or.false c.eval_node-operand.ensures.next c.eval_node-operand.ensures.value

pub eval_operands-loop-operands-smaller : goal.eval_operands-loop-operands-smaller
eval_operands-loop-operands-smaller t c = omega (arith, c.eval_operand-operands.ensures.later, row_there _ _ (below_row _ _ _ (sym c.is_below.ensures ∙ c.loop-operands-test.true)).0)

pub eval_operands-returns : goal.eval_operands-returns
eval_operands-returns t c = joining_end c.loop-operands.invariant (sym c.is_below.ensures ∙ c.loop-operands-test.false)

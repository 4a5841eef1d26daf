-- `asks_below` looks at the rows below, by the laws of `Telling`. Assumes nothing.
use mathlib.Core.Path.{sym, ap, ◌∙◌}
use mathlib.Core.Bool.{not}
use native.Mathlib.Omega.{arith}
use Rattle.eval.proofs.CallLaws.{whole_below}
use Rattle.eval.proofs.MarkedLaws.{tells_more, telling_on, telling_end}
use Rattle.eval.proofs.marked.Sorts.asks_below.Goals as goal

pub returns-then-tree-lt-ROW : goal.returns-then-tree-lt-ROW
returns-then-tree-lt-ROW c = tells_more

pub loop-member-init : goal.loop-member-init
loop-member-init c = record { rest = λ t. t }

pub is_below-requires : goal.is_below-requires
is_below-requires c = tt

pub returns-then-not-is_told : goal.returns-then-not-is_told
returns-then-not-is_told c = tells_more

pub loop-member-preserved : goal.loop-member-preserved
loop-member-preserved c = telling_on c.loop-member.invariant (sym c.is_below.ensures ∙ c.loop-member-test.true) c.is_told.ensures (ap not c.if-not-is_told.false)

pub returns : goal.returns
returns c = telling_end c.loop-member.invariant (sym c.is_below.ensures ∙ c.loop-member-test.false)

pub overflow_add-row-in-loop-member : goal.overflow_add-row-in-loop-member
overflow_add-row-in-loop-member c = omega (arith, whole_below _ _ _ c.is_below.ensures c.loop-member-test.true)

pub loop-member-smaller : goal.loop-member-smaller
loop-member-smaller c = omega (arith, whole_below _ _ _ c.is_below.ensures c.loop-member-test.true)

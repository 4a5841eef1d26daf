-- `put_calls` writes each call: those written and those left are all. Assumes nothing.
use mathlib.Core.Path.{sym, ◌∙◌}
use native.Mathlib.Omega.{arith}
use Rattle.predicate.proofs.RowLaws.{below_row}
use Rattle.eval.proofs.CallLaws.{whole_below, writing_start, writing_past, writing_room, writing_call, writing_end}
use Rattle.eval.proofs.ready.put_calls.Goals as goal
use Rattle.eval.proofs.ready.put_calls.Goals.{then-is_call, else-is_call}

pub loop-calls-init : goal.loop-calls-init
loop-calls-init c = rw c.level_at-level.ensures (writing_start _ _ _ _ _ c.requires)

pub bounds-calls-count : goal.bounds-calls-count
bounds-calls-count c =
    writing_room c.loop-calls.invariant (whole_below _ _ _ c.is_below.ensures c.loop-calls-test.true) (sym c.is_call.ensures ∙ c.if-is_call.true)

pub overflow_add-row : goal.overflow_add-row
overflow_add-row c = omega (arith, whole_below _ _ _ c.is_below.ensures c.loop-calls-test.true)

pub loop-calls-smaller : goal.loop-calls-smaller
loop-calls-smaller c = omega (arith, whole_below _ _ _ c.is_below.ensures c.loop-calls-test.true)

pub loop-calls-preserved : goal.loop-calls-preserved
loop-calls-preserved c =
    let below = below_row _ _ _ (sym c.is_below.ensures ∙ c.loop-calls-test.true) in
    let there = whole_below _ _ _ c.is_below.ensures c.loop-calls-test.true in
    elim c.if-is_call.branch [
      | then-is_call w ↦ rw (w.calls-is, w.count-is) (writing_call c.loop-calls.invariant there (sym c.is_call.ensures ∙ w.if-is_call.true) w.call_at.ensures)
      | else-is_call w ↦ rw (w.calls-is, w.count-is) (writing_past c.loop-calls.invariant there (omega (arith, below.1)) (sym c.is_call.ensures ∙ w.if-is_call.false))
    ]

pub returns : goal.returns
returns c = writing_end _ c.loop-calls.invariant (sym c.is_below.ensures ∙ c.loop-calls-test.false)

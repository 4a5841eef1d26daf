-- `step_of` goes on over `diagnostics` and each `where` that is noted as true, and tells what the first other call makes of a member.
-- Assumes nothing.
use Rattle.std.proofs.Common.{rules}
use Rattle.eval.proofs.StepLaws.{passing_on, passing_over, step_dropped, step_count, step_quantified, step_listed}
use native.Mathlib.Omega.{arith}
use mathlib.Core.Path.{sym, ap, ◌∙◌}
use Rattle.std.specs.Prelude.{Some}
use Rattle.eval.proofs.walk.Walk.step_of.Goals as goal
use Rattle.eval.proofs.walk.Walk.step_of.Goals.{in-Where+in_ok-told-in-Where+else-not-branch, in-Diagnostics}

pub returns-then-not-branch : goal.returns-then-not-branch
returns-then-not-branch c = step_dropped c.loop-i.invariant (omega arith) c.in-Where.is (sym c.told.ensures ∙ c.in_ok-told-in-Where.was ∙ ap Some c.if-not-branch.true)

pub returns-in-Count : goal.returns-in-Count
returns-in-Count c = step_count c.loop-i.invariant (omega arith) c.in-Count.is

pub returns-in-All : goal.returns-in-All
returns-in-All c = step_quantified c.loop-i.invariant (omega arith) _ (search rules) (sym c.told-in-All.ensures ∙ c.in_ok-told-in-All.was)

pub loop-i-preserved : goal.loop-i-preserved
loop-i-preserved c =
    elim c.match-calls-i.branch [
      | in-Where+in_ok-told-in-Where+else-not-branch w ↦ passing_on c.loop-i.invariant (omega arith) w.in-Where.is (sym w.told.ensures ∙ w.in_ok-told-in-Where.was ∙ ap Some w.if-not-branch.false)
      | in-Diagnostics w ↦ passing_over c.loop-i.invariant (omega arith) w.in-Diagnostics.is
    ]

pub returns : goal.returns
returns c = step_listed c.loop-i.invariant (omega arith)

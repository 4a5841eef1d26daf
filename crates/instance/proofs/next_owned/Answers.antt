-- `next_owned` passes over records whose first number is neither of two. Assumes nothing.
use mathlib.Core.Path.{◌∙◌}
use native.Mathlib.Omega.{arith}
use Rattle.instance.specs.Places.Skipped.{none, past}
use Rattle.instance.proofs.next_owned.Goals as goal

pub returns-then-records-lt-NUMBER_SIZE : goal.returns-then-records-lt-NUMBER_SIZE
returns-then-records-lt-NUMBER_SIZE c = none

pub loop-at-init : goal.loop-at-init
loop-at-init c = none

pub returns-then-owner-one : goal.returns-then-owner-one
returns-then-owner-one c = c.loop-at.invariant

pub returns-then-owner-other : goal.returns-then-owner-other
returns-then-owner-other c = c.loop-at.invariant

pub loop-at-preserved : goal.loop-at-preserved
loop-at-preserved c = past c.loop-at.invariant (omega arith) (λ e. c.if-owner-one.false (c.word-owner.ensures ∙ e)) (λ e. c.if-owner-other.false (c.word-owner.ensures ∙ e))

pub returns : goal.returns
returns c = c.loop-at.invariant

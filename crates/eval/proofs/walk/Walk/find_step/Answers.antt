-- `find_step` finds what the notes tell. Assumes nothing.
use borrow.Author.Tests.{eqb-true}
use native.Mathlib.Omega.{arith}
use mathlib.Core.Path.{sym}
use Rattle.eval.proofs.FoundLaws.{found_asked, found_told}
use Rattle.eval.proofs.walk.Walk.find_step.Goals as goal
use Rattle.eval.proofs.walk.Walk.find_step.Goals.{in-Some-step_of, in-None}

pub returns-after-step_of : goal.returns-after-step_of
returns-after-step_of c =
    elim c.match-step_of.branch [
      | in-Some-step_of w ↦ found_told c.requires.1 (omega arith) w.profiles-is c.requires.0 (eqb-true _ _ (sym c.if-not-is_empty.ensures)) c.step_of.ensures w.in-Some-step_of.is
      | in-None w ↦ found_asked c.requires.1 (omega arith) w.profiles-is
    ]

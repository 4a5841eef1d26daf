-- `step_of` goes on over `diagnostics` and each `where` that is noted as true, and tells what the first other call makes of a member.
-- Assumes nothing.
use Rattle.eval.proofs.StepLaws.{Passing}
use Rattle.eval.proofs.walk.Walk.step_of.Given as goal

abbrev pub invariant-loop-i : goal.invariant-loop-i
invariant-loop-i l = Passing l.self.pipeline.calls.now l.from l.place l.self.notes.now l.i

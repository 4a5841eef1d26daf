-- `kind_after` gives the plan's entry: the kind so far is that after the calls read. Assumes nothing.
use Rattle.eval.proofs.ReadyLaws.{Kinds}
use Rattle.eval.proofs.ready.kind_after.Given as goal

abbrev pub invariant-loop-call : goal.invariant-loop-call
invariant-loop-call l = Kinds l.calls l.fn.source l.kind l.call-index

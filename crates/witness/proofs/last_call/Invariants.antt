-- `last_call` looks at the rows from the last on. Assumes nothing.
use Rattle.witness.proofs.WitnessLaws.{Past}
use Rattle.witness.proofs.last_call.Given as goal

abbrev pub invariant-loop-i : goal.invariant-loop-i
invariant-loop-i l = Past l.tree l.i

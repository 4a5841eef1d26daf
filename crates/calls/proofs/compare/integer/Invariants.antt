-- `integer` gives `integer_for`: the digits read so far write n. Assumes nothing.
use Rattle.calls.proofs.CompareLaws.{ReadTo}
use Rattle.calls.proofs.compare.integer.Given as goal

abbrev pub invariant-loop-b : goal.invariant-loop-b
invariant-loop-b l = ReadTo l.digits l.n l.b-index

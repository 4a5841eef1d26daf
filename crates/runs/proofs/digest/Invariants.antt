-- `digest` keeps its sum below the modulus. Assumes nothing.
use Rattle.std.proofs.Common.{◌≤◌}
use Rattle.runs.proofs.digest.Given as goal

abbrev pub invariant-loop-number : goal.invariant-loop-number
invariant-loop-number l = l.sum ≤ 4294967290

-- `fill` has written each place before the next one. Assumes nothing.
use Rattle.std.proofs.Common.{◌≡◌, ◌<◌, ℕ, length, slice_index}
use Rattle.cases.specs.Noise.{noise}
use Rattle.cases.proofs.noise.fill.Given as goal

abbrev pub invariant-loop-at : goal.invariant-loop-at
invariant-loop-at l = record {
  len : length l.table ≡ length l.initial.table;
  numbers : (k : ℕ) → k < l.at → slice_index l.table k ≡ noise l.seed k;
}

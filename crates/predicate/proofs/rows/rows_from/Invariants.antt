-- `rows::rows_from` finds the rows from the first one that passes, whatever test says what the closure tells. Assumes nothing.
use Rattle.std.proofs.Common.{◌≡◌, ℕ, ◌≤◌, Bool, length}
use Rattle.predicate.specs.Rows.{rows_from}
use Rattle.predicate.specs.Eval.{Tells}
use Rattle.predicate.proofs.rows.rows_from.Given as goal

abbrev pub invariant-loop-rows : goal.invariant-loop-rows
invariant-loop-rows g l = record {
  found : (p : ℕ → Bool) → Tells (goal.F-post g l.test) p → rows_from p l.level l.rows ≡ rows_from p l.level l.all;
  shorter : length l.rows ≤ length l.all;
}

abbrev pub decreases-loop-rows : goal.decreases-loop-rows
decreases-loop-rows g l = length l.rows

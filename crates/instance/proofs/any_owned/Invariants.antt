-- `any_owned` goes over a section's records, whatever p says what the closure tells. Assumes nothing.
use Rattle.std.proofs.Common.{ℕ, ◌-◌, Bool}
use Rattle.board.specs.Image.{record_count}
use Rattle.instance.specs.Instance.{some}
use Rattle.instance.specs.Places.{Tells, IsOwned, record_passes}
use Rattle.instance.proofs.PlaceLaws.{Walking}
use Rattle.instance.proofs.any_owned.Given as goal

abbrev pub invariant-loop-at : goal.invariant-loop-at
invariant-loop-at g l =
    (p : ℕ → Bool) → Tells (goal.F-post g l.test) p → IsOwned p l.image l.one l.other
    → Walking p l.first l.count l.at (some (record_passes p l.image l.fn.section) 0 (record_count l.image l.fn.section))

abbrev pub decreases-loop-at : goal.decreases-loop-at
decreases-loop-at g l = l.end - l.at

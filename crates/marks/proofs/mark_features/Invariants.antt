-- `mark_features` gives `feature_marks`, component by component where some feature has the name. Assumes nothing.
use mathlib.Core.Path.{◌≡◌}
use Rattle.marks.proofs.MarkLaws.{Featuring}
use Rattle.marks.proofs.mark_features.Given as goal

abbrev pub invariant-loop-component : goal.invariant-loop-component
invariant-loop-component l =
    record { featuring : Featuring l.image l.name l.initial.marks l.component-end l.component l.marks; names : (l.names.image.now ≡ l.image) × (l.names.bytes.now ≡ l.name) }

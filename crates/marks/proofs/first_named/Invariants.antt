-- `first_named` goes past features that do not have the name. Assumes nothing.
use mathlib.Core.Path.{◌≡◌}
use Rattle.marks.specs.Marks.{NoneBefore}
use Rattle.marks.proofs.first_named.Given as goal

abbrev pub invariant-loop-feature : goal.invariant-loop-feature
invariant-loop-feature l =
    record {
      none : NoneBefore l.initial.names.image.now l.initial.names.bytes.now l.feature;
      names : (l.names.image ≡ l.initial.names.image) × (l.names.bytes ≡ l.initial.names.bytes);
    }

-- `mark_named` gives `property_marks`: all marks are cleared, then properties are looked at one by one. Assumes nothing.
use mathlib.Core.Path.{◌≡◌}
use lib.ListN.{length}
use Rattle.marks.proofs.MarkLaws.{Marking}
use Rattle.marks.proofs.mark_named.Given as goal

abbrev pub invariant-loop-n : goal.invariant-loop-n
invariant-loop-n l =
    record {
      marking : Marking l.image l.set l.name (length l.initial.marks) l.n-end l.n l.marks;
      sets : (l.sets.image.now ≡ l.image) × (l.sets.bytes.now ≡ l.set);
      names : (l.names.image.now ≡ l.image) × (l.names.bytes.now ≡ l.name);
    }

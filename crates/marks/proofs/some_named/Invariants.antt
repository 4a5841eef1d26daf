-- `some_named` looks for a feature of a name, feature by feature. Assumes nothing.
use mathlib.Core.Path.{◌≡◌}
use Prim.Native.Nat.{◌-◌}
use Rattle.instance.specs.Instance.{some, feature_is}
use Rattle.instance.proofs.InstanceLaws.{Searching}
use Rattle.marks.proofs.some_named.Given as goal

abbrev pub invariant-loop-feature : goal.invariant-loop-feature
invariant-loop-feature l =
    record {
      searching : Searching (feature_is l.initial.names.image.now l.initial.names.bytes.now) l.end l.feature (some (feature_is l.initial.names.image.now l.initial.names.bytes.now) l.first (l.end - l.first));
      names : (l.names.image ≡ l.initial.names.image) × (l.names.bytes ≡ l.initial.names.bytes);
    }

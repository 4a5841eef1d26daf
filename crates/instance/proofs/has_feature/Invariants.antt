-- `has_feature` gives `has_feature`, feature by feature from the component's first. Assumes nothing.
use Rattle.instance.specs.Instance.{feature_is, has_feature}
use Rattle.instance.proofs.InstanceLaws.{Searching}
use Rattle.instance.proofs.has_feature.Given as goal

abbrev pub invariant-loop-n : goal.invariant-loop-n
invariant-loop-n l = Searching (feature_is l.image l.name) l.end l.n (has_feature l.image l.component l.name)

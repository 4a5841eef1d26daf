-- `has_feature` gives `has_feature`, feature by feature from the component's first. Assumes nothing.
use mathlib.Core.Path.{sym, ◌∙◌}
use Rattle.instance.proofs.InstanceLaws.{features_start, searching_hit, searching_miss, searching_done}
use Rattle.instance.proofs.PlaceLaws.{feature_placed}
use Rattle.instance.proofs.has_feature.Goals as goal

pub loop-n-init : goal.loop-n-init
loop-n-init c = features_start _ _ _ c.features-start.ensures.end c.features-start.ensures.first

pub returns-then-feature_is : goal.returns-then-feature_is
returns-then-feature_is c = searching_hit c.loop-n.invariant c.loop-n-test.true (sym (feature_placed _ _ c.section_offset-first.ensures _) ∙ sym c.feature_is.ensures ∙ c.if-feature_is.true)

pub loop-n-preserved : goal.loop-n-preserved
loop-n-preserved c = searching_miss c.loop-n.invariant c.loop-n-test.true (sym (feature_placed _ _ c.section_offset-first.ensures _) ∙ sym c.feature_is.ensures ∙ c.if-feature_is.false)

pub returns : goal.returns
returns c = searching_done c.loop-n.invariant c.loop-n-test.false

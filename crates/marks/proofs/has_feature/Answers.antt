-- `has_feature` looks at the features of a component, from the place on before which none has the name. Assumes nothing.
use mathlib.Core.Path.{◌∙◌}
use Rattle.instance.proofs.InstanceLaws.{features_start}
use Rattle.marks.proofs.NameLaws.{past_none}
use Rattle.marks.proofs.has_feature.Goals as goal

pub returns-clause-has : goal.returns-clause-has
returns-clause-has c =
    c.some_named.ensures.some ∙ past_none _ _ c.requires _ _ c.max.ensures ∙ (features_start _ _ _ c.features-first.ensures.end c.features-first.ensures.first).rest

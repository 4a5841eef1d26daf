-- `count_features` gives the number from the first feature to the end. Assumes nothing.
use Rattle.eval.proofs.ListedLaws.{features_number}
use mathlib.Core.Path.{◌∙◌}
use Rattle.eval.proofs.listed.count_features.Goals as goal

pub returns : goal.returns
returns c = c.saturating_sub.ensures ∙ features_number _ _ c.features-first.ensures.end c.features-first.ensures.first

-- `Sectioned::features_fit` gives `features_fit`. Assumes nothing.
use mathlib.Core.Path.{refl, ◌∙◌}
use Rattle.board.specs.Check.{features_fit}
use Rattle.board.proofs.CheckLaws.{limits_same}
use Rattle.board.proofs.Sectioned.features_fit.Goals as goal

pub returns : goal.returns
unfolding features_fit
returns c = c.all_below.ensures ∙ limits_same _ _ c.record_count-strings.ensures refl refl

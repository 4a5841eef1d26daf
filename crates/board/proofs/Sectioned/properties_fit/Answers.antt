-- `Sectioned::properties_fit` gives `properties_fit`. Assumes nothing.
use mathlib.Core.Path.{◌∙◌}
use Rattle.board.specs.Check.{properties_fit}
use Rattle.board.proofs.CheckLaws.{limits_same}
use Rattle.board.proofs.Sectioned.properties_fit.Goals as goal

pub returns : goal.returns
unfolding properties_fit
returns c = c.all_below.ensures ∙ limits_same _ _ c.record_count-components.ensures c.record_count-strings.ensures c.record_count-strings.ensures

-- `Sectioned::diagnostics_fit` gives `diagnostics_fit`. Assumes nothing.
use mathlib.Core.Path.{refl, ◌∙◌}
use Rattle.board.specs.Check.{diagnostics_fit}
use Rattle.board.proofs.CheckLaws.{limits_same}
use Rattle.board.proofs.Sectioned.diagnostics_fit.Goals as goal

pub returns : goal.returns
unfolding diagnostics_fit
returns c = c.all_below.ensures ∙ limits_same _ _ c.record_count-strings.ensures refl c.record_count-strings.ensures

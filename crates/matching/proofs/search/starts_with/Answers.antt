-- `search::starts_with` gives `starts_with` of the text from a place on. Assumes nothing.
use mathlib.Core.Path.{◌∙◌}
use Rattle.matching.proofs.SearchLaws.{starting_at}
use Rattle.matching.proofs.search.starts_with.Goals as goal

pub returns : goal.returns
returns c = c.eq.ensures ∙ starting_at _ _ _

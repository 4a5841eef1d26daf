-- `search::find` gives the first place of a part: none is empty or longer than the text where it is searched for. Assumes nothing.
use mathlib.Core.Path.{sym, ◌∙◌}
use native.Mathlib.Omega.{arith}
use borrow.Author.Tests.{eqb-true}
use Rattle.matching.proofs.SearchLaws.{seeking_start, seeking_found, seeking_absent, starting_empty}
use Rattle.matching.proofs.search.find.Goals as goal

pub returns-then-is_empty : goal.returns-then-is_empty
returns-then-is_empty c = seeking_found seeking_start (starting_empty _ _ (eqb-true _ _ (sym c.is_empty.ensures ∙ c.if-is_empty.true)))

pub returns-then-text-part : goal.returns-then-text-part
returns-then-text-part c = seeking_absent seeking_start (omega arith) (omega arith)

-- `rows::is_below` gives `is_below`. Assumes nothing.
use Rattle.predicate.proofs.RowLaws.{below_none, below_there}
use Rattle.predicate.proofs.rows.is_below.Goals as goal

pub returns-in-Some : goal.returns-in-Some
returns-in-Some c = below_there _ c.in-Some.ensures

pub returns-in-None : goal.returns-in-None
returns-in-None c = below_none _ _ _ c.in-None.ensures

-- `eval_predicate` gives the truth of the predicate whose row is at a place. Assumes nothing.
use Rattle.predicate.proofs.EvalLaws.{truth_missing}
use Rattle.predicate.proofs.eval_predicate.Goals as goal

pub returns-in-None : goal.returns-in-None
returns-in-None c = truth_missing _ _ _ _ _ c.in-None.ensures

-- What is left of the table falls from call to call. Assumes nothing.
use Prim.Native.Nat.{◌-◌}
use lib.ListN.{length}
use Rattle.predicate.proofs.Evaluator.+eval_inside.Given as goal

abbrev pub decreases-eval_inside : goal.decreases-eval_inside
decreases-eval_inside l = length l.self.now.tree.now - l.at

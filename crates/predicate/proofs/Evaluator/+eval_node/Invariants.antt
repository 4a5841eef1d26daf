-- The functions that call each other give the truth of the tree whose rows these are; rows left fall around the cycle. Assumes nothing.
use Prim.Native.Nat.{◌+◌, ◌*◌, ◌-◌}
use lib.ListN.{length}
use Rattle.predicate.proofs.EvalLaws.{Joining}
use Rattle.predicate.proofs.Evaluator.+eval_node.Given as goal

abbrev pub decreases-eval_inner : goal.decreases-eval_inner
decreases-eval_inner l = 2 * (length l.self.now.tree.now - l.from) + 1

abbrev pub decreases-eval_node : goal.decreases-eval_node
decreases-eval_node l = 2 * (length l.self.now.tree.now - l.at)

abbrev pub decreases-eval_operand : goal.decreases-eval_operand
decreases-eval_operand l = 2 * (length l.self.now.tree.now - l.operands.at) + 1

abbrev pub decreases-eval_operands : goal.decreases-eval_operands
decreases-eval_operands l = 2 * (length l.self.now.tree.now - l.from) + 2

abbrev pub invariant-eval_operands-loop-operands : goal.invariant-eval_operands-loop-operands
invariant-eval_operands-loop-operands l = Joining l.self l.level l.from l.operands

abbrev pub decreases-eval_operands-loop-operands : goal.decreases-eval_operands-loop-operands
decreases-eval_operands-loop-operands l = length l.self.tree.now - l.operands.at

-- `eval_node` goes by the kind of the first node in the root. Assumes nothing.
use Rattle.eval.proofs.PipelineLaws.{inner_few, node_empty, node_compare, node_pipeline}
use native.Mathlib.Omega.{arith}
use Rattle.std.proofs.Common.{rules}
use Rattle.eval.proofs.pipeline.eval_node.Goals as goal

pub returns-in_default : goal.returns-in_default
returns-in_default c = node_empty _ _ _ c.first_child.ensures c.in_default.is

pub eval_count_compare-requires : goal.eval_count_compare-requires
eval_count_compare-requires c = (omega arith, c.requires.0, inner_few c.requires.1 c.first_child.ensures c.in-Some.is)

pub returns-in-Ok-CountCompareExpr : goal.returns-in-Ok-CountCompareExpr
returns-in-Ok-CountCompareExpr c = node_compare _ _ _ c.first_child.ensures c.in-Some.is (search rules) c.eval_count_compare.ensures

pub eval_pipeline-requires : goal.eval_pipeline-requires
eval_pipeline-requires c = (omega arith, c.requires.0, inner_few c.requires.1 c.first_child.ensures c.in-Some.is)

pub returns-in_default-kind_at : goal.returns-in_default-kind_at
returns-in_default-kind_at c = node_pipeline _ _ _ c.first_child.ensures c.in-Some.is (search rules) c.eval_pipeline.ensures

-- `eval_count_compare` judges the left side, then the integer, then counts and compares. Assumes nothing.
use Rattle.std.proofs.Common.{rules}
use Rattle.eval.proofs.PipelineLaws.{calls_room, planned_room, inner_few, compare_none, compare_refused, compare_boolean, compare_large, compare_given}
use native.Mathlib.Omega.{arith}
use Rattle.eval.proofs.pipeline.Evaluator.eval_count_compare.Goals as goal

pub returns-in_default : goal.returns-in_default
returns-in_default c = compare_none _ _ _ _ c.first_child.ensures c.in_default.is

pub plan_pipeline-requires : goal.plan_pipeline-requires
plan_pipeline-requires c = omega (arith, calls_room (inner_few c.requires.2 c.first_child.ensures c.in-Some.is) c.requires.0)

pub returns-then-eq : goal.returns-then-eq
returns-then-eq c = compare_boolean _ _ _ _ c.first_child.ensures c.in-Some.is _ c.plan_pipeline.ensures (c.in_ok-plan.was {u = tt}) (search rules)

pub returns-in_default-integer : goal.returns-in_default-integer
returns-in_default-integer c = compare_large _ _ _ _ c.first_child.ensures c.in-Some.is _ c.plan_pipeline.ensures (c.in_ok-plan.was {u = tt}) (λ e. search (rules, e)) c.integer.ensures c.integer-2.ensures c.in_default-integer.is

pub count_members-left-requires : goal.count_members-left-requires
count_members-left-requires c = (omega (arith, planned_room _ (inner_few c.requires.2 c.first_child.ensures c.in-Some.is) c.requires.0 c.plan_pipeline.ensures (c.in_ok-plan.was {u = tt})), c.requires.1)

pub returns-in_err-plan : goal.returns-in_err-plan
returns-in_err-plan c = compare_refused _ _ _ _ c.first_child.ensures c.in-Some.is _ c.plan_pipeline.ensures (c.in_err-plan.was {u = tt}) (search rules)

pub returns : goal.returns
returns c = compare_given _ _ _ _ c.first_child.ensures c.in-Some.is _ c.plan_pipeline.ensures (c.in_ok-plan.was {u = tt}) (λ e. search (rules, e)) c.integer.ensures c.integer-2.ensures c.in-Some-integer.is c.operator.ensures c.count_members-left.ensures (cc)

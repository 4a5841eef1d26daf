-- `plan_pipeline` finds the source, makes the calls ready and asks the table for the kind. Assumes nothing.
use Rattle.eval.proofs.PlanLaws.{no_source, pipeline_calls, planned_refused, planned_ready}
use Rattle.std.proofs.Common.{rules}
use mathlib.Core.Path.{ap}
use native.Mathlib.Omega.{arith}
use lib.ListN.{length}
use Rattle.eval.proofs.ready.plan_pipeline.Goals as goal

pub returns-in_default : goal.returns-in_default
returns-in_default c = no_source _ _ _ c.first_child.ensures c.in_default.is

pub put_calls-count-requires : goal.put_calls-count-requires
put_calls-count-requires c = omega (arith, ap length (pipeline_calls c.args.rule.now _ _ c.first_child.ensures c.in-Some.is))

pub returns-in_err-kind : goal.returns-in_err-kind
returns-in_err-kind c = planned_refused _ _ _ c.first_child.ensures c.in-Some.is c.put_calls-count.ensures c.source_kind.ensures c.kind_after.ensures (c.in_err-kind.was {u = tt}) (search rules)

pub returns : goal.returns
returns c = planned_ready _ _ _ c.first_child.ensures c.in-Some.is c.put_calls-count.ensures c.source_kind.ensures c.kind_after.ensures (c.in_ok-kind.was {u = tt})

-- `eval_pipeline` sends the members of what was planned, and gives what is settled. Assumes nothing.
use Rattle.eval.proofs.PlanLaws.{plan_ready}
use Rattle.eval.proofs.PipelineLaws.{calls_room, last_decides, pipeline_refused, pipeline_given}
use native.Mathlib.Omega.{arith}
use Rattle.std.proofs.Common.{rules}
use Rattle.eval.proofs.ReadyLaws.{last_found}
use Rattle.eval.proofs.pipeline.Evaluator.eval_pipeline.Goals as goal

pub plan_pipeline-requires : goal.plan_pipeline-requires
plan_pipeline-requires c = omega (arith, calls_room c.requires.2 c.requires.0)

pub walk-tally-requires : goal.walk-tally-requires
walk-tally-requires c =
    record {
      well = c.requires.1.well;
      room = c.requires.1.room;
      decides = last_decides _ _ (last_found c.last_method-last.ensures);
    }

pub returns-in_err-plan : goal.returns-in_err-plan
returns-in_err-plan c = pipeline_refused _ _ _ _ _ c.plan_pipeline.ensures (c.in_err-plan.was {u = tt}) (search rules)

pub returns : goal.returns
returns c = pipeline_given _ _ _ _ (plan_ready c.plan_pipeline.ensures (c.in_ok-plan.was {u = tt})) c.walk-tally.ensures (last_found c.last_method-last.ensures) c.value.ensures

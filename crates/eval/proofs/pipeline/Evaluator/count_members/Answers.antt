-- `count_members` sends all members to a `count` behind the calls. Assumes nothing.
use Rattle.eval.proofs.PipelineLaws.{count_decides, counts}
use Rattle.eval.proofs.pipeline.Evaluator.count_members.Goals as goal

pub walk-requires : goal.walk-requires
walk-requires c = record { well = c.requires.1.well; room = c.requires.1.room; decides = count_decides _ }

pub returns : goal.returns
returns c = counts c.args.self.now.rule.now c.args.self.now.image.now c.args.self.now.tree.now c.args.plan c.args.calls.now c.requires.0 c.walk.ensures

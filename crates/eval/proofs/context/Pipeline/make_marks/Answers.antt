-- `make_marks` marks one row after the other. Assumes nothing.
use native.Mathlib.Omega.{arith}
use lib.ListN.{length-set}
use mathlib.Core.Path.{◌∙◌}
use Rattle.eval.proofs.MarkedLaws.{making_start, making_on}
use Rattle.eval.proofs.context.Pipeline.make_marks.Goals as goal

pub loop-n-init : goal.loop-n-init
loop-n-init c = (c.told-marked, making_start _ _ _ _)

pub loop-n-preserved : goal.loop-n-preserved
loop-n-preserved c = (length-set _ _ _ ∙ c.loop-n.invariant.0, making_on c.loop-n.invariant.1 c.loop-n-test.true (omega arith) c.mark.ensures)

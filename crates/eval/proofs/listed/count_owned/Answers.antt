-- `count_owned` adds the features of each component: those of the ones left are still to come. Assumes nothing.
use Rattle.eval.proofs.ListedLaws.{counting_start, counting_on, counting_end}
use native.Mathlib.Omega.{arith}
use Rattle.eval.proofs.listed.count_owned.Goals as goal

pub loop-component-init : goal.loop-component-init
loop-component-init c = counting_start _ c.record_count-count.ensures

pub loop-component-preserved : goal.loop-component-preserved
loop-component-preserved c = counting_on c.loop-component.invariant c.loop-component-test.true c.count_features.ensures (omega arith)

pub returns : goal.returns
returns c = counting_end c.loop-component.invariant (omega arith)

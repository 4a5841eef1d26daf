-- `feed_each_component` sends every component: those left come to what all come to. Assumes nothing.
use Rattle.eval.proofs.ListedLaws.{every_made}
use Rattle.eval.proofs.SentLaws.{up_start, up_next, up_on, up_stop, up_end}
use native.Mathlib.Omega.{arith}
use Rattle.eval.proofs.walk.Walk.feed_each_component.Goals as goal

pub loop-component-init : goal.loop-component-init
loop-component-init c = up_start c.requires (every_made _ c.record_count-count.ensures)

pub feed_component-requires : goal.feed_component-requires
feed_component-requires c = up_next c.loop-component.invariant c.loop-component-test.true

pub returns-then-is_decided : goal.returns-then-is_decided
returns-then-is_decided c = up_stop c.loop-component.invariant c.loop-component-test.true c.feed_component.ensures c.is_decided.ensures c.if-is_decided.true

pub loop-component-preserved : goal.loop-component-preserved
loop-component-preserved c = up_on c.loop-component.invariant c.loop-component-test.true c.feed_component.ensures c.is_decided.ensures c.if-is_decided.false

pub returns : goal.returns
returns c = up_end c.loop-component.invariant (omega arith)

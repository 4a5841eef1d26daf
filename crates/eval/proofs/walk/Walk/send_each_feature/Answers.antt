-- `send_each_feature` sends the features of every component: those left come to what all come to. Assumes nothing.
use Rattle.eval.proofs.FoundLaws.{found_none}
use Rattle.eval.proofs.ListedLaws.{every_made}
use Rattle.eval.proofs.SentLaws.{first_sending, first_sent, up_start, up_next, going_call, up_on, up_stop, up_end}
use native.Mathlib.Omega.{arith}
use Rattle.eval.proofs.walk.Walk.send_each_feature.Goals as goal

pub loop-component-init : goal.loop-component-init
loop-component-init c = (up_start c.requires.0 (every_made _ c.record_count-count.ensures), found_none _ _)

pub send_features-requires : goal.send_features-requires
send_features-requires c = (first_sending (going_call c.loop-component.invariant.0.going c.requires.1) (up_next c.loop-component.invariant.0 c.loop-component-test.true), c.loop-component.invariant.1)

pub returns-then-is_decided : goal.returns-then-is_decided
returns-then-is_decided c =
    up_stop c.loop-component.invariant.0 c.loop-component-test.true (first_sent (going_call c.loop-component.invariant.0.going c.requires.1) c.send_features.ensures.0) c.is_decided.ensures c.if-is_decided.true

pub loop-component-preserved : goal.loop-component-preserved
loop-component-preserved c = (
  up_on c.loop-component.invariant.0 c.loop-component-test.true (first_sent (going_call c.loop-component.invariant.0.going c.requires.1) c.send_features.ensures.0) c.is_decided.ensures c.if-is_decided.false,
  c.send_features.ensures.1,
)

pub returns : goal.returns
returns c = up_end c.loop-component.invariant.0 (omega arith)

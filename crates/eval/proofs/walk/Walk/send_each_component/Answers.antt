-- `send_each_component` sends every component: those left come to what all come to. Assumes nothing.
use Rattle.eval.proofs.FoundLaws.{found_none}
use Rattle.eval.proofs.ListedLaws.{every_made}
use Rattle.eval.proofs.SentLaws.{up_start, up_next, going_profile, up_on, up_stop, up_end}
use native.Mathlib.Omega.{arith}
use Rattle.eval.proofs.walk.Walk.send_each_component.Goals as goal

pub loop-component-init : goal.loop-component-init
loop-component-init c = (up_start c.requires (every_made _ c.record_count-count.ensures), found_none _ _)

pub send_as_found-requires-clause-member : goal.send_as_found-requires-clause-member
send_as_found-requires-clause-member c = (
  up_next c.loop-component.invariant.0 c.loop-component-test.true,
  going_profile c.loop-component.invariant.0.going _ c.component_profile-profile.ensures,
)

pub send_as_found-requires-clause-found : goal.send_as_found-requires-clause-found
send_as_found-requires-clause-found c = c.loop-component.invariant.1

pub returns-then-is_decided : goal.returns-then-is_decided
returns-then-is_decided c = up_stop c.loop-component.invariant.0 c.loop-component-test.true c.send_as_found.ensures.sent c.is_decided.ensures c.if-is_decided.true

pub loop-component-preserved : goal.loop-component-preserved
loop-component-preserved c = (
  up_on c.loop-component.invariant.0 c.loop-component-test.true c.send_as_found.ensures.sent c.is_decided.ensures c.if-is_decided.false,
  c.send_as_found.ensures.found,
)

pub returns : goal.returns
returns c = up_end c.loop-component.invariant.0 (omega arith)

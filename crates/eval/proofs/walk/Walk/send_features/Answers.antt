-- `send_features` sends the features of a component: those left come to what all come to. Assumes nothing.
use Rattle.eval.proofs.ListedLaws.{features_are}
use Rattle.eval.proofs.SentLaws.{up_start, up_next, going_profile, up_on, up_stop, up_end}
use Rattle.profile.proofs.ProfileLaws.{feature_owned}
use native.Mathlib.Omega.{arith}
use Rattle.eval.proofs.walk.Walk.send_features.Goals as goal

pub loop-feature-init : goal.loop-feature-init
loop-feature-init c = (up_start c.requires.0 (features_are _ _ c.features-first.ensures.end c.features-first.ensures.first), c.requires.1)

pub send_as_found-requires-clause-member : goal.send_as_found-requires-clause-member
send_as_found-requires-clause-member c = (
  up_next c.loop-feature.invariant.0 c.loop-feature-test.true,
  going_profile c.loop-feature.invariant.0.going _ (feature_owned _ _ _ _ c.component_profile-owner.ensures c.owned_profile-profile.ensures),
)

pub send_as_found-requires-clause-found : goal.send_as_found-requires-clause-found
send_as_found-requires-clause-found c = c.loop-feature.invariant.1

pub returns-then-is_decided : goal.returns-then-is_decided
returns-then-is_decided c = (
  up_stop c.loop-feature.invariant.0 c.loop-feature-test.true c.send_as_found.ensures.sent c.is_decided.ensures c.if-is_decided.true,
  c.send_as_found.ensures.found,
)

pub loop-feature-preserved : goal.loop-feature-preserved
loop-feature-preserved c = (
  up_on c.loop-feature.invariant.0 c.loop-feature-test.true c.send_as_found.ensures.sent c.is_decided.ensures c.if-is_decided.false,
  c.send_as_found.ensures.found,
)

pub returns : goal.returns
returns c = (up_end c.loop-feature.invariant.0 (omega arith), c.loop-feature.invariant.1)

-- A member through the calls from a place on, by itself or by its features: the calls left fall around the cycle. Assumes nothing.
use Rattle.std.proofs.Common.{rules}
use Rattle.eval.proofs.ListedLaws.{features_are}
use Rattle.eval.proofs.SentLaws.{same_calls, here, going_profile, end_takes, end_listed, kept_sending, kept_sent, dropped_sent, owned_sending, owned_sent, owned_none, passed_sending, passed_sent, arriving, told_step, step_takes, step_sent, up_start, up_next, up_on, up_stop, up_end}
use Rattle.profile.proofs.ProfileLaws.{feature_owned}
use native.Mathlib.Omega.{arith}
use mathlib.Core.Path.{sym, ◌∙◌}
use Rattle.eval.proofs.walk.Walk.+feed.Goals as goal

pub feed-list-requires : goal.feed-list-requires
feed-list-requires t c = end_takes c.nth.ensures c.requires c.in_default.is

pub feed-returns-in_default : goal.feed-returns-in_default
feed-returns-in_default t c = end_listed c.nth.ensures c.requires c.in_default.is c.list.ensures

pub feed-feed-requires : goal.feed-feed-requires
feed-feed-requires t c = (omega (arith, c.decreases, (here c.nth.ensures c.requires c.in-Some.is).0, same_calls c.ask.ensures.stays.same), kept_sending c.nth.ensures c.requires c.in-Some.is c.in-Where.is c.ask.ensures c.if-ask.true)

pub feed-returns-then-ask : goal.feed-returns-then-ask
feed-returns-then-ask t c = kept_sent c.nth.ensures c.requires c.in-Some.is c.in-Where.is c.ask.ensures c.if-ask.true c.feed.ensures

pub feed-returns-else-ask : goal.feed-returns-else-ask
feed-returns-else-ask t c = dropped_sent c.nth.ensures c.requires c.in-Some.is c.in-Where.is c.ask.ensures c.if-ask.false

pub feed-feed_features-requires : goal.feed-feed_features-requires
feed-feed_features-requires t c = (omega (arith, c.decreases, (here c.nth.ensures c.requires c.in-Some.is).0), owned_sending c.nth.ensures c.requires c.in-Some.is c.in-Features.is c.in-Component.is)

pub feed-returns-in-Component : goal.feed-returns-in-Component
feed-returns-in-Component t c = owned_sent c.nth.ensures c.requires c.in-Some.is c.in-Features.is c.in-Component.is c.feed_features.ensures

pub feed-returns-in_default-member : goal.feed-returns-in_default-member
feed-returns-in_default-member t c = owned_none c.nth.ensures c.requires c.in-Some.is c.in-Features.is c.in_default-member.not-Component

pub feed-arrive-requires : goal.feed-arrive-requires
feed-arrive-requires t c = arriving c.nth.ensures c.requires c.in-Some.is (search rules)

pub feed-feed-requires-in-Diagnostics : goal.feed-feed-requires-in-Diagnostics
feed-feed-requires-in-Diagnostics t c = (omega (arith, c.decreases, (here c.nth.ensures c.requires c.in-Some.is).0), passed_sending c.nth.ensures c.requires c.in-Some.is c.in-Diagnostics.is)

pub feed-returns-in-Diagnostics : goal.feed-returns-in-Diagnostics
feed-returns-in-Diagnostics t c = passed_sent c.nth.ensures c.requires c.in-Some.is c.in-Diagnostics.is c.feed-in-Diagnostics.ensures

pub feed_feature-send-requires : goal.feed_feature-send-requires
feed_feature-send-requires t c = (omega (arith, c.decreases), (c.requires.0, feature_owned _ _ _ _ c.requires.1 c.owned_profile-profile.ensures))

pub feed_features-loop-feature-init : goal.feed_features-loop-feature-init
feed_features-loop-feature-init t c = up_start c.requires (features_are _ _ c.features-first.ensures.end c.features-first.ensures.first)

pub feed_features-feed_feature-requires : goal.feed_features-feed_feature-requires
feed_features-feed_feature-requires t c = (omega (arith, c.decreases, same_calls c.loop-feature.invariant.going.same), (up_next c.loop-feature.invariant c.loop-feature-test.true, going_profile c.loop-feature.invariant.going _ c.component_profile-owner.ensures))

pub feed_features-returns-then-is_decided : goal.feed_features-returns-then-is_decided
feed_features-returns-then-is_decided t c = up_stop c.loop-feature.invariant c.loop-feature-test.true c.feed_feature.ensures c.is_decided.ensures c.if-is_decided.true

pub feed_features-loop-feature-preserved : goal.feed_features-loop-feature-preserved
feed_features-loop-feature-preserved t c = up_on c.loop-feature.invariant c.loop-feature-test.true c.feed_feature.ensures c.is_decided.ensures c.if-is_decided.false

pub feed_features-returns : goal.feed_features-returns
feed_features-returns t c = up_end c.loop-feature.invariant (omega arith)

pub send-take-requires : goal.send-take-requires
send-take-requires t c = step_takes c.requires.0 (told_step c.requires.0 (sym c.place_of.ensures.is ∙ c.in-Some.is) c.step_of.ensures c.in-Some-step_of.is)

pub send-returns-in-Some-step_of : goal.send-returns-in-Some-step_of
send-returns-in-Some-step_of t c = step_sent c.requires.0 (told_step c.requires.0 (sym c.place_of.ensures.is ∙ c.in-Some.is) c.step_of.ensures c.in-Some-step_of.is) c.take.ensures

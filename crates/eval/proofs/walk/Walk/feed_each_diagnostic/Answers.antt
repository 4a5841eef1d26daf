-- `feed_each_diagnostic` sends every diagnostic of the analysis: those left come to what all come to. Assumes nothing.
use Rattle.profile.proofs.ProfileLaws.{diagnostic_profile}
use Rattle.eval.proofs.FoundLaws.{found_none}
use Rattle.eval.proofs.ListedLaws.{diagnostics_made, diagnostic_next, diagnostic_past, diagnostics_none}
use Rattle.eval.proofs.FeedLaws.{alike_are, parts_are, lost_none}
use Rattle.eval.proofs.SentLaws.{going_start, going_first, going_profile, going_on, going_stop, going_skip, going_end}
use Rattle.predicate.specs.declared.atom.Member.TheVariants.{Diagnostic}
use native.Mathlib.Omega.{arith}
use mathlib.Core.List.{[], ◌∷◌}
use Rattle.eval.proofs.walk.Walk.feed_each_diagnostic.Goals as goal

pub loop-diagnostic-init : goal.loop-diagnostic-init
loop-diagnostic-init c = (
  cc,
  cc,
  found_none _ _,
  going_start c.requires (diagnostics_made _ _ c.record_count-count.ensures),
)

pub loop-diagnostic-preserved-then-not-is : goal.loop-diagnostic-preserved-then-not-is
loop-diagnostic-preserved-then-not-is c = (
  cc,
  cc,
  c.loop-diagnostic.invariant.2,
  going_skip c.loop-diagnostic.invariant.3 (alike_are (diagnostic_past _ _ _ _ (cc) c.loop-diagnostic-test.true)),
)

pub send_as_found-requires-clause-member : goal.send_as_found-requires-clause-member
send_as_found-requires-clause-member c = (
  going_first c.loop-diagnostic.invariant.3 (parts_are (Diagnostic _ ∷ []) (diagnostic_next _ _ _ _ (cc) c.loop-diagnostic-test.true)),
  going_profile c.loop-diagnostic.invariant.3 _ (diagnostic_profile _ _ _ c.diagnostic_profile-profile.ensures),
)

pub send_as_found-requires-clause-found : goal.send_as_found-requires-clause-found
send_as_found-requires-clause-found c = c.loop-diagnostic.invariant.2

pub returns-then-is_decided : goal.returns-then-is_decided
returns-then-is_decided c = going_stop c.loop-diagnostic.invariant.3 (parts_are (Diagnostic _ ∷ []) (diagnostic_next _ _ _ _ (cc) c.loop-diagnostic-test.true)) c.send_as_found.ensures.sent c.is_decided.ensures c.if-is_decided.true

pub loop-diagnostic-preserved : goal.loop-diagnostic-preserved
loop-diagnostic-preserved c = (
  cc,
  cc,
  c.send_as_found.ensures.found,
  going_on c.loop-diagnostic.invariant.3 (parts_are (Diagnostic _ ∷ []) (diagnostic_next _ _ _ _ (cc) c.loop-diagnostic-test.true)) c.send_as_found.ensures.sent c.is_decided.ensures c.if-is_decided.false,
)

pub returns : goal.returns
returns c = going_end c.loop-diagnostic.invariant.3 (lost_none (diagnostics_none _ _ _ _ (omega arith)))

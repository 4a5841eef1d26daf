-- `feed_owned_features` lists or counts the features of all components, or sends each component. Assumes nothing.
use Rattle.std.proofs.Common.{rules}
use Rattle.eval.proofs.FeedLaws.{stands_fed}
use Rattle.eval.proofs.ListedLaws.{owned_room, owned_listed, owned_counted, tallied, is_call}
use Rattle.meaning.specs.declared.Method.TheVariants.{Count}
use Rattle.eval.specs.Ready.{CallAt}
use mathlib.Core.Path.{subst, ◌∙◌}
use Rattle.eval.proofs.context.Pipeline.feed_owned_features.Goals as goal

pub list_owned-requires : goal.list_owned-requires
list_owned-requires c = let p = c.args.self in owned_room p.rule.now p.image.now p.tree.now p.calls.now c.requires.1 (subst (CallAt _ _) c.in_default.is c.nth.ensures) c.requires.0

pub returns-in_default : goal.returns-in_default
returns-in_default c =
    let p = c.args.self in
    stands_fed c.requires.0 (tallied _ c.tally_of.ensures ∙ owned_listed p.rule.now p.image.now p.tree.now p.calls.now c.requires.1 (subst (CallAt _ _) c.in_default.is c.nth.ensures) c.list_owned.ensures)

pub returns-then-eq : goal.returns-then-eq
returns-then-eq c =
    let p = c.args.self in
    stands_fed c.requires.0 (tallied _ c.tally_of-then-eq.ensures ∙ owned_counted p.rule.now p.image.now p.tree.now p.calls.now c.requires.1 _ (is_call Count c.nth.ensures c.in-Some.is (search rules)) c.count_owned.ensures)

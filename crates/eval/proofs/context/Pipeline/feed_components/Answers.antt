-- `feed_components` lists or counts all components, or sends each. Assumes nothing.
use Rattle.std.proofs.Common.{rules}
use Rattle.eval.proofs.FeedLaws.{stands_fed}
use Rattle.eval.proofs.ListedLaws.{listed_room, listed_all, counted_all, tallied, is_call}
use Rattle.meaning.specs.declared.Method.TheVariants.{Count, Features}
use Rattle.eval.specs.Ready.{CallAt}
use Rattle.eval.specs.Listed.{every_component}
use mathlib.Core.Path.{subst, ◌∙◌}
use Rattle.eval.proofs.context.Pipeline.feed_components.Goals as goal

pub list_components-requires : goal.list_components-requires
list_components-requires c = let p = c.args.self in listed_room p.rule.now p.image.now p.tree.now p.calls.now (subst (CallAt _ _) c.in_default.is c.nth.ensures) (every_component p.image.now) c.requires

pub returns-in_default : goal.returns-in_default
returns-in_default c =
    let p = c.args.self in
    stands_fed c.requires (tallied _ c.tally_of.ensures ∙ listed_all p.rule.now p.image.now p.tree.now p.calls.now (subst (CallAt _ _) c.in_default.is c.nth.ensures) (every_component p.image.now) c.list_components.ensures)

pub returns-then-eq : goal.returns-then-eq
returns-then-eq c =
    let p = c.args.self in
    stands_fed c.requires (tallied _ c.tally_of-then-eq.ensures ∙ counted_all p.rule.now p.image.now p.tree.now p.calls.now _ (is_call Count c.nth.ensures c.in-Some.is (search rules)) c.record_count.ensures)

pub feed_owned_features-requires : goal.feed_owned_features-requires
feed_owned_features-requires c = (c.requires, is_call Features c.nth.ensures c.in-Some.is (search rules))

-- `feed_diagnostics` lists or counts the diagnostics of the analysis, or sends each. Assumes nothing.
use Rattle.std.proofs.Common.{rules}
use Rattle.eval.proofs.FeedLaws.{stands_fed}
use Rattle.eval.proofs.ListedLaws.{listed_room, listed_all, counted_these, tallied, is_call}
use Rattle.meaning.specs.declared.Method.TheVariants.{Count}
use Rattle.eval.specs.Ready.{CallAt}
use Rattle.eval.specs.Walk.{every_of_analysis}
use mathlib.Core.Path.{subst, ◌∙◌}
use Rattle.eval.proofs.context.Pipeline.feed_diagnostics.Goals as goal

pub list_diagnostics-requires : goal.list_diagnostics-requires
list_diagnostics-requires c =
    let p = c.args.self in
    listed_room p.rule.now p.image.now p.tree.now p.calls.now (subst (CallAt _ _) c.in_default.is c.nth.ensures) (every_of_analysis p.image.now c.args.name.now) c.requires

pub returns-in_default : goal.returns-in_default
returns-in_default c =
    let p = c.args.self in
    stands_fed c.requires (tallied _ c.tally_of.ensures ∙ listed_all p.rule.now p.image.now p.tree.now p.calls.now (subst (CallAt _ _) c.in_default.is c.nth.ensures) (every_of_analysis p.image.now c.args.name.now) c.list_diagnostics.ensures)

pub returns-then-eq : goal.returns-then-eq
returns-then-eq c =
    let p = c.args.self in
    stands_fed c.requires (tallied _ c.tally_of-then-eq.ensures ∙ counted_these p.rule.now p.image.now p.tree.now p.calls.now (every_of_analysis p.image.now c.args.name.now) _ (is_call Count c.nth.ensures c.in-Some.is (search rules)) c.count_diagnostics.ensures)

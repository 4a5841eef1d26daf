-- `walk` sends all members of the source into cleared rows. Assumes nothing.
use Rattle.eval.proofs.SourceLaws.{rows_fits, rows_walked, decides_all, components_fit_lem, diagnostics_fit_lem, components_walked, diagnostics_walked}
use Rattle.eval.proofs.FeedLaws.{stands_is}
use Rattle.predicate.specs.Rows.{kind_at, children_at}
use mathlib.Core.Path.{◌∙◌}
use Rattle.std.proofs.Common.{rules}
use Rattle.eval.proofs.context.Pipeline.walk.Goals as goal

pub feed_components-requires : goal.feed_components-requires
feed_components-requires c =
    let p = c.args.self in
    rows_fits (components_fit_lem _ _ _ _ _ (kind_at p.tree.now c.args.source) (children_at p.rule.now p.tree.now c.args.source) c.requires.well c.requires.room) (decides_all _ _ _ c.requires.decides) c.clear.ensures

pub returns-in-Ok-IdentExpr : goal.returns-in-Ok-IdentExpr
returns-in-Ok-IdentExpr c =
    let p = c.args.self in
    stands_is c.feed_components.ensures
    (rows_walked (components_fit_lem _ _ _ _ _ (kind_at p.tree.now c.args.source) (children_at p.rule.now p.tree.now c.args.source) c.requires.well c.requires.room) c.clear.ensures
    ∙ components_walked _ _ _ _ _ _ _ (search rules))

pub feed_diagnostics-requires : goal.feed_diagnostics-requires
feed_diagnostics-requires c =
    let p = c.args.self in
    rows_fits (diagnostics_fit_lem _ _ _ _ _ (kind_at p.tree.now c.args.source) (children_at p.rule.now p.tree.now c.args.source) _ c.requires.room) (decides_all _ _ _ c.requires.decides) c.clear.ensures

pub returns-in_default : goal.returns-in_default
returns-in_default c =
    let p = c.args.self in
    stands_is c.feed_diagnostics.ensures
    (rows_walked (diagnostics_fit_lem _ _ _ _ _ (kind_at p.tree.now c.args.source) (children_at p.rule.now p.tree.now c.args.source) _ c.requires.room) c.clear.ensures
    ∙ diagnostics_walked _ _ _ _ _ _ _ _ (search rules) c.find_string_literal-name.ensures)

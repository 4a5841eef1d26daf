-- `list_diagnostics` writes the rows of the diagnostics of an analysis: those before one are written. Assumes nothing.
use Rattle.eval.proofs.ListedLaws.{listing_start, listing_on, listing_skip, listing_end, listing_room, lists_one, diagnostics_made, diagnostic_next, diagnostic_past, diagnostics_none}
use Rattle.predicate.specs.declared.atom.Member.TheVariants.{Diagnostic}
use native.Mathlib.Omega.{arith}
use mathlib.Core.List.{◌∷◌, []}
use mathlib.Core.Path.{◌∙◌}
use Rattle.eval.proofs.listed.list_diagnostics.Goals as goal
use Rattle.eval.proofs.listed.list_diagnostics.Goals.{then-is, else-is}

pub loop-diagnostic-init : goal.loop-diagnostic-init
loop-diagnostic-init c = (cc, cc, listing_start _ _ _ (diagnostics_made _ _ c.record_count-count.ensures))

pub put_member-requires : goal.put_member-requires
put_member-requires c = listing_room c.loop-diagnostic.invariant.2 (Diagnostic _ ∷ []) _ (diagnostic_next _ _ _ _ (cc) c.loop-diagnostic-test.true) (omega (arith, c.requires))

pub loop-diagnostic-preserved : goal.loop-diagnostic-preserved
loop-diagnostic-preserved c = (
  cc,
  cc,
  elim c.if-is.branch [
    | then-is w ↦ listing_on c.loop-diagnostic.invariant.2 (Diagnostic _ ∷ []) (diagnostic_next _ _ _ _ (cc) c.loop-diagnostic-test.true) (record { row = w.row-is; table = w.collection-is ∙ (lists_one (Diagnostic _) _ _ w.put_member.ensures).table })
    | else-is w ↦ listing_skip c.loop-diagnostic.invariant.2 (diagnostic_past _ _ _ _ (cc) c.loop-diagnostic-test.true) w.row-is w.collection-is
  ],
)

pub returns : goal.returns
returns c = listing_end c.loop-diagnostic.invariant.2 (diagnostics_none _ _ _ _ (omega arith))

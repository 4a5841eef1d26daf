-- `count_diagnostics` counts the diagnostics of an analysis: those before one are counted. Assumes nothing.
use Rattle.eval.proofs.ListedLaws.{these_start, these_on, these_skip, these_end, diagnostics_made, diagnostic_next, diagnostic_past, diagnostics_none}
use native.Mathlib.Omega.{arith}
use Rattle.eval.proofs.listed.count_diagnostics.Goals as goal
use Rattle.eval.proofs.listed.count_diagnostics.Goals.{then-is, else-is}

pub loop-diagnostic-init : goal.loop-diagnostic-init
loop-diagnostic-init c = (cc, cc, these_start (diagnostics_made _ _ c.record_count-count.ensures))

pub loop-diagnostic-preserved : goal.loop-diagnostic-preserved
loop-diagnostic-preserved c = (
  cc,
  cc,
  elim c.if-is.branch [
    | then-is w ↦ these_on c.loop-diagnostic.invariant.2 (diagnostic_next _ _ _ _ (cc) c.loop-diagnostic-test.true) w.diagnostics-is
    | else-is w ↦ these_skip c.loop-diagnostic.invariant.2 (diagnostic_past _ _ _ _ (cc) c.loop-diagnostic-test.true) w.diagnostics-is
  ],
)

pub returns : goal.returns
returns c = these_end c.loop-diagnostic.invariant.2 (diagnostics_none _ _ _ _ (omega arith))

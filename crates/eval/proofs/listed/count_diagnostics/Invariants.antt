-- `count_diagnostics` counts the diagnostics of an analysis: those before one are counted. Assumes nothing.
use mathlib.Core.Path.{◌≡◌}
use Rattle.eval.proofs.ListedLaws.{CountingThese, diagnostics_from}
use Rattle.eval.specs.Walk.{every_of_analysis}
use Rattle.eval.proofs.listed.count_diagnostics.Given as goal

abbrev pub invariant-loop-diagnostic : goal.invariant-loop-diagnostic
invariant-loop-diagnostic l =
    (l.names.image.now ≡ l.image) × (l.names.bytes.now ≡ l.name) × CountingThese (every_of_analysis l.image l.name) (diagnostics_from l.image l.name l.diagnostic l.count) l.diagnostic l.diagnostics

-- `list_diagnostics` writes the rows of the diagnostics of an analysis: those before one are written. Assumes nothing.
use mathlib.Core.Path.{◌≡◌}
use Rattle.eval.proofs.ListedLaws.{Listing, diagnostics_from}
use Rattle.eval.specs.Walk.{every_of_analysis}
use Rattle.eval.proofs.listed.list_diagnostics.Given as goal

abbrev pub invariant-loop-diagnostic : goal.invariant-loop-diagnostic
invariant-loop-diagnostic l =
    (l.names.image.now ≡ l.image) × (l.names.bytes.now ≡ l.name) × Listing (every_of_analysis l.image l.name) 0 l.initial.collection (diagnostics_from l.image l.name l.diagnostic l.count) l.row l.collection

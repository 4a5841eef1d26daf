-- `feed_each_diagnostic` sends every diagnostic of the analysis: those left come to what all come to. Assumes nothing.
use mathlib.Core.Path.{◌≡◌}
use Rattle.eval.specs.Found.{FoundSo}
use Rattle.eval.specs.Walk.{every_of_analysis}
use Rattle.eval.proofs.ListedLaws.{diagnostics_from}
use Rattle.eval.proofs.SentLaws.{Going}
use Rattle.eval.proofs.walk.Walk.feed_each_diagnostic.Given as goal

abbrev pub invariant-loop-diagnostic : goal.invariant-loop-diagnostic
invariant-loop-diagnostic l =
    let image = l.initial.self.pipeline.image.now in
    (l.names.image.now ≡ image) × (l.names.bytes.now ≡ l.name) × FoundSo l.self 0 l.profiles.found × Going l.initial.self 0 (every_of_analysis image l.name) (diagnostics_from image l.name l.diagnostic l.count) l.self

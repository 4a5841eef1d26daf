-- `feed_noted_diagnostics` sends every diagnostic of the analysis with notes that say nothing yet. Assumes nothing.
use mathlib.Core.Bool.{false≢true}
use mathlib.Core.Path.{sym, ◌∙◌}
use mathlib.Core.List.{List}
use Prim.Native.Nat.{ℕ}
use Rattle.eval.proofs.MarkedLaws.{marks_none}
use Rattle.eval.proofs.MemoLaws.{sound_begun}
use Rattle.eval.proofs.SentLaws.{begun}
use Rattle.eval.specs.Memo.{WAY_NOTES}
use Rattle.eval.specs.Walk.{every_of_analysis}
use Rattle.eval.proofs.context.Pipeline.feed_noted_diagnostics.Goals as goal

pub feed_each_diagnostic-requires : goal.feed_each_diagnostic-requires
feed_each_diagnostic-requires c = begun c.new-walk.ensures (λ (image : List ℕ). every_of_analysis image c.args.name.now) c.requires (sound_begun _ _ WAY_NOTES (marks_none _ _ _) (λ e. absurd (false≢true (sym c.default.ensures.1.0 ∙ e))))

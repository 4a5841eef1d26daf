-- `write_shown` appends a text byte by byte, each as it is shown. Assumes nothing.
use mathlib.Core.List.{[], ◌∷◌}
use Rattle.texts.specs.Text.{shown_byte, shown}
use Rattle.texts.proofs.AppendLaws.{Walks}
use Rattle.texts.proofs.Writer.write_shown.Given as goal

abbrev pub invariant-loop-b : goal.invariant-loop-b
invariant-loop-b l = Walks (λ b. shown_byte b ∷ []) l.text (shown l.text) l.initial.self l.self l.b-index

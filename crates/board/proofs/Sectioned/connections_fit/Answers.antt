-- `Sectioned::connections_fit` gives `connections_fit`. Assumes nothing.
use mathlib.Core.Path.{ap, ◌∙◌}
use Prim.Native.Nat.{ℕ, ◌+◌}
use native.Mathlib.Omega.{arith}
use Rattle.board.specs.Check.{connections_fit}
use Rattle.board.proofs.BoardLaws.{few_strings}
use Rattle.board.proofs.CheckLaws.{limits_same}
use Rattle.board.proofs.Sectioned.connections_fit.Goals as goal

pub overflow_add-strings : goal.overflow_add-strings
overflow_add-strings c = omega (arith, few_strings c.args.self.image.now c.args.self.fit, c.record_count-strings.ensures)

pub overflow_add-strings-2 : goal.overflow_add-strings-2
overflow_add-strings-2 c = omega (arith, few_strings c.args.self.image.now c.args.self.fit, c.record_count-strings.ensures)

pub returns : goal.returns
unfolding connections_fit
returns c = c.all_below.ensures ∙ limits_same _ _ c.record_count-components.ensures (ap (λ (m : ℕ). m + 1) c.record_count-strings.ensures) (ap (λ (m : ℕ). m + 1) c.record_count-strings.ensures)

-- `rows::find` gives the place of the rows found. Assumes nothing.
use mathlib.Core.Path.{ap, ◌∙◌}
use native.Mathlib.Omega.{arith}
use Rattle.std.proofs.Common.{inl, inr}
use Rattle.std.proofs.lemmas.List.{take_rest}
use Rattle.predicate.specs.Rows.{rows_from}
use Rattle.predicate.proofs.RowLaws.{found_past}
use Rattle.predicate.proofs.NodeLaws.{found_some}
use Rattle.predicate.proofs.rows.find.Goals as goal

pub returns-in_err-get : goal.returns-in_err-get
returns-in_err-get g c =
    λ p t. rw c.from_residual.ensures (found_past p _ _ _ (elim c.in_err-get.ensures.lookup.0 [ inl l ↦ l | inr l ↦ absurd (omega arith) ]))

pub returns-in_default : goal.returns-in_default
returns-in_default g c =
    λ p t. found_some _ (c.rows_from.ensures.found p t ∙ ap (rows_from p c.args.level) (c.in_ok-get.ensures.lookup.0.2 ∙ take_rest c.args.tree.now c.args.from)) (omega arith)

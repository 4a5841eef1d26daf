-- `operator` gives the kind of the first operator inside, if there is one. Assumes nothing.
use mathlib.Core.Path.{sym, ◌∙◌}
use Rattle.predicate.proofs.NodeLaws.{row_found, row_absent}
use Rattle.eval.proofs.ValueLaws.{operator_absent, operator_found}
use Rattle.eval.proofs.pipeline.operator.Goals as goal

pub returns-in_err-row : goal.returns-in_err-row
returns-in_err-row c = rw c.from_residual.ensures (operator_absent _ _ (row_absent (sym c.comparison_operator.ensures ∙ c.in_err-row.was {u = tt})))

pub returns : goal.returns
returns c = rw c.ok.ensures.value (operator_found _ _ (row_found (sym c.comparison_operator.ensures ∙ c.in_ok-row.was {u = tt})) _ c.kind_at.ensures)

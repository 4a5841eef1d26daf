-- `rows::find_operator` finds the first operator, by the test of its kind. Assumes nothing.
use Rattle.std.proofs.Common.{rules, tests}
use Rattle.trees.specs.Look.{is_comparison}
use Rattle.predicate.proofs.rows.find_operator.Goals as goal

pub returns : goal.returns
returns c = c.find.ensures is_comparison (λ k r h. search (rules, tests))

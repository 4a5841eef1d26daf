-- `rows::find_row` finds the first row of a kind, by the test of that kind. Assumes nothing.
use Rattle.std.proofs.Common.{rules, tests}
use Rattle.predicate.specs.Rows.{of_kind}
use Rattle.predicate.proofs.rows.find_row.Goals as goal

pub returns : goal.returns
returns c = c.find.ensures (of_kind c.args.kind) (λ k r h. search (rules, tests))

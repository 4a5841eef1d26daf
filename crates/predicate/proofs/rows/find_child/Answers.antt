-- `rows::find_child` finds the first node, by the test of a node's kind. Assumes nothing.
use Rattle.std.proofs.Common.{rules, tests}
use Rattle.predicate.specs.Rows.{of_node}
use Rattle.predicate.proofs.rows.find_child.Goals as goal

pub returns : goal.returns
returns c = c.find.ensures of_node (λ k r h. search (rules, tests))

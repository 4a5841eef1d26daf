-- `node::first_child` finds the first node inside by `find_child`. Assumes nothing.
use mathlib.Core.Path.{◌≡◌, ◌∙◌}
use Rattle.std.proofs.Common.{rules, None}
use Rattle.predicate.specs.Rows.{of_node}
use Rattle.predicate.proofs.NodeLaws.{child_first, child_missing}
use Rattle.predicate.proofs.node.first_child.Goals as goal

pub returns-in_err-level : goal.returns-in_err-level
returns-in_err-level c =
    let none : c.from_residual.result ≡ None = search rules in
    none ∙ child_missing of_node _ _ _ c.in_err-level.ensures

pub returns : goal.returns
returns c = child_first of_node _ _ _ c.in_ok-level.ensures.here c.find_child.ensures

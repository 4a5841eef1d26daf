-- `node::comparison_operator` finds the first comparison operator inside by `find_operator`. Assumes nothing.
use mathlib.Core.Path.{◌≡◌, ◌∙◌}
use Rattle.std.proofs.Common.{rules, None}
use Rattle.trees.specs.Look.{is_comparison}
use Rattle.predicate.proofs.NodeLaws.{child_first, child_missing}
use Rattle.predicate.proofs.node.comparison_operator.Goals as goal

pub returns-in_err-level : goal.returns-in_err-level
returns-in_err-level c =
    let none : c.from_residual.result ≡ None = search rules in
    none ∙ child_missing is_comparison _ _ _ c.in_err-level.ensures

pub returns : goal.returns
returns c = child_first is_comparison _ _ _ c.in_ok-level.ensures.here c.find_operator.ensures

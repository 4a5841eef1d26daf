-- `eval_inside` takes the first node inside; what is left of the table falls as it calls itself. Assumes nothing.
use mathlib.Core.Path.{sym, ap, ◌∙◌}
use mathlib.Core.Bool.{not}
use native.Mathlib.Omega.{arith}
use Rattle.std.proofs.Common.{rules}
use Rattle.predicate.proofs.NodeLaws.{row_found}
use Rattle.predicate.proofs.AskedLaws.{none_inside, first_inside, inside_not, inside_paren}
use Rattle.predicate.proofs.Evaluator.+eval_inside.Goals as goal

pub returns-in_default : goal.returns-in_default
returns-in_default t c = none_inside c.args.self.now.rule c.args.self.now.tree _ (sym c.first_child.ensures ∙ c.in_default.is) _ _

pub eval_inside-requires : goal.eval_inside-requires
eval_inside-requires t c =
    let found = row_found (sym c.first_child.ensures ∙ c.in-Some.is) in
    (omega (arith, c.decreases, found.later, found.whole), tt)

pub eval_inside-requires-in-Ok-UnaryExpr : goal.eval_inside-requires-in-Ok-UnaryExpr
eval_inside-requires-in-Ok-UnaryExpr t c =
    let found = row_found (sym c.first_child.ensures ∙ c.in-Some.is) in
    (omega (arith, c.decreases, found.later, found.whole), tt)

pub eval_node-requires : goal.eval_node-requires
eval_node-requires t c = (row_found (sym c.first_child.ensures ∙ c.in-Some.is)).whole

pub returns-in-Ok-ParenExpr : goal.returns-in-Ok-ParenExpr
returns-in-Ok-ParenExpr t c =
    let found = row_found (sym c.first_child.ensures ∙ c.in-Some.is) in
    c.eval_inside.ensures ∙ inside_paren c.args.self.now.rule c.args.self.now.tree _ found (search rules) _ _

pub returns-in-Ok-UnaryExpr : goal.returns-in-Ok-UnaryExpr
returns-in-Ok-UnaryExpr t c =
    let found = row_found (sym c.first_child.ensures ∙ c.in-Some.is) in
    ap not c.eval_inside-in-Ok-UnaryExpr.ensures ∙ inside_not c.args.self.now.rule c.args.self.now.tree _ found (search rules) _ _

pub returns-in_default-kind_at : goal.returns-in_default-kind_at
returns-in_default-kind_at t c =
    let found = row_found (sym c.first_child.ensures ∙ c.in-Some.is) in
    c.eval_node.ensures.value ∙ first_inside c.args.self.now.rule c.args.self.now.tree _ found _ _

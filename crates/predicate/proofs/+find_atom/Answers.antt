-- `find_atom` finds the atom that the first node inside is; what is left of the table falls as it calls itself. Assumes nothing.
use mathlib.Core.Path.{sym, ◌∙◌, subst}
use native.Mathlib.Omega.{arith}
use Rattle.std.proofs.Common.{rules}
use Rattle.predicate.specs.Atoms.{AskedAt}
use Rattle.predicate.proofs.NodeLaws.{row_found}
use Rattle.predicate.proofs.AtomLaws.{atom_none}
use Rattle.predicate.proofs.AskedLaws.{asked_none, asked_atom, asked_not, asked_paren}
use Rattle.predicate.proofs.+find_atom.Goals as goal

pub returns-in_default : goal.returns-in_default
returns-in_default t c = λ x e. subst (AskedAt _ _ _) (cc) (asked_none c.args.rule c.args.tree _ (sym c.first_child.ensures ∙ c.in_default.is))

pub find_atom-requires : goal.find_atom-requires
find_atom-requires t c =
    let found = row_found (sym c.first_child.ensures ∙ c.in-Some.is) in
    (omega (arith, c.decreases, found.later, found.whole), tt)

pub find_atom-requires-in-Ok-ParenExpr : goal.find_atom-requires-in-Ok-ParenExpr
find_atom-requires-in-Ok-ParenExpr t c =
    let found = row_found (sym c.first_child.ensures ∙ c.in-Some.is) in
    (omega (arith, c.decreases, found.later, found.whole), tt)

pub returns-in_ok-atom-in-Ok-UnaryExpr : goal.returns-in_ok-atom-in-Ok-UnaryExpr
returns-in_ok-atom-in-Ok-UnaryExpr t c =
    let found = row_found (sym c.first_child.ensures ∙ c.in-Some.is) in
    let inner = c.find_atom.ensures _ (c.in_ok-atom-in-Ok-UnaryExpr.was {u = tt}) in
    λ x e. subst (AskedAt _ _ _) (cc) (asked_not c.args.rule c.args.tree _ found (search rules) inner)

pub returns-in-Ok-ParenExpr : goal.returns-in-Ok-ParenExpr
returns-in-Ok-ParenExpr t c =
    let found = row_found (sym c.first_child.ensures ∙ c.in-Some.is) in
    λ x e. asked_paren c.args.rule c.args.tree _ found (search rules) (c.find_atom-in-Ok-ParenExpr.ensures x e)

pub returns-in-Ok : goal.returns-in-Ok
returns-in-Ok t c =
    let found = row_found (sym c.first_child.ensures ∙ c.in-Some.is) in
    λ x e. subst (AskedAt _ _ _) (cc) (asked_atom c.args.rule c.args.tree _ found c.find.ensures)

pub returns-in-Err : goal.returns-in-Err
returns-in-Err t c =
    let found = row_found (sym c.first_child.ensures ∙ c.in-Some.is) in
    λ x e. subst (AskedAt _ _ _) (cc) (asked_atom c.args.rule c.args.tree _ found (atom_none c.args.rule.now _ _ c.kind_at.ensures c.in-Err.is))

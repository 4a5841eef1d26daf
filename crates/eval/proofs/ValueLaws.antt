-- What is settled by the numbers of members, and the operator of a comparison. Assumes nothing.
use mathlib.Core.Path.{◌≡◌, refl, sym, ap, ◌∙◌, subst}
use mathlib.Core.Bool.{true, false, false≢true}
use mathlib.Core.List.{List}
use Prim.Native.Nat.{ℕ, ◌+◌, ◌≤◌, ◌<◌}
use native.Mathlib.Omega.{arith}
use lib.Dec.{leb}
use borrow.Author.Tests.{ne_eqb, leb-true, leb-false}
use Rattle.syntax.specs.Kind.{ROOT, EQ_EQ, NEQ, GE, GT, LE, LT}
use Rattle.syntax.specs.Kinds.{number, Names}
use Rattle.syntax.specs.declared.kind.Kind.{Kind}
use Rattle.syntax.specs.declared.kind.Kind.TheVariants.{Neq}
use Rattle.syntax.specs.declared.kind.UnknownKind.{UnknownKind}
use Rattle.syntax.proofs.BoolLaws.{whether}
use Rattle.trees.specs.Look.{is_comparison}
use Rattle.predicate.specs.Rows.{ROW, kind_at as tree_kind, level_at, children_at}
use Rattle.predicate.specs.Eval.{FoundAt, FoundNowhere}
use Rattle.predicate.proofs.ForestLaws.{forest_token, found_level, found_kind, Ignores, ignored_none, ignored_found}
use Rattle.meaning.specs.declared.ValueKind.{ValueKind}
use Rattle.meaning.specs.declared.Method.{Method}
use Rattle.meaning.specs.Compare.{operator_holds, operator_of}
use Rattle.meaning.specs.Walk.{settled}
use Rattle.std.specs.Prelude.{Option, Some, None, unwrap_or, Result, Ok, Err}
use Rattle.std.specs.Result.{result_ok}
use Rattle.calls.specs.declared.value.Value.{Value}
use Rattle.eval.specs.declared.walk.Tally.{Tally}
use Rattle.eval.specs.Pipeline.{number_or_none, OperatorAt, Gives, Judges}

-- ---- a value by its kind

module _ (method : Method) (t : Tally) where
  by_kind : {kind k : ValueKind} {r : Value} → kind ≡ k → Gives k method t r → Gives kind method t r
  by_kind {r = r} e g = subst (λ (k : ValueKind). Gives k method t r) (sym e) g

  pub gives_components : {kind : ValueKind} → kind ≡ ValueKind.Components → Gives kind method t (Value.Components t.arrived)
  unfolding settled
  gives_components e = by_kind e record { given = λ members l. ap (λ (n : ℕ). Ok (Value.Components n)) (sym l) }

  pub gives_features : {kind : ValueKind} → kind ≡ ValueKind.Features → Gives kind method t (Value.Features t.arrived)
  unfolding settled
  gives_features e = by_kind e record { given = λ members l. ap (λ (n : ℕ). Ok (Value.Features n)) (sym l) }

  pub gives_diagnostics : {kind : ValueKind} → kind ≡ ValueKind.Diagnostics → Gives kind method t (Value.Diagnostics t.arrived)
  unfolding settled
  gives_diagnostics e = by_kind e record { given = λ members l. ap (λ (n : ℕ). Ok (Value.Diagnostics n)) (sym l) }

  pub gives_boolean : {kind : ValueKind} {r : Value} → kind ≡ ValueKind.Boolean → Judges method t.arrived t.passed r → Gives kind method t r
  unfolding settled
  gives_boolean e j = by_kind e record { given = λ members l. j.judged }

  pub gives_count : {kind : ValueKind} → kind ≡ ValueKind.Count → Gives kind method t (Value.Count t.arrived)
  unfolding settled
  gives_count e = by_kind e record { given = λ members l. refl }

-- ---- the operator

-- an operator is a token
operator_token : (k : ℕ) → is_comparison k ≡ true → k < ROOT
unfolding is_comparison
operator_token k e = whether (leb ROOT k) (λ l. absurd (false≢true (no (leb-true ROOT k l) ∙ e))) (λ l. leb-false ROOT k l)
  where
    no : ROOT ≤ k → false ≡ is_comparison k
    no l =
        sym (rw (ne_eqb k GE (λ e. omega arith), ne_eqb k GT (λ e. omega arith), ne_eqb k LE (λ e. omega arith), ne_eqb k LT (λ e. omega arith), ne_eqb k EQ_EQ (λ e. omega arith), ne_eqb k NEQ (λ e. omega arith)))

-- that of a comparison looks at no other row
operator_ignores : Ignores is_comparison operator_of
unfolding operator_of
operator_ignores = record { tokens = λ t f e. rw (e, operator_of); nodes = λ k s f l e. refl }

module _ (tree : List ℕ) (at : ℕ) where
  -- none is found, or the first is
  pub operator_absent : FoundNowhere is_comparison tree (level_at tree at + 1) (at + ROW) → OperatorAt tree at None
  unfolding operator_of
  operator_absent n = record { operator = λ rule. sym (ignored_none operator_ignores rule n) }

  module _ {row : ℕ} (f : FoundAt is_comparison tree (level_at tree at + 1) (at + ROW) row) where
    operator_kind : (rule : List ℕ) → tree_kind tree row ≡ operator_of (children_at rule tree at)
    unfolding operator_of
    operator_kind rule =
        sym (ignored_found operator_ignores rule f
        ∙ ap operator_of (forest_token rule tree (level_at tree at + 1) row f.whole (found_level f) (operator_token (tree_kind tree row) (found_kind f)))
        ∙ rw (found_kind f, operator_of))

    pub operator_found : (named : Result Kind UnknownKind) → Names (tree_kind tree row) named → OperatorAt tree at (result_ok named)
    operator_found (Ok kind) n = record { operator = λ rule. n ∙ operator_kind rule }
    operator_found (Err e) n = absurd (omega (arith, n.0, operator_token (tree_kind tree row) (found_kind f)))

-- no operator compares as `!=` does
pub operator_or_neq : (operator : Option Kind) (left right : ℕ) → operator_holds (number (unwrap_or operator Neq)) left right ≡ operator_holds (number_or_none operator) left right
unfolding operator_holds
operator_or_neq (Some kind) left right = refl
operator_or_neq None left right = refl

-- A predicate that is one atom, but for `not` and brackets around it: by the first node inside. Assumes nothing.
use mathlib.Core.Path.{◌≡◌, refl, sym, ap, ◌∙◌}
use mathlib.Core.Bool.{Bool, true, false, not, cond}
use mathlib.Core.List.{List}
use Prim.Native.Nat.{ℕ, ◌+◌}
use Rattle.std.proofs.Common.{Bor}
use Rattle.std.specs.Prelude.{None}
use Rattle.syntax.specs.Kind.{UNARY_EXPR, PAREN_EXPR}
use Rattle.predicate.specs.declared.Evaluator.{Evaluator}
use Rattle.predicate.specs.declared.Asked.{Asked}
use Rattle.predicate.specs.declared.atom.Member.{Member}
use Rattle.predicate.specs.declared.atom.Atom.{Atom}
use Rattle.predicate.specs.declared.atom.Atom.TheVariants.{Other}
use Rattle.predicate.specs.Rows.{ROW, kind_at, level_at, children_at, node_at, of_node, first_row}
use Rattle.predicate.specs.Truth.{truth}
use Rattle.predicate.specs.Eval.{FoundAt}
use Rattle.predicate.specs.Atoms.{atom_truth, AtomAt, asked_truth, AskedAt}
use Rattle.predicate.proofs.NodeLaws.{row_absent}
use Rattle.predicate.proofs.AtomLaws.{node_truth}
use Rattle.predicate.proofs.EvalLaws.{truth_unary, truth_paren, inner_none, inner_found}

not_so : (b t : Bool) → cond (not b) (not t) t ≡ not (cond b (not t) t)
not_so true true = refl
not_so true false = refl
not_so false t = refl

module _ (rule tree : Bor (List ℕ)) (at : ℕ) where
  abbrev of : List ℕ → Member → Evaluator
  of image m = record { rule = rule; image = record { ref_ptr = rule.ref_ptr; now = image }; tree = tree; member = m }

  -- there is no first node inside, or this is it
  pub none_inside : first_row of_node tree.now (level_at tree.now at + 1) (at + ROW) ≡ None → (image : List ℕ) (m : Member) → false ≡ truth image m (children_at rule.now tree.now at)
  none_inside e image m = inner_none (of image m) _ _ (row_absent e)

  pub asked_none : first_row of_node tree.now (level_at tree.now at + 1) (at + ROW) ≡ None → AskedAt rule.now tree.now at (record { atom = Other; not = false })
  unfolding asked_truth atom_truth
  asked_none e = record { so = none_inside e }

  module _ {first : ℕ} (found : FoundAt of_node tree.now (level_at tree.now at + 1) (at + ROW) first) where
    pub first_inside : (image : List ℕ) (m : Member) → truth image m (node_at rule.now tree.now first) ≡ truth image m (children_at rule.now tree.now at)
    first_inside image m = sym (inner_found (of image m) _ _ _ found)

    -- `not` and brackets around what is inside
    pub inside_not : kind_at tree.now first ≡ UNARY_EXPR → (image : List ℕ) (m : Member) → not (truth image m (children_at rule.now tree.now first)) ≡ truth image m (children_at rule.now tree.now at)
    inside_not k image m = sym (truth_unary (of image m) _ found.whole k) ∙ first_inside image m

    pub inside_paren : kind_at tree.now first ≡ PAREN_EXPR → (image : List ℕ) (m : Member) → truth image m (children_at rule.now tree.now first) ≡ truth image m (children_at rule.now tree.now at)
    inside_paren k image m = sym (truth_paren (of image m) _ found.whole k) ∙ first_inside image m

    pub asked_atom : {a : Atom} → AtomAt rule.now tree.now first a → AskedAt rule.now tree.now at (record { atom = a; not = false })
    unfolding asked_truth
    asked_atom p = record { so = λ image m. p.so image m ∙ sym (node_truth (of image m) _ found.whole) ∙ first_inside image m }

    pub asked_not : kind_at tree.now first ≡ UNARY_EXPR → {a : Asked} → AskedAt rule.now tree.now first a → AskedAt rule.now tree.now at (record { atom = a.atom; not = not a.not })
    unfolding asked_truth
    asked_not k {a} p =
        record {
          so = λ image m. not_so a.not (atom_truth image m a.atom) ∙ ap not (p.so image m) ∙ sym (truth_unary (of image m) _ found.whole k) ∙ first_inside image m;
        }

    pub asked_paren : kind_at tree.now first ≡ PAREN_EXPR → {a : Asked} → AskedAt rule.now tree.now first a → AskedAt rule.now tree.now at a
    asked_paren k p = record { so = λ image m. p.so image m ∙ sym (truth_paren (of image m) _ found.whole k) ∙ first_inside image m }

-- what an atom says, and what it says where it is not to be so
module _ {rule tree : List ℕ} {at : ℕ} {a : Asked} (p : AskedAt rule tree at a) (image : List ℕ) (m : Member) {value : Bool} (e : value ≡ atom_truth image m a.atom) where
  pub asked_so : a.not ≡ false → value ≡ truth image m (children_at rule tree at)
  unfolding asked_truth
  asked_so n = e ∙ sym (rw n) ∙ p.so image m

  pub asked_not_so : a.not ≡ true → not value ≡ truth image m (children_at rule tree at)
  unfolding asked_truth
  asked_not_so n = ap not e ∙ sym (rw n) ∙ p.so image m

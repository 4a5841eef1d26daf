-- The truth of a node by its kind. Assumes nothing.
use mathlib.Core.Path.{◌≡◌, sym, ap, ◌∙◌, subst}
use mathlib.Core.Bool.{Bool, false, cond}
use mathlib.Core.List.{List}
use Prim.Native.Nat.{ℕ, ◌+◌, ◌≤◌}
use native.Mathlib.Omega.{arith}
use lib.ListN.{length}
use borrow.Author.Tests.{le-leb, ne_eqb}
use Rattle.syntax.specs.Kind.{BINARY_EXPR, UNARY_EXPR, COMPARE_EXPR, CALL_EXPR, PAREN_EXPR, IDENT_EXPR, CONTAINS_EXPR}
use Rattle.std.specs.Prelude.{Result, Err}
use Rattle.syntax.specs.Kinds.{Names}
use Rattle.syntax.specs.declared.kind.Kind.{Kind}
use Rattle.syntax.specs.declared.kind.UnknownKind.{UnknownKind}
use Rattle.trees.specs.Green.{Forest, nil, node}
use Rattle.predicate.specs.declared.Evaluator.{Evaluator}
use Rattle.predicate.specs.declared.atom.Member.{Member}
use Rattle.predicate.specs.Truth.{literal_of, field_of, has, compares, message_contains, sort_of, settle, truths, truth}
use Rattle.predicate.specs.Rows.{ROW, kind_at, children_at, node_at}
use Rattle.predicate.specs.Eval.{truth_at, settled, settled_at}
use Rattle.predicate.specs.Atoms.{atom_truth, AtomAt}
use Rattle.predicate.specs.declared.atom.Atom.TheVariants.{Connected, Has, MessageContains, Compares, Other}
use Rattle.std.proofs.Common.{Bor}

-- a node by the kind of its row and its children
module _ (ev : Evaluator) (at : ℕ) where
  abbrev of_kind : ℕ → Bool
  of_kind kind =
      let f : Forest = children_at ev.rule.now ev.tree.now at in
      settle ev.image.now ev.member (sort_of kind) f (truths ev.image.now ev.member f)

  pub node_truth : at + ROW ≤ length ev.tree.now → truth_at ev at ≡ settled_at ev at
  unfolding truth truths node_at
  node_truth h =
      let f : Forest = children_at ev.rule.now ev.tree.now at in
      ap (λ (there : Bool). truth ev.image.now ev.member (cond there (node (kind_at ev.tree.now at) f nil) nil)) (le-leb (at + ROW) (length ev.tree.now) h)

  pub settled_kind : {kind : ℕ} → kind_at ev.tree.now at ≡ kind → of_kind kind ≡ settled_at ev at
  settled_kind e = sym (ap of_kind e)

-- the atom whose row is at a place, by the kind of the row and the texts inside
module _ (rule tree : List ℕ) (at : ℕ) where
  by_kind : {kind : ℕ} → kind_at tree at ≡ kind → (image : List ℕ) (m : Member)
      → let f : Forest = children_at rule tree at in settle image m (sort_of kind) f (truths image m f) ≡ settled rule image tree m at
  by_kind e image m = let f : Forest = children_at rule tree at in sym (ap (λ (k : ℕ). settle image m (sort_of k) f (truths image m f)) e)

  pub atom_connected : kind_at tree at ≡ IDENT_EXPR → AtomAt rule tree at Connected
  unfolding sort_of settle atom_truth
  atom_connected e = record { so = by_kind e }

  module _ {value : Bor (List ℕ)} (v : value.now ≡ literal_of (children_at rule tree at)) where
    pub atom_has : kind_at tree at ≡ CALL_EXPR → AtomAt rule tree at (Has value)
    unfolding sort_of settle atom_truth
    atom_has e = record { so = λ image m. ap (has image m) v ∙ by_kind e image m }

    pub atom_contains : kind_at tree at ≡ CONTAINS_EXPR → AtomAt rule tree at (MessageContains value)
    unfolding sort_of settle atom_truth
    atom_contains e = record { so = λ image m. ap (message_contains image m) v ∙ by_kind e image m }

    pub atom_compares : {field : Bor (List ℕ)} → field.now ≡ field_of (children_at rule tree at) → kind_at tree at ≡ COMPARE_EXPR → AtomAt rule tree at (Compares field value)
    unfolding sort_of settle atom_truth
    atom_compares {field} f e =
        record {
          so = λ image m.
              ap (compares image m field.now) v
              ∙ ap (λ (x : List ℕ). compares image m x (literal_of (children_at rule tree at))) f
              ∙ by_kind e image m;
        }

  pub atom_other : (kind_at tree at ≡ BINARY_EXPR → ⊥) → (kind_at tree at ≡ UNARY_EXPR → ⊥) → (kind_at tree at ≡ PAREN_EXPR → ⊥)
      → (kind_at tree at ≡ IDENT_EXPR → ⊥) → (kind_at tree at ≡ CALL_EXPR → ⊥) → (kind_at tree at ≡ CONTAINS_EXPR → ⊥) → (kind_at tree at ≡ COMPARE_EXPR → ⊥)
      → AtomAt rule tree at Other
  unfolding sort_of settle atom_truth
  atom_other b u p i c n q =
      record {
        so = λ image m.
            sym (rw (ne_eqb _ BINARY_EXPR b, ne_eqb _ UNARY_EXPR u, ne_eqb _ PAREN_EXPR p, ne_eqb _ IDENT_EXPR i, ne_eqb _ CALL_EXPR c, ne_eqb _ CONTAINS_EXPR n, ne_eqb _ COMPARE_EXPR q));
      }

  -- a number that is no kind's
  pub atom_none : {named : Result Kind UnknownKind} {e : UnknownKind} → Names (kind_at tree at) named → named ≡ Err e → AtomAt rule tree at Other
  atom_none n h =
      let above = (subst (Names (kind_at tree at)) h n).0 in
      atom_other (λ q. omega arith) (λ q. omega arith) (λ q. omega arith) (λ q. omega arith) (λ q. omega arith) (λ q. omega arith) (λ q. omega arith)

  pub settled_none : {named : Result Kind UnknownKind} {e : UnknownKind} → Names (kind_at tree at) named → named ≡ Err e → (image : List ℕ) (m : Member) → false ≡ settled rule image tree m at
  unfolding atom_truth
  settled_none n h = (atom_none n h).so

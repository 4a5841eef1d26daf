-- The names of the kinds, in the order of their numbers. Assumes nothing.
use mathlib.Core.Path.{◌≡◌, sym, ◌∙◌}
use mathlib.Core.Bool.{Bool}
use mathlib.Core.List.{List, []}
use Prim.Native.Nat.{ℕ, suc, ◌≤◌, ◌<◌}
use native.Mathlib.Omega.{arith}
use borrow.Author.Tests.{leb-true, leb-false}
use lib.Dec.{T, leb}
use lib.ListN.{length, get_or, get_or-eq_default}
use Rattle.syntax.specs.Kind.{COUNT_COMPARE_EXPR}
use Rattle.syntax.specs.Text.{same}
use Rattle.syntax.proofs.BoolLaws.{whether, T→true}
use Rattle.syntax.proofs.TextLaws.{same_eq}
use Rattle.syntax.proofs.EveryByte.{below, at_each}
use Rattle.message.specs.Message.{kind_name}
use Rattle.message.specs.Parts.{nth}
use Rattle.message.proofs.MessageLaws.{name_above}

-- the texts of a list are the names of the kinds, in their order
unfoldable pub are_names : List (List ℕ) → Bool
unfolding kind_name
are_names texts = below (λ k. same (get_or texts k []) (kind_name k)) (suc COUNT_COMPARE_EXPR)

name_at : (texts : List (List ℕ)) (k : ℕ) → k ≤ COUNT_COMPARE_EXPR → T (are_names texts) → get_or texts k [] ≡ kind_name k
unfolding are_names
name_at texts k h t =
    same_eq (get_or texts k []) (kind_name k)
    (T→true (same (get_or texts k []) (kind_name k)) (at_each (λ k. same (get_or texts k []) (kind_name k)) (suc COUNT_COMPARE_EXPR) t k (omega arith)))

-- and there are no more of them
pub name_is : (texts : List (List ℕ)) (k : ℕ) {r : List ℕ} → r ≡ nth texts k → T (are_names texts) → length texts ≡ suc COUNT_COMPARE_EXPR → r ≡ kind_name k
unfolding nth
name_is texts k r t e =
    r
    ∙ whether (leb k COUNT_COMPARE_EXPR) (λ u. name_at texts k (leb-true k COUNT_COMPARE_EXPR u) t)
    (λ u.
    let above : COUNT_COMPARE_EXPR < k = leb-false k COUNT_COMPARE_EXPR u in
    get_or-eq_default texts [] (omega arith) ∙ sym (name_above k above))

-- Laws of folding, and of a text that is one of some words. Assumes nothing.
use mathlib.Core.Path.{◌≡◌, refl, sym, ap, ◌∙◌}
use mathlib.Core.Bool.{Bool, false, ◌||◌, ◌&&◌, or-false}
use mathlib.Core.List.{List, [], ◌∷◌}
use Prim.Native.Nat.{ℕ, suc, ◌≤◌}
use native.Mathlib.Omega.{arith}
use borrow.Author.Tests.{ne_eqb}
use lib.Dec.{eqb}
use lib.ListN.{length, get_or, get_or-eq_default}
use Rattle.syntax.specs.Text.{same}
use Rattle.std.specs.List.{list_all, zip}
use Rattle.syntax.proofs.TextLaws.{same_lengths}
use Rattle.matching.specs.Words.{fold, folded, one_of}

-- texts of the same bytes, as `==` says it
-- a text that is one word
pub one_word : {r p : Bool} → r ≡ p → r ≡ (p || false)
one_word {r} {p} e = e ∙ sym (or-false p)

-- a text folded is as long, and has each byte folded
folded_length : (s : List ℕ) → length (folded s) ≡ length s
unfolding folded
folded_length [] = refl
folded_length (b ∷ s) = ap suc (folded_length s)

-- a text, folded, is a word just where it is as long and has its bytes
pub folding_lengths : (s word : List ℕ) → (length s ≡ length word → ⊥) → eqb (length s) (length word) ≡ one_of (folded s) (word ∷ [])
folding_lengths s word d = ne_eqb (length s) (length word) d ∙ one_word (sym (same_lengths (folded s) word (λ e. d (sym (folded_length s) ∙ e))))

folding : (s word : List ℕ) → length s ≡ length word → list_all (λ (p : ℕ × ℕ). eqb (fold p.0) p.1) (zip s word) ≡ same (folded s) word
unfolding folded
folding [] [] h = refl
folding [] (w ∷ word) h = absurd (omega arith)
folding (b ∷ s) [] h = absurd (omega arith)
folding (b ∷ s) (w ∷ word) h = ap (λ (r : Bool). eqb (fold b) w && r) (folding s word (omega arith))

pub folding_all : (s word : List ℕ) {r : Bool} → length s ≡ length word → r ≡ list_all (λ (p : ℕ × ℕ). eqb (fold p.0) p.1) (zip s word) → r ≡ one_of (folded s) (word ∷ [])
folding_all s word h e = one_word (e ∙ folding s word h)

-- a number past the last word has none
pub no_word : (words : List (List (List ℕ))) (n : ℕ) (s : List ℕ) → length words ≤ n → false ≡ one_of s (get_or words n [])
no_word words n s h = rw (get_or-eq_default words [] h)

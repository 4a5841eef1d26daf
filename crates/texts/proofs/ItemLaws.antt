-- An item in a text is one of the parts between its bars. Assumes nothing.
use mathlib.Core.Path.{◌≡◌, refl, sym, ap, ◌∙◌}
use mathlib.Core.List.{List, [], ◌∷◌}
use Prim.Native.Nat.{ℕ, zero, suc, ◌<◌}
use native.Mathlib.Omega.{arith}
use lib.ListN.{length, get_or}
use Rattle.std.specs.List.{slice_split, onto_first, slice_get}
use Rattle.std.specs.Prelude.{Option}
use Rattle.std.specs.Option.{unwrap_or}
use Rattle.std.proofs.lemmas.List.Splits.{length-slice_split}
use Rattle.std.proofs.lemmas.Option.{unwrap_or-slice_get}
use Rattle.syntax.specs.Text.{ascii, is}
use Rattle.syntax.proofs.BoolLaws.{whether}
use Rattle.texts.specs.Items.{item_of}

-- the parts of a text between its bars
abbrev pub parts : List ℕ → List (List ℕ)
parts s = slice_split (λ b. is "|" b) s

-- a byte put before the first part
onto_zero : (b : ℕ) (all : List (List ℕ)) → 0 < length all → get_or (onto_first b all) 0 (ascii "?") ≡ b ∷ get_or all 0 (ascii "?")
onto_zero b [] some = absurd (omega arith)
onto_zero b (first ∷ others) some = refl

onto_suc : (b : ℕ) (all : List (List ℕ)) (n : ℕ) → get_or (onto_first b all) (suc n) (ascii "?") ≡ get_or all (suc n) (ascii "?")
onto_suc b [] n = refl
onto_suc b (first ∷ others) n = refl

-- the n-th item is the n-th part
item_part : (n : ℕ) (s : List ℕ) → item_of n s ≡ get_or (parts s) n (ascii "?")
unfolding item_of
item_part zero [] = refl
item_part (suc n) [] = refl
item_part zero (b ∷ s) =
    let rest = item_part zero s in
    let some : 0 < length (parts s) = omega (arith, length-slice_split (λ b. is "|" b) s) in
    whether (is "|" b) (λ e. rw (e, item_of))
    (λ e. rw (e, item_of, onto_zero b (parts s) some) (ap (◌∷◌ b) rest))
item_part (suc n) (b ∷ s) =
    let next = item_part n s in
    let skip = item_part (suc n) s in
    whether (is "|" b) (λ e. rw (e, item_of) next)
    (λ e. rw (e, item_of, onto_suc b (parts s) n) skip)

-- the part that was looked up, and `?` where there is none
pub item_found : (n : ℕ) (s : List ℕ) {r : Option (List ℕ)} → r ≡ slice_get (parts s) n → unwrap_or r (ascii "?") ≡ item_of n s
item_found n s e = ap (λ (o : Option (List ℕ)). unwrap_or o (ascii "?")) e ∙ unwrap_or-slice_get (parts s) n (ascii "?") ∙ sym (item_part n s)

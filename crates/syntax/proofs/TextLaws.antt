-- Texts at a place, two texts with the same bytes, and a part of a text. Assumes nothing.
use mathlib.Core.Path.{◌≡◌, refl, sym, ◌∙◌, ap}
use mathlib.Core.Bool.{Bool, true, false, ◌&&◌, false≢true, and-false}
use mathlib.Core.List.{List, [], ◌∷◌}
use Prim.Native.Nat.{ℕ, ◌+◌, ◌-◌, ◌≤◌, ◌<◌, min, suc}
use native.Mathlib.Numerals.{add-one}
use native.Mathlib.Omega.{arith}
use borrow.Author.Tests.{ne_eqb, eqb-true, leb-true, leb-false, ltb-true, ltb-false}
use lib.Dec.{eqb, ltb, leb}
use Rattle.std.specs.List.{list_all, zip}
use lib.ListN.{length, take, drop, get_or, length-take, length-drop, drop_of_length-le}
use lib.Seq.{take_all, take-nil, drop-cons}
use Rattle.syntax.specs.Text.{same, bytes_between}
use Rattle.syntax.proofs.BoolLaws.{whether, both}

-- the text from a place on: its first byte, and the text from the next place on
pub from : (s : List ℕ) (i : ℕ) → i < length s → drop i s ≡ get_or s i 0 ∷ drop (i + 1) s
from s i h = rw (add-one, drop-cons s i 0)

-- two texts with the same bytes
pub same_eq : (x y : List ℕ) → same x y ≡ true → x ≡ y
same_eq [] [] e = refl
same_eq [] (b ∷ y) e = absurd (false≢true e)
same_eq (a ∷ x) [] e = absurd (false≢true e)
same_eq (a ∷ x) (b ∷ y) e =
    let t = both (eqb a b) (same x y) e in
    rw (eqb-true a b t.0, same_eq x y t.1)

-- texts of two lengths
pub same_lengths : (x y : List ℕ) → (length x ≡ length y → ⊥) → same x y ≡ false
same_lengths [] [] h = absurd (h refl)
same_lengths [] (b ∷ y) h = refl
same_lengths (a ∷ x) [] h = refl
same_lengths (a ∷ x) (b ∷ y) h = rw (same_lengths x y (λ e. h (ap suc e))) (and-false (eqb a b))

-- a text is another just where it is as long and has its bytes
pub same_none : (s word : List ℕ) → (length s ≡ length word → ⊥) → eqb (length s) (length word) ≡ same s word
same_none s word d = ne_eqb (length s) (length word) d ∙ sym (same_lengths s word d)

same_zip : (s word : List ℕ) → length s ≡ length word → list_all (λ (p : ℕ × ℕ). eqb p.0 p.1) (zip s word) ≡ same s word
same_zip [] [] h = refl
same_zip [] (w ∷ word) h = absurd (omega arith)
same_zip (b ∷ s) [] h = absurd (omega arith)
same_zip (b ∷ s) (w ∷ word) h = ap (λ (r : Bool). eqb b w && r) (same_zip s word (omega arith))

pub same_all : (s word : List ℕ) {r : Bool} → length s ≡ length word → r ≡ list_all (λ (p : ℕ × ℕ). eqb p.0 p.1) (zip s word) → r ≡ same s word
same_all s word h e = e ∙ same_zip s word h

-- a part of a text, from its start and its end as far as the text goes
module _ (text : List ℕ) (first end last from : ℕ) (l : last ≡ min end (length text)) (f : from ≡ min first last) where
  part_none : last ≤ first → [] ≡ bytes_between text first end
  part_none h =
      whether (leb end first)
      (λ t. let z : end - first ≡ 0 = omega (arith, leb-true end first t) in rw z)
      (λ t. let past : length text ≤ first = omega (arith, leb-false end first t) in sym (rw (drop_of_length-le text past) (take-nil (end - first))))

  part_some : first < last → take (last - first) (drop first text) ≡ bytes_between text first end
  part_some h =
      whether (leb end (length text))
      (λ t. let z : last ≡ end = omega (arith, leb-true end (length text) t) in rw z)
      (λ t.
      let long = leb-false end (length text) t in
      take_all (last - first) (drop first text) (simp length-drop (omega arith))
      ∙ sym (take_all (end - first) (drop first text) (simp length-drop (omega arith))))

  pub part_within : take (last - from) (drop from text) ≡ bytes_between text first end
  part_within =
      whether (ltb first last)
      (λ t. let z : from ≡ first = omega (arith, ltb-true first last t) in rw z (part_some (ltb-true first last t)))
      (λ t. let z : last - from ≡ 0 = omega (arith, ltb-false first last t) in rw z (part_none (ltb-false first last t)))

-- it is no longer than its end is far, nor than the text
pub part_length : (text : List ℕ) (first end : ℕ) → (length (bytes_between text first end) ≤ end) × (length (bytes_between text first end) ≤ length text)
part_length text first end = simp (length-take, length-drop) (omega arith, omega arith)

-- Laws of a text searched for in another: whether the text from a place on begins with it, and the first place where it does. Assumes
-- nothing.
use mathlib.Core.Path.{◌≡◌, refl, sym, ap, ◌∙◌}
use mathlib.Core.Bool.{Bool, true, false, ◌&&◌, and-false, false≢true}
use mathlib.Core.List.{List, [], ◌∷◌}
use Rattle.std.specs.Prelude.{Option, None, Some}
use Prim.Native.Nat.{ℕ, suc, ◌+◌, ◌-◌, ◌≤◌, ◌<◌}
use native.Mathlib.Numerals.{add-one}
use native.Mathlib.Omega.{arith}
use native.Mathlib.Nat.{le_of_suc-le-suc}
use borrow.Author.Tests.{ne_eqb}
use lib.Dec.{eqb}
use lib.ListN.{length, take, drop, get_or, length-drop}
use lib.Seq.{take_all}
use Rattle.syntax.specs.Text.{ascii}
use Rattle.std.specs.Cmp.Lexicographic.{pointwise}
use Rattle.syntax.proofs.BoolLaws.{both}
use Rattle.syntax.proofs.TextLaws.{from}
use Rattle.matching.specs.Search.{starts_with, find_from, find, set_before, name_after, property_set_of, property_name_of}

-- a text begins with a part if it has the part's bytes there, as `==` says it
starting_same : (part text : List ℕ) → pointwise eqb part (take (length part) text) ≡ starts_with part text
unfolding starts_with
starting_same [] text = refl
starting_same (x ∷ part) [] = refl
starting_same (x ∷ part) (y ∷ text) = ap (λ (r : Bool). eqb x y && r) (starting_same part text)

pub starting_at : (part text : List ℕ) (at : ℕ) → pointwise eqb part (take (at + length part - at) (drop at text)) ≡ starts_with part (drop at text)
starting_at part text at =
    let e : at + length part - at ≡ length part = omega arith in
    ap (λ (n : ℕ). pointwise eqb part (take n (drop at text))) e ∙ starting_same part (drop at text)

pub starting_short : (part text : List ℕ) → length text < length part → starts_with part text ≡ false
unfolding starts_with
starting_short [] text h = absurd (omega arith)
starting_short (x ∷ part) [] h = refl
starting_short (x ∷ part) (y ∷ text) h = rw (starting_short part text (le_of_suc-le-suc h)) (and-false (eqb x y))

pub starting_empty : (part text : List ℕ) → length part ≡ 0 → starts_with part text ≡ true
unfolding starts_with
starting_empty [] text e = refl
starting_empty (x ∷ part) text e = absurd (omega arith)

-- a part that a text begins with is found at its first place, and one that it does not begin with is searched for from the next
found_here : (part : List ℕ) (n : ℕ) (text : List ℕ) → starts_with part text ≡ true → find_from part n text ≡ Some n
unfolding find_from
found_here part n [] e = rw (e, find_from)
found_here part n (y ∷ text) e = rw (e, find_from)

found_later : (part : List ℕ) (n y : ℕ) (text : List ℕ) → starts_with part (y ∷ text) ≡ false → find_from part n (y ∷ text) ≡ find_from part (suc n) text
unfolding find_from
found_later part n y text e = rw (e, find_from)

-- a part longer than what is left is found nowhere
found_nowhere : (part : List ℕ) (n : ℕ) (text : List ℕ) → length text < length part → find_from part n text ≡ None
unfolding find_from
found_nowhere part n [] h = rw (starting_short part [] h, find_from)
found_nowhere part n (y ∷ text) h =
    found_later part n y text (starting_short part (y ∷ text) h) ∙ found_nowhere part (suc n) text (omega arith)

-- a part stands at no place before `at`: it is where it is in the text from there on
pub record Seeking (part text : List ℕ) (at : ℕ) : Type 0 where
  pub rest : find_from part at (drop at text) ≡ find part text

pub seeking_start : {part text : List ℕ} → Seeking part text 0
unfolding find
seeking_start = record { rest = refl }

module _ {part text : List ℕ} {at : ℕ} (c : Seeking part text at) where
  pub seeking_found : starts_with part (drop at text) ≡ true → Some at ≡ find part text
  seeking_found e = sym (found_here part at (drop at text) e) ∙ c.rest

  pub seeking_on : at < length text → starts_with part (drop at text) ≡ false → Seeking part text (at + 1)
  seeking_on h e = record { rest = sym on ∙ c.rest }
    where
      on : find_from part at (drop at text) ≡ find_from part (at + 1) (drop (at + 1) text)
      on = rw (from text at h, add-one at) (found_later part at (get_or text at 0) (drop (suc at) text) (rw (from text at h, add-one at) at e))

  pub seeking_absent : length text < at + length part → 0 < length part → None ≡ find part text
  seeking_absent h k = sym (found_nowhere part at (drop at text) (rw length-drop (omega arith))) ∙ c.rest

-- a part does not stand where its first byte does not
starting_unlike : (part text : List ℕ) (at : ℕ) → 0 < length part → at < length text → (get_or text at 0 ≡ get_or part 0 0 → ⊥)
    → starts_with part (drop at text) ≡ false
unfolding starts_with
starting_unlike [] text at k h e = absurd (omega arith)
starting_unlike (x ∷ part) text at k h e = rw (from text at h, ne_eqb x (get_or text at 0) (λ d. e (sym d)))

pub seeking_past : {part text : List ℕ} {at : ℕ} → 0 < length part → Seeking part text at → at < length text → (get_or text at 0 ≡ get_or part 0 0 → ⊥)
    → Seeking part text (at + 1)
seeking_past {part} {text} {at} k s h e = seeking_on s h (starting_unlike part text at k h e)

-- a part that was found lies within the text
starting_long : (part text : List ℕ) → starts_with part text ≡ true → length part ≤ length text
unfolding starts_with
starting_long [] text e = omega arith
starting_long (x ∷ part) [] e = absurd (false≢true e)
starting_long (x ∷ part) (y ∷ text) e = omega (arith, starting_long part text (both (eqb x y) (starts_with part text) e).1)

found_from : (part : List ℕ) (n : ℕ) (text : List ℕ) (at : ℕ) → find_from part n text ≡ Some at → at + length part ≤ n + length text
unfolding find_from
found_from part n [] at h = go (starts_with part []) refl
  where
    go : (t : Bool) → starts_with part [] ≡ t → at + length part ≤ n + 0
    go true e =
        let g : find_from part n [] ≡ Some n = rw (e, find_from) in
        let k : n ≡ at = cc in
        omega (arith, starting_long part [] e)
    go false e =
        let g : find_from part n [] ≡ None = rw (e, find_from) in
        let z : ◌≡◌ {A = ℕ} 0 1 = cc in
        absurd (omega arith)
found_from part n (y ∷ text) at h = go (starts_with part (y ∷ text)) refl (found_from part (suc n) text at)
  where
    go : (t : Bool) → starts_with part (y ∷ text) ≡ t → (find_from part (suc n) text ≡ Some at → at + length part ≤ suc n + length text) → at + length part ≤ n + suc (length text)
    go true e ih =
        let g : find_from part n (y ∷ text) ≡ Some n = rw (e, find_from) in
        let k : n ≡ at = cc in
        omega (arith, starting_long part (y ∷ text) e)
    go false e ih =
        let g : find_from part n (y ∷ text) ≡ find_from part (suc n) text = rw (e, find_from) in
        omega (arith, ih (sym g ∙ h))

pub found_within : (part text : List ℕ) {at : ℕ} → find part text ≡ Some at → at + length part ≤ length text
unfolding find
found_within part text {at} h = omega (arith, found_from part 0 text at h)

-- a property's set and name, by where `::` was found, and that it lies within the text
module _ (text : List ℕ) {found : Option ℕ} (f : found ≡ find (ascii "::") text) where
  pub set_whole : found ≡ None → [] ≡ property_set_of text
  unfolding property_set_of
  set_whole e = sym (ap (λ (r : Option ℕ). set_before r text) (sym f ∙ e))

  pub name_whole : found ≡ None → text ≡ property_name_of text
  unfolding property_name_of
  name_whole e = sym (ap (λ (r : Option ℕ). name_after r text) (sym f ∙ e))

  module _ {at : ℕ} (e : found ≡ Some at) where
    pub colons_within : at + 2 ≤ length text
    colons_within = found_within (ascii "::") text (sym f ∙ e)

    pub set_parted : take at text ≡ property_set_of text
    unfolding property_set_of
    set_parted = sym (ap (λ (r : Option ℕ). set_before r text) (sym f ∙ e))

    pub name_parted : take (length text - (at + 2)) (drop (at + 2) text) ≡ property_name_of text
    unfolding property_name_of
    name_parted =
        take_all (length text - (at + 2)) (drop (at + 2) text) (omega (arith, length-drop (at + 2) text))
        ∙ sym (ap (λ (r : Option ℕ). name_after r text) (sym f ∙ e))

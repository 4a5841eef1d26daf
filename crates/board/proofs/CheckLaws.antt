-- How far a loop has come through pairs that lie end to end, or through records that each pass a test: what is left decides as the
-- whole does. Assumes nothing.
use mathlib.Core.Path.{◌≡◌, refl, sym, ap, ◌∙◌}
use mathlib.Core.Bool.{Bool, true, false, ◌&&◌, and-true}
use mathlib.Core.List.{List, [], ◌∷◌}
use Prim.Native.Nat.{ℕ, zero, suc, ◌+◌, ◌-◌, ◌≤◌, ◌<◌}
use native.Mathlib.Numerals.{add-one}
use native.Mathlib.Omega.{arith}
use lib.Dec.{eqb}
use lib.ListN.{length, take, drop}
use borrow.Author.Tests.{eq-eqb, ne_eqb, le-leb, lt-leb}
use Rattle.board.specs.declared.image.Section.{Section}
use Rattle.board.specs.declared.image.Section.TheVariants.{Letters}
use Rattle.board.specs.Image.{section_offset, string_offset, string_length, text}
use Rattle.board.specs.Check.{laid, each}
use Rattle.board.specs.CheckScan.{all_below}
use Rattle.std.specs.Slice.{IsGetRangeResult}
use Rattle.std.specs.Option.{unwrap_or}
use Rattle.std.specs.Cmp.Lexicographic.{pointwise}
use Rattle.syntax.specs.Text.{same}
use Rattle.std.specs.List.{list_all, range_with_len}
use Rattle.std.proofs.Common.{Option, None, Some, inl, inr, Bor}

-- of `count`, n are passed: one more is left than after the next, or none
one_more : (n count : ℕ) → n < count → count - n ≡ suc (count - (n + 1))
one_more n count h = omega arith

none_left : (n count : ℕ) → count ≤ n → count - n ≡ 0
none_left n count h = omega arith

-- n pairs of `count` are passed, and the next must stand at `at`
pub record Laying (offset long : ℕ → ℕ) (count from end n at : ℕ) : Type 0 where
  pub within : n ≤ count
  pub rest : laid offset long n (count - n) at end ≡ laid offset long 0 count from end

module _ {offset long : ℕ → ℕ} {count from end n at : ℕ} (laying : Laying offset long count from end n at) where
  pub laying_off : {x : ℕ} → n < count → x ≡ offset n → (x ≡ at → ⊥) → false ≡ laid offset long 0 count from end
  unfolding laid
  laying_off {x} h e d = sym (rw (one_more n count h, ← e, ne_eqb x at d)) ∙ laying.rest

  pub laying_on : {x y : ℕ} → n < count → x ≡ offset n → x ≡ at → y ≡ long n → Laying offset long count from end (n + 1) (x + y)
  unfolding laid
  laying_on {x} {y} h e d f =
      record { within = omega arith; rest = sym (rw (one_more n count h, ← e, eq-eqb x at d, add-one n, ← d, ← f)) ∙ laying.rest }

  pub laying_done : count ≤ n → eqb at end ≡ laid offset long 0 count from end
  unfolding laid
  laying_done h = sym (ap (λ (m : ℕ). laid offset long n m at end) (none_left n count h)) ∙ laying.rest

-- n records of `count` are passed, and each passes the test
pub record Passing (passes : ℕ → Bool) (count n : ℕ) : Type 0 where
  pub within : n ≤ count
  pub rest : each passes n (count - n) ≡ each passes 0 count

module _ {passes : ℕ → Bool} {count n : ℕ} (passing : Passing passes count n) where
  pub passing_no : n < count → passes n ≡ false → false ≡ each passes 0 count
  unfolding each
  passing_no h e = sym (rw (one_more n count h, e)) ∙ passing.rest

  pub passing_yes : n < count → passes n ≡ true → Passing passes count (n + 1)
  unfolding each
  passing_yes h e = record { within = omega arith; rest = sym (rw (one_more n count h, e, add-one n)) ∙ passing.rest }

  pub passing_done : count ≤ n → true ≡ each passes 0 count
  unfolding each
  passing_done h = sym (ap (each passes n) (none_left n count h)) ∙ passing.rest

-- the same by a list of the records
pub each_of_range : (passes : ℕ → Bool) (n count : ℕ) → list_all passes (range_with_len n count) ≡ each passes n count
unfolding each
each_of_range passes n zero = refl
each_of_range passes n (suc count) = rw (add-one n) (ap (λ (t : Bool). passes n && t) (each_of_range passes (suc n) count))

-- two texts that `==` says to be the same
pub same_bytes : (a b : List ℕ) → pointwise eqb a b ≡ same a b
same_bytes [] [] = refl
same_bytes [] (y ∷ b) = refl
same_bytes (x ∷ a) [] = refl
same_bytes (x ∷ a) (y ∷ b) = ap (λ (t : Bool). eqb x y && t) (same_bytes a b)

-- two answers from one pass
pub both_first : {p : Bool} (q : Bool) → false ≡ p → false ≡ (p && q)
both_first q e = ap (λ (t : Bool). t && q) e

pub both_second : (p : Bool) {q : Bool} → false ≡ q → false ≡ (p && q)
both_second true e = e
both_second false e = refl

pub both_done : {r p q : Bool} → r ≡ p → true ≡ q → r ≡ (p && q)
both_done {p = p} e f = rw (← f, and-true p) e

-- the same tests at equal limits
pub limits_same : (image : List ℕ) (section : Section) {a a' b b' c c' : ℕ} → a ≡ a' → b ≡ b' → c ≡ c'
    → all_below image section a b c ≡ all_below image section a' b' c'
limits_same image section p q r = λ j. all_below image section (p j) (q j) (r j)

-- the text of a string, from the numbers that were read
module _ (image : List ℕ) (n : ℕ) {letters x y : ℕ} (l : letters ≡ section_offset image Letters) (e : x ≡ string_offset image n) (f : y ≡ string_length image n) where
  pub text_outside : length image < letters + x + y → [] ≡ text image n
  unfolding text
  text_outside h = rw (← l, ← e, ← f, lt-leb (letters + x + y) (length image) h)

  pub text_inside : letters + x + y ≤ length image → take (letters + x + y - (letters + x)) (drop (letters + x) image) ≡ text image n
  unfolding text
  text_inside h =
      let less : letters + x + y - (letters + x) ≡ y = omega arith in rw (← l, ← e, ← f, le-leb (letters + x + y) (length image) h, less)

  -- the part that `get` lends, or nothing where there is none
  pub text_read : (r : Option (Bor (List ℕ))) → IsGetRangeResult image (letters + x) (letters + x + y) r → (none : Bor (List ℕ)) → none.now ≡ [] → (unwrap_or r none).now ≡ text image n
  text_read None h none z = z ∙ text_outside (elim h.0 [ inl l ↦ absurd (omega arith) | inr l ↦ l ])
  text_read (Some part) h none z = h.0.2 ∙ text_inside h.0.1

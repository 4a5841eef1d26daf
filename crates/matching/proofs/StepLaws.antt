-- Laws of places looked at in one step: what the bits of a step say, those that are left where some are shifted out, and where a part can
-- not stand. Assumes nothing.
use Rattle.std.proofs.Common.{◌≡◌, ℕ, zero, suc, ◌+◌, ◌-◌, ◌/◌, ◌%◌, ◌^◌, ◌<◌, ◌≤◌, List, [], ◌∷◌, Bool, true, false, cond, ◌&&◌, eqb, length, get_or, map, drop, replicate, refl, sym, ap, subst, ◌∙◌, arith, bit_and, w64, shr-shr, ⊎_elim}
use mathlib.Core.Bool.{false≢true}
use lib.Count.{count_trailing_zeros}
use lib.ListN.{get_or-eq_default}
use borrow.Author.Tests.{eq-eqb, eqb-true}
use Rattle.std.specs.Int.{bit_at}
use Rattle.std.specs.Simd.Lanes.{zip2, mask_l, top}
use Rattle.std.proofs.Math.Path.{ap₂}
use Rattle.std.proofs.Math.Nat.{div-le_self}
use Rattle.std.proofs.lemmas.Simd.{length-chunk, get_or-chunk, length-zip2, get_or-zip2, length-replicate, get_or-replicate, mask_l-mod, bit_mask_l}
use Rattle.std.proofs.lemmas.List.{length-map, get_or-drop}
use Rattle.std.proofs.Math.ListN.{get_or-map}
use Rattle.std.proofs.lemmas.Bool.{cases_lt}
use Rattle.std.proofs.lemmas.Nat.Bits.{bit_at-zero, bit_at-trailing_zeros}
use lib.Lanes.{chunk}
use Rattle.syntax.proofs.BoolLaws.{whether, both}
use Rattle.matching.specs.Search.{starts_with}
use Rattle.matching.specs.Steps.{has_ends, Marked}
use Rattle.matching.proofs.SearchLaws.{Seeking, seeking_on}

-- ---- the bits of a step

-- as many bytes as a step has places, each compared with one
compared : List ℕ → ℕ → ℕ → List ℕ
compared text at byte = zip2 (λ x y. cond (eqb x y) 255 0) (chunk at 16 text) (replicate 16 byte)

compared_length : (text : List ℕ) (at byte : ℕ) → at + 16 ≤ length text → length (compared text at byte) ≡ 16
unfolding compared
compared_length text at byte room =
    let long = length-chunk at 16 text room in
    length-zip2 _ (chunk at 16 text) (replicate 16 byte) (long ∙ sym (length-replicate 16 byte)) ∙ long

compared_at : (text : List ℕ) (at byte k : ℕ) → at + 16 ≤ length text → k < 16
    → get_or (compared text at byte) k 0 ≡ cond (eqb (get_or text (at + k) 0) byte) 255 0
unfolding compared
compared_at text at byte k room h =
    let long = length-chunk at 16 text room in
    get_or-zip2 (λ x y. cond (eqb x y) 255 0) (chunk at 16 text) (replicate 16 byte) k 0 0 0 (omega arith) (omega (arith, length-replicate 16 byte))
    ∙ ap₂ (λ (x y : ℕ). cond (eqb x y) 255 0) (get_or-chunk at 16 text k 0 h) (get_or-replicate 16 k byte 0 h)

-- the highest bit of two bytes that are all bits or none
tops : (a b : Bool) → top 7 (bit_and (cond a 255 0) (cond b 255 0)) ≡ (a && b)
tops true true = refl
tops true false = refl
tops false true = refl
tops false false = refl

pub step_marked : (text : List ℕ) (at first last gap : ℕ) → at + gap + 16 ≤ length text
    → Marked (has_ends text first last gap) at (mask_l (map (top 7) (zip2 bit_and (zip2 (λ a b. cond (eqb a b) 255 0) (chunk at 16 text) (replicate 16 first)) (zip2 (λ a b. cond (eqb a b) 255 0) (chunk (at + gap) 16 text) (replicate 16 last)))) % 2 ^ 64)
unfolding has_ends compared
step_marked text at first last gap room =
    let ones = compared text at first in
    let others = compared text (at + gap) last in
    let a = compared_length text at first (omega arith) in
    let b = compared_length text (at + gap) last room in
    let joined = zip2 bit_and ones others in
    let long : length joined ≡ 16 = length-zip2 bit_and ones others (a ∙ sym b) ∙ a in
    let bits = map (top 7) joined in
    let many : length bits ≡ 16 = length-map joined (top 7) ∙ long in
    let whole : mask_l bits % 2 ^ 64 ≡ mask_l bits = mask_l-mod bits 64 (omega arith) in
    let bit = λ (k : ℕ). ap (λ (m : ℕ). bit_at m k) whole ∙ bit_mask_l bits k in
    record {
      within = λ k h.
          bit k
          ∙ ap (λ (t : Bool). cond {A = ℕ} t 1 0)
          (get_or-map (top 7) joined k 0
          ∙ ap (top 7) (get_or-zip2 bit_and ones others k 0 0 0 (omega arith) (omega arith) ∙ ap₂ bit_and (compared_at text at first k (omega arith) h) (compared_at text (at + gap) last k room h))
          ∙ tops (eqb (get_or text (at + k) 0) first) (eqb (get_or text (at + gap + k) 0) last)
          ∙ ap (λ (n : ℕ). eqb (get_or text (at + k) 0) first && eqb (get_or text n 0) last) (omega arith));
      beyond = λ k h. bit k ∙ ap (λ (t : Bool). cond {A = ℕ} t 1 0) (get_or-eq_default bits false (omega arith));
    }

-- ---- what is left of a step from a place on

-- every place from one on and before another fails
abbrev pub Fails : (ℕ → Bool) → ℕ → ℕ → Type 0
Fails passes at end = (k : ℕ) → at ≤ k → k < end → passes k ≡ false

failing : (t : Bool) → cond {A = ℕ} t 1 0 ≡ 0 → t ≡ false
failing true e = absurd (omega arith)
failing false e = refl

module _ {passes : ℕ → Bool} {start marks : ℕ} (m : Marked passes start marks) (at : ℕ) (before : start ≤ at) where
  left_bit : (i : ℕ) → bit_at (marks / 2 ^ (at - start)) i ≡ bit_at marks (at - start + i)
  left_bit i = ap (λ (x : ℕ). x % 2) (shr-shr marks (at - start) i)

  left_fails : (k : ℕ) → at ≤ k → k < start + 16 → bit_at (marks / 2 ^ (at - start)) (k - at) ≡ 0 → passes k ≡ false
  left_fails k h l e =
      failing (passes k) (sym (m.within (k - start) (omega arith) ∙ ap (λ (n : ℕ). cond {A = ℕ} (passes n) 1 0) (omega arith))
      ∙ ap (bit_at marks) (omega arith)
      ∙ sym (left_bit (k - at))
      ∙ e)

  -- no bit is left
  none_left : marks / 2 ^ (at - start) ≡ 0 → Fails passes at (start + 16)
  none_left e k h l = left_fails k h l (ap (λ (x : ℕ). bit_at x (k - at)) e ∙ bit_at-zero (k - at))

  -- the lowest bit that is left
  module _ (e : marks / 2 ^ (at - start) ≡ 0 → ⊥) (fits : marks < 2 ^ 64) where
    lowest : (count_trailing_zeros 64 (marks / 2 ^ (at - start)) < 64)
        × (bit_at (marks / 2 ^ (at - start)) (count_trailing_zeros 64 (marks / 2 ^ (at - start))) ≡ 1)
        × ((i : ℕ) → i < count_trailing_zeros 64 (marks / 2 ^ (at - start)) → bit_at (marks / 2 ^ (at - start)) i ≡ 0)
    lowest = bit_at-trailing_zeros w64 (marks / 2 ^ (at - start)) (omega (arith, e)) (omega (arith, div-le_self marks (2 ^ (at - start))))

    pub first_within : at + count_trailing_zeros 64 (marks / 2 ^ (at - start)) < start + 16
    first_within =
        let n = count_trailing_zeros 64 (marks / 2 ^ (at - start)) in
        ⊎_elim (λ l. omega arith) (λ (l : 16 ≤ at - start + n). let both_ways : 1 ≡ 0 = sym lowest.1 ∙ left_bit n ∙ m.beyond (at - start + n) l in absurd (omega arith)) (cases_lt (at - start + n) 16)

    none_before : Fails passes at (at + count_trailing_zeros 64 (marks / 2 ^ (at - start)))
    none_before k h l = left_fails k h (omega (arith, first_within)) (lowest.2 (k - at) (omega arith))

-- ---- a part does not stand where its first or its last byte does not

starting_bytes : (part text : List ℕ) → starts_with part text ≡ true → (j : ℕ) → j < length part → get_or text j 0 ≡ get_or part j 0
unfolding starts_with
starting_bytes [] text e j h = absurd (omega arith)
starting_bytes (x ∷ part) [] e j h = absurd (false≢true e)
starting_bytes (x ∷ part) (y ∷ text) e zero h = sym (eqb-true x y (both (eqb x y) (starts_with part text) e).0)
starting_bytes (x ∷ part) (y ∷ text) e (suc j) h = starting_bytes part text (both (eqb x y) (starts_with part text) e).1 j (omega arith)

module _ (part text : List ℕ) (some : 0 < length part) where
  ends_standing : (at : ℕ) → starts_with part (drop at text) ≡ true → has_ends text (get_or part 0 0) (get_or part (length part - 1) 0) (length part - 1) at ≡ true
  unfolding has_ends
  ends_standing at e =
      let byte = λ (j : ℕ) (h : j < length part). sym (get_or-drop at text j 0) ∙ starting_bytes part (drop at text) e j h in
      let first : get_or text at 0 ≡ get_or part 0 0 = ap (λ (n : ℕ). get_or text n 0) (omega arith) ∙ byte 0 some in
      rw (eq-eqb (get_or text at 0) (get_or part 0 0) first) (eq-eqb _ _ (byte (length part - 1) (omega arith)))

  ends_missing : (at : ℕ) → has_ends text (get_or part 0 0) (get_or part (length part - 1) 0) (length part - 1) at ≡ false → starts_with part (drop at text) ≡ false
  ends_missing at e = whether (starts_with part (drop at text)) (λ t. absurd (false≢true (sym e ∙ ends_standing at t))) (λ f. f)

  seeking_by : (n at : ℕ) → Seeking part text at → at + n ≤ length text → Fails (has_ends text (get_or part 0 0) (get_or part (length part - 1) 0) (length part - 1)) at (at + n) → Seeking part text (at + n)
  seeking_by zero at c h f = subst (Seeking part text) (omega arith) c
  seeking_by (suc n) at c h f =
      subst (Seeking part text) (omega arith)
      (seeking_by n (at + 1) (seeking_on c (omega arith) (ends_missing at (f at (omega arith) (omega arith)))) (omega arith) (λ k g l. f k (omega arith) (omega arith)))

  seeking_to : {at end : ℕ} → Seeking part text at → at ≤ end → end ≤ length text → Fails (has_ends text (get_or part 0 0) (get_or part (length part - 1) 0) (length part - 1)) at end → Seeking part text end
  seeking_to {at} {end} c h l f =
      let e : at + (end - at) ≡ end = omega arith in
      subst (Seeking part text) e (seeking_by (end - at) at c (omega arith) (λ k g i. f k g (omega arith)))

-- a part is searched for past a step that has no bit left, or else from the lowest on
module _ {part text : List ℕ} {at start marks : ℕ} (c : Seeking part text at) (some : 0 < length part)
    (m : Marked (has_ends text (get_or part 0 0) (get_or part (length part - 1) 0) (length part - 1)) start marks) (before : start ≤ at) (room : start + 16 ≤ length text) where
  pub seeking_after : at ≤ start + 16 → marks / 2 ^ (at - start) ≡ 0 → Seeking part text (start + 16)
  seeking_after h e = seeking_to part text some c h room (none_left m at before e)

  pub seeking_marked : (marks / 2 ^ (at - start) ≡ 0 → ⊥) → marks < 2 ^ 64 → Seeking part text (at + count_trailing_zeros 64 (marks / 2 ^ (at - start)))
  seeking_marked e fits = seeking_to part text some c (omega arith) (omega (arith, first_within m at before e fits)) (none_before m at before e fits)

-- Laws of UTF-8: well-formedness byte by byte, what must follow a first byte, and texts one after the other. Assumes nothing.
use mathlib.Core.Path.{◌≡◌, refl, sym, ◌∙◌, subst}
use mathlib.Core.Bool.{Bool, true, false, ◌&&◌, and-true}
use mathlib.Core.List.{List, [], ◌∷◌, ◌++◌}
use Prim.Native.Nat.{ℕ, zero, suc, ◌≤◌, ◌<◌, max}
use native.Mathlib.Omega.{arith}
use borrow.Author.Tests.{lt-ltb, le-ltb, ltb-true, ltb-false}
use lib.Dec.{T, ltb}
use lib.ListN.{take, drop}
use Rattle.std.specs.List.{fold}
use Rattle.std.specs.Str.Lossy.{second_byte_min, second_byte_max}
use Rattle.std.proofs.lemmas.Bool.Decides.{nat_tests}
use Rattle.syntax.specs.Utf8.{Range, to, trail, within, After, ill, needs, table, after_in, after, well_from, utf8, is_ascii}
use Rattle.syntax.proofs.BoolLaws.{whether, both}

-- the range of the second byte of a character of three or four bytes, by its first
abbrev pub second : ℕ → Range
second b = to (second_byte_min b) (second_byte_max b)

-- well-formedness, byte by byte
module _ (b : ℕ) (s : List ℕ) where
  pub well_ill : after b ≡ ill → well_from (b ∷ s) [] ≡ false
  unfolding well_from
  well_ill e = rw (e, well_from)

  pub well_needs : (rs : List Range) → after b ≡ needs rs → well_from (b ∷ s) [] ≡ well_from s rs
  unfolding well_from
  well_needs rs e = rw (e, well_from)

  pub well_in : (r : Range) (rs : List Range) → within r b ≡ true → well_from (b ∷ s) (r ∷ rs) ≡ well_from s rs
  unfolding well_from
  well_in r rs e = rw (e, well_from)

  pub well_out : (r : Range) (rs : List Range) → within r b ≡ false → well_from (b ∷ s) (r ∷ rs) ≡ false
  unfolding well_from
  well_out r rs e = rw (e, well_from)

-- what must follow a first byte: the rows of the table by the number of bytes, with the range of the second byte as the library has it
module _ (b : ℕ) where
  pub after_one : b < 0x80 → after b ≡ needs []
  unfolding after after_in table
  after_one h = grind (arith, nat_tests)

  pub after_two : 0xC2 ≤ b → b < 0xE0 → after b ≡ needs (trail ∷ [])
  unfolding after after_in table
  after_two l h = grind (arith, nat_tests)

  pub after_three : 0xE0 ≤ b → b < 0xF0 → after b ≡ needs (second b ∷ trail ∷ [])
  unfolding after after_in table
  after_three l h = grind (arith, nat_tests)

  pub after_four : 0xF0 ≤ b → b < 0xF5 → after b ≡ needs (second b ∷ trail ∷ trail ∷ [])
  unfolding after after_in table
  after_four l h = grind (arith, nat_tests)

  pub after_none : 0x80 ≤ b → b < 0xC2 → after b ≡ ill
  unfolding after after_in table
  after_none l h = grind (arith, nat_tests)

  pub after_past : 0xF5 ≤ b → after b ≡ ill
  unfolding after after_in table
  after_past l = grind (arith, nat_tests)

-- a text set after a well-formed one
append_from : (a b : List ℕ) (rs : List Range) → T (well_from a rs) → well_from (a ++ b) rs ≡ utf8 b
unfolding well_from utf8
append_from [] b [] h = refl
append_from [] b (r ∷ rs) h = absurd h
append_from (x ∷ a) b (r ∷ rs) h =
    let ih = append_from a b rs in
    whether (within r x) (λ e. well_in x (a ++ b) r rs e ∙ ih (subst T (well_in x a r rs e) h)) (λ e. absurd (subst T (well_out x a r rs e) h))
append_from (x ∷ a) b [] h = go (after x) refl (λ rs. append_from a b rs)
  where
    go : (y : After) → after x ≡ y → ((rs : List Range) → T (well_from a rs) → well_from (a ++ b) rs ≡ utf8 b) → well_from (x ∷ (a ++ b)) [] ≡ utf8 b
    go ill e ih = absurd (subst T (well_ill x a e) h)
    go (needs rs) e ih = well_needs x (a ++ b) rs e ∙ ih rs (subst T (well_needs x a rs e) h)

pub utf8_append : (a b : List ℕ) → T (utf8 a) → utf8 (a ++ b) ≡ utf8 b
unfolding utf8
utf8_append a b h = append_from a b [] h

-- a text that is ASCII alone is UTF-8, and so is each part of it
pub ascii_utf8 : (s : List ℕ) → is_ascii s ≡ true → utf8 s ≡ true
unfolding is_ascii utf8 well_from
ascii_utf8 [] h = refl
ascii_utf8 (b ∷ s) h =
    let parts = both (ltb b 0x80) (is_ascii s) h in
    well_needs b s [] (after_one b (ltb-true b 0x80 parts.0)) ∙ ascii_utf8 s parts.1

pub ascii_take : (n : ℕ) (s : List ℕ) → is_ascii s ≡ true → is_ascii (take n s) ≡ true
unfolding is_ascii
ascii_take zero s h = refl
ascii_take (suc n) [] h = refl
ascii_take (suc n) (b ∷ s) h =
    let parts = both (ltb b 0x80) (is_ascii s) h in
    rw parts.0 (ascii_take n s parts.1)

pub ascii_drop : (n : ℕ) (s : List ℕ) → is_ascii s ≡ true → is_ascii (drop n s) ≡ true
unfolding is_ascii
ascii_drop zero s h = h
ascii_drop (suc n) [] h = refl
ascii_drop (suc n) (b ∷ s) h = ascii_drop n s (both (ltb b 0x80) (is_ascii s) h).1

below_both : (a b c : ℕ) (t : Bool) → (ltb (max a b) c && t) ≡ (ltb a c && (ltb b c && t))
below_both a b c t =
    whether (ltb a c)
    (λ p. whether (ltb b c)
    (λ q. rw (p, q, lt-ltb (max a b) c (omega (arith, ltb-true a c p, ltb-true b c q))))
    (λ q. rw (p, q, le-ltb (max a b) c (omega (arith, ltb-false b c q)))))
    (λ p. rw (p, le-ltb (max a b) c (omega (arith, ltb-false a c p))))

-- a text is ASCII alone where its highest byte is below 0x80; a is the highest of what stands before it
highest_of : (a : ℕ) (s : List ℕ) → ltb (fold max a s) 0x80 ≡ (ltb a 0x80 && is_ascii s)
unfolding is_ascii
highest_of a [] = sym (and-true (ltb a 0x80))
highest_of a (b ∷ s) = highest_of (max a b) s ∙ below_both a b 0x80 (is_ascii s)

pub highest_ascii : (s : List ℕ) → ltb (fold max 0 s) 0x80 ≡ is_ascii s
highest_ascii s = highest_of 0 s

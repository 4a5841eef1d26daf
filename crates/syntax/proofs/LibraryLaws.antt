-- The library's words for UTF-8 and the table say the same of every text. Assumes nothing.
use mathlib.Core.Path.{◌≡◌, refl, sym, subst, ap, ◌∙◌}
use mathlib.Core.Bool.{true, false≢true}
use mathlib.Core.Logic.{◌⊎◌, inl, inr}
use mathlib.Core.List.{List, [], ◌∷◌, ◌++◌}
use Prim.Native.Nat.{ℕ, zero, suc, ◌+◌, ◌-◌, ◌*◌, ◌/◌, ◌%◌, ◌≤◌, ◌<◌}
use native.Mathlib.Omega.{arith}
use borrow.Author.Tests.{lt-ltb, le-ltb}
use lib.ListN.{length}
use lib.Utf8.{scalar, scalars, encode, encodes, scalar_cases}
use Rattle.std.specs.Str.{IsUtf8}
use Rattle.std.specs.Prelude.{Decides}
use Rattle.std.proofs.lemmas.Bool.{cases_lt, and_parts, cond-true, cond-false}
use Rattle.std.proofs.lemmas.Bool.Decides.{nat_tests}
use Rattle.std.proofs.lemmas.Str.{IsUtf8-nil, IsUtf8-append, IsUtf8-encode, encode_ascii}
use Rattle.syntax.specs.Utf8.{Range, trail, within, well_from, utf8}
use Rattle.syntax.proofs.BoolLaws.{whether}
use Rattle.syntax.proofs.Utf8Laws.{second, well_ill, well_needs, well_in, well_out, after_one, after_two, after_three, after_four, after_none, after_past}

-- the bytes of a character
encode_two : (c : ℕ) → 0x80 ≤ c → c < 0x800 → encode c ≡ (192 + c / 64) ∷ (128 + c % 64) ∷ []
unfolding encode
encode_two c l h = cond-false _ _ _ (le-ltb c 128 l) ∙ cond-true _ _ _ (lt-ltb c 2048 h)

encode_three : (c : ℕ) → 0x800 ≤ c → c < 0x10000 → encode c ≡ (224 + c / 4096) ∷ (128 + (c / 64) % 64) ∷ (128 + c % 64) ∷ []
unfolding encode
encode_three c l h =
    cond-false _ _ _ (le-ltb c 128 (omega arith)) ∙ cond-false _ _ _ (le-ltb c 2048 l) ∙ cond-true _ _ _ (lt-ltb c 65536 h)

encode_four : (c : ℕ) → 0x10000 ≤ c →
    encode c ≡ (240 + c / 262144) ∷ (128 + (c / 4096) % 64) ∷ (128 + (c / 64) % 64) ∷ (128 + c % 64) ∷ []
unfolding encode
encode_four c l =
    cond-false _ _ _ (le-ltb c 128 (omega arith)) ∙ cond-false _ _ _ (le-ltb c 2048 (omega arith)) ∙ cond-false _ _ _ (le-ltb c 65536 l)

-- what the second byte x of three or four is after b
record Second (b x : ℕ) : Type 0 where
  low : 0x80 ≤ x
  high : x < 0xC0
  after_E0 : b ≡ 0xE0 → 0xA0 ≤ x
  after_ED : b ≡ 0xED → x < 0xA0
  after_F0 : b ≡ 0xF0 → 0x90 ≤ x
  after_F4 : b ≡ 0xF4 → x < 0x90

in_second : (b x : ℕ) → Second b x → within (second b) x ≡ true
in_second b x s = grind (arith, nat_tests)

of_second : (b x : ℕ) → within (second b) x ≡ true → Second b x
of_second b x h = record {
  low = grind (arith, nat_tests);
  high = grind (arith, nat_tests);
  after_E0 = λ e. grind (arith, nat_tests);
  after_ED = λ e. grind (arith, nat_tests);
  after_F0 = λ e. grind (arith, nat_tests);
  after_F4 = λ e. grind (arith, nat_tests);
}

in_trail : (x : ℕ) → 0x80 ≤ x → x < 0xC0 → within trail x ≡ true
in_trail x l h = grind (arith, nat_tests)

of_trail : (x : ℕ) → within trail x ≡ true → (0x80 ≤ x) × (x < 0xC0)
of_trail x h = (grind (arith, nat_tests), grind (arith, nat_tests))

-- a character's bytes are a row of the table
character_row : (c : ℕ) (t : List ℕ) → scalar c ≡ true → well_from (encode c ++ t) [] ≡ well_from t []
character_row c t s = by (cases_lt c 0x80) (cases_lt c 0x800) (cases_lt c 0x10000) (scalar_cases c s)
  where
    trailing : (x : ℕ) → within trail (128 + x % 64) ≡ true
    trailing x = in_trail (128 + x % 64) (omega arith) (omega arith)

    by : (c < 0x80) ⊎ (0x80 ≤ c) → (c < 0x800) ⊎ (0x800 ≤ c) → (c < 0x10000) ⊎ (0x10000 ≤ c) → (c < 55296) ⊎ ((57344 ≤ c) × (c < 1114112))
        → well_from (encode c ++ t) [] ≡ well_from t []
    by (inl h) _ _ _ = rw (encode_ascii c h) (well_needs c t [] (after_one c h))
    by (inr l) (inl h) _ _ =
        rw (encode_two c l h)
        (well_needs (192 + c / 64) _ _ (after_two (192 + c / 64) (omega arith) (omega arith)) ∙ well_in (128 + c % 64) t trail [] (trailing c))
    by (inr _) (inr l) (inl h) v =
        let b = 224 + c / 4096 in
        let x = 128 + (c / 64) % 64 in
        let s2 : Second b x = record {
          low = omega arith;
          high = omega arith;
          after_E0 = λ e. omega arith;
          after_ED = λ e. elim v [ inl k ↦ omega arith | inr k ↦ omega arith ];
          after_F0 = λ e. omega arith;
          after_F4 = λ e. omega arith;
        } in
        rw (encode_three c l h)
        (well_needs b _ _ (after_three b (omega arith) (omega arith))
        ∙ well_in x _ (second b) (trail ∷ []) (in_second b x s2)
        ∙ well_in (128 + c % 64) t trail [] (trailing c))
    by (inr _) (inr _) (inr l) v =
        let top : c < 1114112 = elim v [ inl k ↦ omega arith | inr k ↦ k.1 ] in
        let b = 240 + c / 262144 in
        let x = 128 + (c / 4096) % 64 in
        let s2 : Second b x = record {
          low = omega arith;
          high = omega arith;
          after_E0 = λ e. omega arith;
          after_ED = λ e. omega arith;
          after_F0 = λ e. omega arith;
          after_F4 = λ e. omega arith;
        } in
        rw (encode_four c l)
        (well_needs b _ _ (after_four b (omega arith) (omega arith))
        ∙ well_in x _ (second b) (trail ∷ trail ∷ []) (in_second b x s2)
        ∙ well_in (128 + (c / 64) % 64) _ trail (trail ∷ []) (trailing (c / 64))
        ∙ well_in (128 + c % 64) t trail [] (trailing c))

characters_rows : (cs : List ℕ) → scalars cs ≡ true → well_from (encodes cs) [] ≡ true
unfolding well_from
characters_rows [] s = refl
characters_rows (c ∷ cs) s =
    let p = and_parts (scalar c) (scalars cs) s in
    character_row c (encodes cs) p.0 ∙ characters_rows cs p.1

-- a byte that must be in the range r, and the text after it
record Next (s : List ℕ) (r : Range) (rs : List Range) : Type 0 where
  byte : ℕ
  rest : List ℕ
  is : s ≡ byte ∷ rest
  fits : within r byte ≡ true
  well : well_from rest rs ≡ true

next : (s : List ℕ) (r : Range) (rs : List Range) → well_from s (r ∷ rs) ≡ true → Next s r rs
unfolding well_from
next [] r rs h = absurd (false≢true h)
next (b ∷ s) r rs h =
    whether (within r b)
    (λ e. record { byte = b; rest = s; is = refl; fits = e; well = sym (well_in b s r rs e) ∙ h })
    (λ e. absurd (false≢true (sym (well_out b s r rs e) ∙ h)))

-- the bytes of a row are a character's
char : (c : ℕ) (bs : List ℕ) → scalar c ≡ true → encode c ≡ bs → IsUtf8 bs
char c bs s e = subst IsUtf8 e (IsUtf8-encode c s)

char_one : (b : ℕ) → b < 0x80 → IsUtf8 (b ∷ [])
char_one b h = char b (b ∷ []) (grind (arith, nat_tests)) (encode_ascii b h)

char_two : (b x : ℕ) → 0xC2 ≤ b → b < 0xE0 → (0x80 ≤ x) × (x < 0xC0) → IsUtf8 (b ∷ x ∷ [])
char_two b x l h f =
    let c = (b - 192) * 64 + (x - 128) in
    let b_is : 192 + c / 64 ≡ b = omega arith in
    let x_is : 128 + c % 64 ≡ x = omega arith in
    char c (b ∷ x ∷ []) (grind (arith, nat_tests)) (encode_two c (omega arith) (omega arith) ∙ (λ i. b_is i ∷ x_is i ∷ []))

char_three : (b x y : ℕ) → 0xE0 ≤ b → b < 0xF0 → Second b x → (0x80 ≤ y) × (y < 0xC0) → IsUtf8 (b ∷ x ∷ y ∷ [])
char_three b x y l h f g =
    let c = (b - 224) * 4096 + (x - 128) * 64 + (y - 128) in
    let least : 0x800 ≤ c = grind (arith, f) in
    let no_surrogate : (c < 55296) ⊎ (57344 ≤ c) = elim (cases_lt b 0xEE) [ inl k ↦ inl (grind (arith, f)) | inr k ↦ inr (omega arith) ] in
    let b_is : 224 + c / 4096 ≡ b = omega arith in
    let x_is : 128 + (c / 64) % 64 ≡ x = omega arith in
    let y_is : 128 + c % 64 ≡ y = omega arith in
    char c (b ∷ x ∷ y ∷ []) (grind (arith, nat_tests)) (encode_three c least (omega arith) ∙ (λ i. b_is i ∷ x_is i ∷ y_is i ∷ []))

char_four : (b x y z : ℕ) → 0xF0 ≤ b → b < 0xF5 → Second b x → (0x80 ≤ y) × (y < 0xC0) → (0x80 ≤ z) × (z < 0xC0) → IsUtf8 (b ∷ x ∷ y ∷ z ∷ [])
char_four b x y z l h f g k =
    let c = (b - 240) * 262144 + (x - 128) * 4096 + (y - 128) * 64 + (z - 128) in
    let least : 0x10000 ≤ c = grind (arith, f) in
    let most : c < 1114112 = grind (arith, f) in
    let b_is : 240 + c / 262144 ≡ b = omega arith in
    let x_is : 128 + (c / 4096) % 64 ≡ x = omega arith in
    let y_is : 128 + (c / 64) % 64 ≡ y = omega arith in
    let z_is : 128 + c % 64 ≡ z = omega arith in
    char c (b ∷ x ∷ y ∷ z ∷ []) (grind (arith, nat_tests)) (encode_four c least ∙ (λ i. b_is i ∷ x_is i ∷ y_is i ∷ z_is i ∷ []))

-- a text that the table takes begins with a character, and what follows it is shorter
module _ (b : ℕ) (s : List ℕ) (h : well_from (b ∷ s) [] ≡ true) (shorter : (t : List ℕ) → length t ≤ length s → well_from t [] ≡ true → IsUtf8 t) where
  from_one : b < 0x80 → IsUtf8 (b ∷ s)
  from_one m = IsUtf8-append (b ∷ []) s (char_one b m) (shorter s (omega arith) (sym (well_needs b s [] (after_one b m)) ∙ h))

  from_two : 0xC2 ≤ b → b < 0xE0 → IsUtf8 (b ∷ s)
  from_two l m =
      let x = next s trail [] (sym (well_needs b s _ (after_two b l m)) ∙ h) in
      subst (λ w. IsUtf8 (b ∷ w)) (sym x.is)
      (IsUtf8-append (b ∷ x.byte ∷ []) x.rest (char_two b x.byte l m (of_trail x.byte x.fits))
      (shorter x.rest (omega (arith, ap length x.is)) x.well))

  from_three : 0xE0 ≤ b → b < 0xF0 → IsUtf8 (b ∷ s)
  from_three l m =
      let x = next s (second b) (trail ∷ []) (sym (well_needs b s _ (after_three b l m)) ∙ h) in
      let y = next x.rest trail [] x.well in
      subst (λ w. IsUtf8 (b ∷ w)) (sym (x.is ∙ ap (λ w. x.byte ∷ w) y.is))
      (IsUtf8-append (b ∷ x.byte ∷ y.byte ∷ []) y.rest (char_three b x.byte y.byte l m (of_second b x.byte x.fits) (of_trail y.byte y.fits))
      (shorter y.rest (omega (arith, ap length x.is, ap length y.is)) y.well))

  from_four : 0xF0 ≤ b → b < 0xF5 → IsUtf8 (b ∷ s)
  from_four l m =
      let x = next s (second b) (trail ∷ trail ∷ []) (sym (well_needs b s _ (after_four b l m)) ∙ h) in
      let y = next x.rest trail (trail ∷ []) x.well in
      let z = next y.rest trail [] y.well in
      subst (λ w. IsUtf8 (b ∷ w)) (sym (x.is ∙ ap (λ w. x.byte ∷ w) (y.is ∙ ap (λ w. y.byte ∷ w) z.is)))
      (IsUtf8-append (b ∷ x.byte ∷ y.byte ∷ z.byte ∷ []) z.rest
      (char_four b x.byte y.byte z.byte l m (of_second b x.byte x.fits) (of_trail y.byte y.fits) (of_trail z.byte z.fits))
      (shorter z.rest (omega (arith, ap length x.is, ap length y.is, ap length z.is)) z.well))

  from_first : IsUtf8 (b ∷ s)
  from_first = by (cases_lt b 0x80) (cases_lt b 0xC2) (cases_lt b 0xE0) (cases_lt b 0xF0) (cases_lt b 0xF5)
    where
      by : (b < 0x80) ⊎ (0x80 ≤ b) → (b < 0xC2) ⊎ (0xC2 ≤ b) → (b < 0xE0) ⊎ (0xE0 ≤ b) → (b < 0xF0) ⊎ (0xF0 ≤ b) → (b < 0xF5) ⊎ (0xF5 ≤ b) → IsUtf8 (b ∷ s)
      by (inl m) _ _ _ _ = from_one m
      by (inr l) (inl m) _ _ _ = absurd (false≢true (sym (well_ill b s (after_none b l m)) ∙ h))
      by (inr _) (inr l) (inl m) _ _ = from_two l m
      by (inr _) (inr _) (inr l) (inl m) _ = from_three l m
      by (inr _) (inr _) (inr _) (inr l) (inl m) = from_four l m
      by (inr _) (inr _) (inr _) (inr _) (inr l) = absurd (false≢true (sym (well_ill b s (after_past b l)) ∙ h))

-- n is at least the text's length
from_table : (n : ℕ) (s : List ℕ) → length s ≤ n → well_from s [] ≡ true → IsUtf8 s
from_table n [] l h = IsUtf8-nil
from_table zero (b ∷ s) l h = absurd (omega arith)
from_table (suc n) (b ∷ s) l h = from_first b s h (λ t k. from_table n t (omega arith))

-- the table decides what the library takes for UTF-8
pub library_agrees : (s : List ℕ) → Decides (utf8 s) (IsUtf8 s)
unfolding utf8
library_agrees s = (from_table (length s) s (omega arith), λ u. subst (λ t. well_from t [] ≡ true) u.1.1 (characters_rows u.0 u.1.0))

-- The row at a place as the numbers have it, and the blanks from a place on. Assumes nothing.
use mathlib.Core.Path.{◌≡◌, refl, sym, ap, ◌∙◌}
use mathlib.Core.Bool.{Bool, true, false}
use mathlib.Core.List.{List, [], ◌∷◌}
use Prim.Native.Nat.{ℕ, zero, suc, ◌+◌, ◌-◌, ◌*◌, ◌/◌, ◌≤◌, ◌<◌}
use native.Mathlib.Omega.{arith}
use borrow.Author.Tests.{eq-eqb, ne_eqb}
use lib.Dec.{eqb}
use lib.ListN.{length, drop, get_or, length-drop}
use Rattle.std.proofs.Common.{cond, Option, None, Some, inl, inr, Bor}
use Rattle.std.specs.Prelude.{slice_get}
use lib.Seq.{take_all}
use Rattle.std.specs.Slice.{IsGetRangeResult}
use Rattle.std.specs.List.{prefix_len}
use Rattle.std.specs.Simd.{first_chunks}
use Rattle.std.proofs.lemmas.List.{drop_all}
use Rattle.std.specs.Option.{option_map, unwrap_or}
use Rattle.syntax.specs.Kind.{WHITESPACE}
use Rattle.reader.specs.declared.Row.{Row}
use Rattle.reader.specs.Reader.{rows_of, row_at, kind_at, blanks, past_ws, current_kind}

-- the row at a place: three numbers
abbrev pub row_here : List ℕ → ℕ → Row
row_here rows i = record { kind = get_or rows (3 * i) 0; first = get_or rows (3 * i + 1) 0; end = get_or rows (3 * i + 2) 0 }

pub row_some : (rows : List ℕ) (i : ℕ) → 3 * i + 3 ≤ length rows → Some (row_here rows i) ≡ row_at rows i
unfolding row_at rows_of
row_some [] i h = absurd (omega arith)
row_some (a ∷ []) i h = absurd (omega arith)
row_some (a ∷ b ∷ []) i h = absurd (omega arith)
row_some (a ∷ b ∷ d ∷ rows) zero h = refl
row_some (a ∷ b ∷ d ∷ rows) (suc i) h =
    let e : 3 * suc i ≡ suc (suc (suc (3 * i))) = omega arith in
    let f : 3 * suc i + 1 ≡ suc (suc (suc (3 * i + 1))) = omega arith in
    let g : 3 * suc i + 2 ≡ suc (suc (suc (3 * i + 2))) = omega arith in
    rw (f, g, e) (row_some rows i (omega arith))

-- where no whole row is, none
pub row_none : (rows : List ℕ) (i : ℕ) → length rows < 3 * i + 3 → None ≡ row_at rows i
unfolding row_at rows_of
row_none [] i h = refl
row_none (a ∷ []) i h = refl
row_none (a ∷ b ∷ []) i h = refl
row_none (a ∷ b ∷ d ∷ rows) zero h = absurd (omega arith)
row_none (a ∷ b ∷ d ∷ rows) (suc i) h = row_none rows i (omega arith)

-- the kind of the first token that is no blank, row by row
module _ (k first end : ℕ) (rows : List ℕ) where
  abbrev kind_of_row : ℕ → Option ℕ
  kind_of_row n = option_map (λ (r : Row). r.kind) (slice_get (record { kind = k; first = first; end = end } ∷ rows_of rows) n)

  pub current_later : (i : ℕ) → current_kind (k ∷ first ∷ end ∷ rows) (suc i) ≡ current_kind rows i
  unfolding current_kind kind_at row_at past_ws rows_of
  current_later i =
      let e : suc i + blanks (drop i (rows_of rows)) ≡ suc (i + blanks (drop i (rows_of rows))) = omega arith in
      ap kind_of_row e

  pub current_blank : k ≡ WHITESPACE → current_kind (k ∷ first ∷ end ∷ rows) 0 ≡ current_kind rows 0
  unfolding current_kind kind_at row_at past_ws rows_of
  current_blank q =
      let e : 0 + blanks (record { kind = k; first = first; end = end } ∷ rows_of rows) ≡ suc (0 + blanks (rows_of rows)) = rw (eq-eqb _ _ q, blanks) (omega arith) in
      ap kind_of_row e

  pub current_solid : (k ≡ WHITESPACE → ⊥) → current_kind (k ∷ first ∷ end ∷ rows) 0 ≡ Some k
  unfolding current_kind kind_at row_at past_ws rows_of
  current_solid q =
      let e : 0 + blanks (record { kind = k; first = first; end = end } ∷ rows_of rows) ≡ 0 = rw (ne_eqb _ _ q, blanks) (omega arith) in
      ap kind_of_row e

-- whether a row by itself is a blank
abbrev pub row_test : List ℕ → Bool
row_test row = eqb (get_or row 0 0) WHITESPACE

-- the rest of the rows from a place on, none where the place is past the last
pub rest_read : (xs : List (List ℕ)) (from : ℕ) (r : Option (Bor (List (List ℕ)))) → IsGetRangeResult xs from (length xs) r → (none : Bor (List (List ℕ))) → none.now ≡ [] → (unwrap_or r none).now ≡ drop from xs
rest_read xs from None h none z = z ∙ sym (drop_all from xs (elim h.0 [ inl l ↦ omega arith | inr l ↦ absurd (omega arith) ]))
rest_read xs from (Some part) h none z = h.0.2 ∙ take_all (length xs - from) (drop from xs) (omega (arith, length-drop from xs))

-- as many of the first rows are blanks as are passed
blanks_first : (n : ℕ) (rows : List ℕ) → 3 * n ≤ length rows → length rows < 3 * n + 3 → (i : ℕ) →
    prefix_len row_test (drop i (first_chunks 3 n rows)) ≡ blanks (drop i (rows_of rows))
unfolding rows_of blanks
blanks_first zero [] h l zero = refl
blanks_first zero [] h l (suc i) = refl
blanks_first zero (a ∷ []) h l zero = refl
blanks_first zero (a ∷ []) h l (suc i) = refl
blanks_first zero (a ∷ b ∷ []) h l zero = refl
blanks_first zero (a ∷ b ∷ []) h l (suc i) = refl
blanks_first zero (a ∷ b ∷ d ∷ rows) h l i = absurd (omega arith)
blanks_first (suc n) [] h l i = absurd (omega arith)
blanks_first (suc n) (a ∷ []) h l i = absurd (omega arith)
blanks_first (suc n) (a ∷ b ∷ []) h l i = absurd (omega arith)
blanks_first (suc n) (a ∷ b ∷ d ∷ rows) h l zero = by (eqb a WHITESPACE) (blanks_first n rows (omega arith) (omega arith) zero)
  where
    by : (t : Bool) {x y : ℕ} → x ≡ y → cond t (1 + x) 0 ≡ cond t (suc y) 0
    by true e = omega arith
    by false e = refl
blanks_first (suc n) (a ∷ b ∷ d ∷ rows) h l (suc i) = blanks_first n rows (omega arith) (omega arith) i

-- the place past the blanks, by their number
pub blanks_passed : (rows : List ℕ) (place : ℕ) {n : ℕ} → n ≡ prefix_len row_test (drop place (first_chunks 3 (length rows / 3) rows)) → place + n ≡ past_ws rows place
unfolding past_ws
blanks_passed rows place e = ap (λ k. place + k) (e ∙ blanks_first (length rows / 3) rows (omega arith) (omega arith) place)

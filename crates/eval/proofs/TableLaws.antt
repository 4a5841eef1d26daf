-- The collection table: its rows set to 0, and members' rows written from its front on. Assumes nothing.
use mathlib.Core.Path.{◌≡◌, refl, sym, ap, ◌∙◌}
use mathlib.Core.List.{List, [], ◌∷◌, ◌++◌}
use Prim.Native.Nat.{ℕ, zero, suc, ◌+◌, ◌-◌, ◌≤◌}
use native.Mathlib.Nat.{not-suc-le-zero, le_of_suc-le-suc}
use native.Mathlib.Omega.{arith}
use lib.ListN.{length, drop, set, replicate, length-append, length-drop, length-replicate}
use lib.Seq.{sets}
use Rattle.syntax.proofs.TableLaws.{sets_front}
use Rattle.predicate.specs.declared.atom.Member.{Member}
use Rattle.meaning.specs.Value.{row_of, rows_of, whole_rows, with_members}
use Rattle.meaning.proofs.WalkLaws.{whole_within}

-- so many zeros
abbrev zeros : ℕ → List ℕ
zeros n = replicate n 0

zeros_length : (n : ℕ) → length (zeros n) ≡ n
zeros_length n = length-replicate {A = ℕ} n 0

-- all whole rows are 0, the numbers after them as they were
abbrev pub cleared : List ℕ → List ℕ
cleared table = zeros (whole_rows table) ++ drop (whole_rows table) table

-- of zeros in front of others the first ones are dropped
drop_zeros : (k w : ℕ) (rest : List ℕ) → k ≤ w → drop k (zeros w ++ rest) ≡ zeros (w - k) ++ rest
drop_zeros zero w rest h =
    let e : w ≡ w - 0 = omega arith in
    ap (λ (n : ℕ). zeros n ++ rest) e
drop_zeros (suc k) zero rest h = absurd (not-suc-le-zero h)
drop_zeros (suc k) (suc w) rest h =
    let e : w - k ≡ suc w - suc k = omega arith in
    drop_zeros k w rest (le_of_suc-le-suc h) ∙ ap (λ (n : ℕ). zeros n ++ rest) e

-- members written into cleared rows: "every row past the members is 0"
pub members_written : (members : List Member) (table : List ℕ) → length (rows_of members) ≤ whole_rows table
    → sets (cleared table) 0 (rows_of members) ≡ with_members members table
unfolding with_members
members_written members table h =
    sets_front (rows_of members) (cleared table) (omega (arith, parts, zeros_length (whole_rows table)))
    ∙ ap (λ (t : List ℕ). rows_of members ++ t) (drop_zeros (length (rows_of members)) (whole_rows table) (drop (whole_rows table) table) h)
  where
    parts : length (cleared table) ≡ length (zeros (whole_rows table)) + length (drop (whole_rows table) table)
    parts = length-append (zeros (whole_rows table)) (drop (whole_rows table) table)

pub cleared_length : (table : List ℕ) → length (cleared table) ≡ length table
cleared_length table =
    length-append (zeros (whole_rows table)) (drop (whole_rows table) table)
    ∙ omega (arith, zeros_length (whole_rows table), length-drop (whole_rows table) table, whole_within table)

-- a row of two numbers, one after the other; and a member's
pub row_put : (table : List ℕ) (at a b : ℕ) {m n : ℕ} → m ≡ a → n ≡ b → set (set table at m) (at + 1) n ≡ sets table at (a ∷ b ∷ [])
row_put table at a b e f =
    let next : at + 1 ≡ suc at = omega arith in
    λ i. set (set table at (e i)) (next i) (f i)

pub put_row : (m : Member) (table : List ℕ) (at a b : ℕ) → row_of m ≡ a ∷ b ∷ [] → set (set table at a) (at + 1) b ≡ sets table at (row_of m)
put_row m table at a b e = row_put table at a b refl refl ∙ ap (sets table at) (sym e)

-- Rows written into a lent table. Assumes nothing.
use mathlib.Core.Path.{◌≡◌, sym, ap, ◌∙◌}
use mathlib.Core.List.{List, [], ◌∷◌, ◌++◌}
use Prim.Native.Nat.{ℕ, suc, ◌+◌, ◌≤◌}
use native.Mathlib.Nat.{add-zero}
use native.Mathlib.Omega.{arith}
use lib.ListN.{length, drop, set}
use lib.Seq.{sets, sets-eq}
use Rattle.syntax.specs.Table.{with_rows}

-- numbers stored one after the other: the first ones, and then the others behind them
pub sets_append : (x y t : List ℕ) (i : ℕ) → sets t i (x ++ y) ≡ sets (sets t i x) (i + length x) y
sets_append [] y t i = ap (λ (k : ℕ). sets t k y) (sym (add-zero i))
sets_append (a ∷ x) y t i =
    let e : suc i + length x ≡ i + suc (length x) = omega arith in
    sets_append x y (set t i a) (suc i) ∙ ap (λ (k : ℕ). sets (sets (set t i a) (suc i) x) k y) e

-- rows stored from the first place on stand at the table's front, and the rest is as it was
pub sets_front : (rows t : List ℕ) → length rows ≤ length t → sets t 0 rows ≡ with_rows rows t
sets_front rows t h =
    let z : 0 + length rows ≡ length rows = omega arith in
    sets-eq rows t 0 (omega arith) ∙ ap (λ (k : ℕ). rows ++ drop k t) z

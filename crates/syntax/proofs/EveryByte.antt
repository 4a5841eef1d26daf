-- A fact about every byte, by one test that antt computes at each of the 256. Assumes nothing.
use mathlib.Core.Path.{◌≡◌, refl, subst, sym}
use mathlib.Core.Bool.{Bool, true, false, ◌&&◌, beq}
use mathlib.Core.Logic.{⊎_elim}
use Prim.Native.Nat.{ℕ, zero, suc, ◌<◌}
use native.Mathlib.Nat.{le_of_suc-le-suc, not-suc-le-zero, eq-or-lt_of_le}
use lib.Dec.{T}
use Rattle.syntax.proofs.BoolLaws.{and_left, and_right}

-- the test passes at each number below n
abbrev pub below : (ℕ → Bool) → ℕ → Bool
below p zero = true
below p (suc n) = p n && below p n

pub at_each : (p : ℕ → Bool) (n : ℕ) → T (below p n) → (b : ℕ) → b < n → T (p b)
at_each p zero t b h = absurd (not-suc-le-zero h)
at_each p (suc n) t b h =
    ⊎_elim (λ e. subst (λ (k : ℕ). T (p k)) (sym e) (and_left (p n) (below p n) t)) (λ l. at_each p n (and_right (p n) (below p n) t) b l)
    (eq-or-lt_of_le (le_of_suc-le-suc h))

beq→eq : (a b : Bool) → T (beq a b) → a ≡ b
beq→eq true true t = refl
beq→eq true false t = absurd t
beq→eq false true t = absurd t
beq→eq false false t = refl

-- two tests that agree at each byte
pub agree : (p q : ℕ → Bool) → T (below (λ b. beq (p b) (q b)) 256) → (b : ℕ) → b < 256 → p b ≡ q b
agree p q t b h = beq→eq (p b) (q b) (at_each (λ b. beq (p b) (q b)) 256 t b h)

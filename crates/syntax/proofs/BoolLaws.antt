-- Laws of tests. Assumes nothing.
use mathlib.Core.Path.{◌≡◌, refl, sym, subst}
use mathlib.Core.Bool.{Bool, true, false, cond, ◌&&◌, ◌||◌, true≢false, false≢true}
use Prim.Native.Nat.{ℕ, ◌≤◌}
use native.Mathlib.Omega.{arith}
use lib.Dec.{T}

-- by cases on a test
pub whether : {P : Type 0} (t : Bool) → (t ≡ true → P) → (t ≡ false → P) → P
whether true y n = y refl
whether false y n = n refl

pub true→T : {t : Bool} → t ≡ true → T t
true→T e = subst T (sym e) tt

pub T→true : (t : Bool) → T t → t ≡ true
T→true true h = refl
T→true false h = absurd h

pub and_left : (p q : Bool) → T (p && q) → T p
and_left true q h = tt
and_left false q h = h

pub and_right : (p q : Bool) → T (p && q) → T q
and_right true q h = h
and_right false q h = absurd h

pub both : (p q : Bool) → (p && q) ≡ true → (p ≡ true) × (q ≡ true)
both true q h = (refl, h)
both false q h = absurd (false≢true h)

-- where not one of two tests passes, both are false
pub neither : (p q : Bool) → (p || q) ≡ false → (p ≡ false) × (q ≡ false)
neither true q h = absurd (true≢false h)
neither false q h = (refl, h)

-- 1 or 0 by a test
pub one_small : (t : Bool) → cond t 1 0 ≤ 1
one_small true = omega arith
one_small false = omega arith

pub one_same : (s t : Bool) → ◌≡◌ {A = ℕ} (cond s 1 0) (cond t 1 0) → s ≡ t
one_same true true e = refl
one_same true false e = absurd (omega arith)
one_same false true e = absurd (omega arith)
one_same false false e = refl

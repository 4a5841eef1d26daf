-- The digits of a number. Assumes nothing.
use mathlib.Core.Path.{◌≡◌, sym, ap, ◌∙◌}
use mathlib.Core.List.{List, [], ◌∷◌, ◌++◌}
use Prim.Native.Nat.{ℕ, zero, suc, ◌*◌, ◌/◌, ◌%◌, ◌^◌, ◌≤◌, ◌<◌}
use native.Mathlib.Omega.{arith}
use native.Mathlib.Nat.{pow-succ'}
use borrow.Author.Tests.{lt-ltb, le-ltb, ltb-true, ltb-false}
use lib.Dec.{ltb}
use Rattle.syntax.proofs.BoolLaws.{whether}
use Rattle.texts.specs.Append.{Wrote}
use Rattle.texts.specs.declared.Writer.{Writer}
use Rattle.texts.specs.Text.{digit, digits, number_text}
use Rattle.texts.proofs.AppendLaws.{wrote_then}

pub digits_one : (most n : ℕ) → n < 10 → digits (suc most) n ≡ digit n ∷ []
unfolding digits
digits_one most n few = rw (lt-ltb n 10 few)

pub digits_more : (most n : ℕ) → 10 ≤ n → digits (suc most) n ≡ digits most (n / 10) ++ (digit (n % 10) ∷ [])
unfolding digits
digits_more most n many = rw (le-ltb n 10 many)

-- room for one digit more changes nothing where all have room
digits_enough : (most n : ℕ) → n < 10 ^ suc most → digits (suc most) n ≡ digits (suc (suc most)) n
digits_enough zero n h = let few : n < 10 = h in digits_one 0 n few ∙ sym (digits_one 1 n few)
digits_enough (suc most) n h =
    let power : 10 ^ suc (suc most) ≡ 10 * 10 ^ suc most = pow-succ' 10 (suc most) in
    let fewer = digits_enough most (n / 10) in
    whether (ltb n 10) (λ t. digits_one (suc most) n (ltb-true n 10 t) ∙ sym (digits_one (suc (suc most)) n (ltb-true n 10 t)))
    (λ t.
    let many = ltb-false n 10 t in
    digits_more (suc most) n many ∙ ap (λ (front : List ℕ). front ++ (digit (n % 10) ∷ [])) (fewer (omega arith)) ∙ sym (digits_more (suc (suc most)) n many))

-- a number: its last digit behind the digits of the tenth
pub number_one : (n : ℕ) → n < 10 → number_text n ≡ digit n ∷ []
unfolding number_text
number_one n few = digits_one 19 n few

pub number_more : (n : ℕ) → 10 ≤ n → n < 2 ^ 64 → number_text n ≡ number_text (n / 10) ++ (digit (n % 10) ∷ [])
unfolding number_text
number_more n many fits = digits_more 19 n many ∙ ap (λ (front : List ℕ). front ++ (digit (n % 10) ∷ [])) (digits_enough 18 (n / 10) (omega arith))

module _ {before after : Writer} {n : ℕ} where
  pub number_few : {b : ℕ} → n < 10 → b ≡ digit (n % 10) → Wrote (b ∷ []) before after → Wrote (number_text n) before after
  number_few few e p = let whole : n % 10 ≡ n = omega arith in rw (number_one n few, ← whole, ← e) p

  pub number_many : {between : Writer} {b : ℕ} → 10 ≤ n → n < 2 ^ 64 → b ≡ digit (n % 10) → Wrote (number_text (n / 10)) before between → Wrote (b ∷ []) between after → Wrote (number_text n) before after
  number_many many fits e p q = rw (number_more n many fits, ← e) (wrote_then p q)

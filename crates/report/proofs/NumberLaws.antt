-- A number printed is the number that its digits write. Assumes nothing.
use mathlib.Core.Path.{◌≡◌, ◌∙◌}
use mathlib.Core.List.{List, [], ◌∷◌, ◌++◌}
use Prim.Native.Nat.{ℕ, zero, suc, ◌+◌, ◌*◌, ◌/◌, ◌%◌, ◌^◌, ◌<◌}
use native.Mathlib.Nat.{pow-succ'}
use native.Mathlib.Omega.{arith}
use borrow.Author.Tests.{ltb-true, ltb-false}
use lib.Dec.{ltb}
use Rattle.syntax.proofs.BoolLaws.{whether}
use Rattle.texts.specs.Text.{digit, digits, number_text}
use Rattle.texts.proofs.NumberLaws.{digits_one, digits_more}
use Rattle.meaning.specs.Compare.{BASE, decimal_from, decimal}

-- the digits before the last, and the last
last_digit : (front : List ℕ) (n d : ℕ) → decimal_from n (front ++ (digit d ∷ [])) ≡ BASE * decimal_from n front + d
unfolding decimal_from
last_digit [] n d = omega arith
last_digit (b ∷ front) n d = last_digit front _ d

digits_told : (most n : ℕ) → n < 10 ^ most → decimal (digits most n) ≡ n
unfolding decimal decimal_from digits
digits_told zero n h = omega arith
digits_told (suc most) n h =
    let power : 10 ^ suc most ≡ 10 * 10 ^ most = pow-succ' 10 most in
    let fewer = digits_told most (n / 10) in
    whether (ltb n 10) (λ t. rw (digits_one most n (ltb-true n 10 t)) (omega arith))
    (λ t. rw (digits_more most n (ltb-false n 10 t)) (last_digit (digits most (n / 10)) 0 (n % 10) ∙ omega (arith, fewer (omega arith))))

pub number_told : (n : ℕ) → n < 2 ^ 64 → decimal (number_text n) ≡ n
unfolding number_text
number_told n h = digits_told 20 n (omega arith)

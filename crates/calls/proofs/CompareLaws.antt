-- A comparison's integer: its digits, read one after the other. Assumes nothing.
use mathlib.Core.Path.{◌≡◌, refl, sym, ap, ◌∙◌}
use mathlib.Core.Bool.{false}
use mathlib.Core.List.{List, [], ◌∷◌}
use Prim.Native.Nat.{ℕ, ◌+◌, ◌*◌, ◌≤◌, ◌<◌}
use native.Mathlib.Omega.{arith}
use lib.Dec.{leb}
use borrow.Author.Tests.{le-leb, lt-leb, le-ltb, lt-ltb, leb-true, leb-false}
use lib.ListN.{length, drop, get_or, drop_of_length-le}
use Rattle.syntax.proofs.BoolLaws.{whether}
use Rattle.syntax.proofs.TextLaws.{from}
use Rattle.syntax.specs.declared.refusal.Refusal.TheVariants.{IntegerTooLarge}
use Rattle.meaning.specs.Value.{Outcome, boolean, refused}
use Rattle.meaning.specs.Compare.{MAX_INTEGER, BASE, decimal_from, decimal, operator_holds, against}
use Rattle.std.specs.Prelude.{Option, Some, None}
use Rattle.calls.specs.Integer.{digit_of, integer_for}

-- a digit more makes no number smaller
grows : (n : ℕ) (digits : List ℕ) → n ≤ decimal_from n digits
unfolding decimal_from
grows n [] = omega arith
grows n (digit ∷ digits) = omega (arith, grows (BASE * n + digit_of digit) digits)

-- the digits before i write n, which is not above the largest
pub record ReadTo (digits : List ℕ) (n i : ℕ) : Type 0 where
  pub small : n ≤ MAX_INTEGER
  pub rest : decimal_from n (drop i digits) ≡ decimal digits

pub read_none : (digits : List ℕ) → ReadTo digits 0 0
unfolding decimal
read_none digits = record { small = omega arith; rest = refl }

module _ {digits : List ℕ} {n i : ℕ} (r : ReadTo digits n i) where
  -- one digit more
  step : i < length digits → decimal_from (BASE * n + digit_of (get_or digits i 0)) (drop (i + 1) digits) ≡ decimal digits
  unfolding decimal_from
  step h = rw (from digits i h) at r.rest

  pub read_more : (m : ℕ) → i < length digits → m ≡ BASE * n + digit_of (get_or digits i 0) → m ≤ MAX_INTEGER → ReadTo digits m (i + 1)
  read_more m h e l = record { small = l; rest = rw e (step h) }

  -- it is too large
  pub read_large : i < length digits → MAX_INTEGER < BASE * n + digit_of (get_or digits i 0) → None ≡ integer_for digits
  unfolding integer_for
  read_large h l =
      let g : BASE * n + digit_of (get_or digits i 0) ≤ decimal digits = rw (step h) at (grows (BASE * n + digit_of (get_or digits i 0)) (drop (i + 1) digits)) in
      sym (rw (lt-leb (decimal digits) MAX_INTEGER (omega arith)))

  -- all are read
  pub read_whole : length digits ≤ i → Some n ≡ integer_for digits
  unfolding integer_for decimal_from
  read_whole h =
      let whole : n ≡ decimal digits = rw (drop_of_length-le digits h) at r.rest in
      ap Some whole ∙ sym (rw (le-leb (decimal digits) MAX_INTEGER (omega (arith, r.small))))

-- what a comparison of a number with an integer comes to
abbrev pub against_for : (operator left : ℕ) → Option ℕ → Outcome
against_for operator left (Some right) = boolean (operator_holds operator left right) false
against_for operator left None = refused IntegerTooLarge

-- a comparison with the number that digits write, by what the code makes of them
pub against_integer : (operator left : ℕ) (digits : List ℕ) → against operator left (decimal digits) ≡ against_for operator left (integer_for digits)
unfolding against integer_for
against_integer operator left digits =
    whether (leb (decimal digits) MAX_INTEGER) (λ e. rw (e, le-ltb MAX_INTEGER (decimal digits) (leb-true _ _ e)))
    (λ e. rw (e, lt-ltb MAX_INTEGER (decimal digits) (leb-false _ _ e)))

-- "18446744073709551615 is accepted, one more is refusal 16": the integer, or none. Assumes nothing: these are definitions.
use Rattle.std.specs.Prelude.{ℕ, ◌-◌, cond, List, leb, Option, Some, None}
use Prim.Native.Char.{code}
use Rattle.meaning.specs.Compare.{MAX_INTEGER, decimal}

-- the number that digits write, where it is not above the largest
unfoldable pub integer_for : List ℕ → Option ℕ
unfolding decimal
integer_for digits = cond (leb (decimal digits) MAX_INTEGER) (Some (decimal digits)) None

-- what a byte counts in it
abbrev pub digit_of : ℕ → ℕ
digit_of b = b - code "0"

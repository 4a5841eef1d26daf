-- A file of cases: its numbers. Assumes nothing: these are definitions.
use Rattle.std.specs.Prelude.{ℕ, ◌+◌, ◌-◌, ◌*◌, Bool, cond, ◌&&◌, leb, List, [], ◌∷◌}
use Prim.Native.Char.{code}

-- whether a number that has come to a value goes on with a byte: a digit, where the value has at most six
abbrev pub is_digit_of : ℕ → ℕ → Bool
is_digit_of value b = leb value 999999 && (leb (code "0") b && leb b (code "9"))

-- what a value comes to with the digits that follow
abbrev pub number : ℕ → List ℕ → ℕ
number value [] = value
number value (b ∷ bytes) = cond (is_digit_of value b) (number (value * 10 + (b - code "0")) bytes) value

-- what is left past the byte that ends them
abbrev pub past_number : ℕ → List ℕ → List ℕ
past_number value [] = []
past_number value (b ∷ bytes) = cond (is_digit_of value b) (past_number (value * 10 + (b - code "0")) bytes) bytes

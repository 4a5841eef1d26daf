-- The rows of a table of numbers. Assumes nothing: these are definitions.
use Rattle.std.specs.Prelude.{ℕ, zero, suc, ◌/◌, min, List, length}
use Rattle.std.specs.Simd.{first_chunks}
use Rattle.calls.specs.declared.value.Value.{Value}

-- how many rows of n numbers a table has whole; there are none of no numbers
abbrev pub whole_rows : ℕ → List ℕ → ℕ
whole_rows zero table = 0
whole_rows (suc n) table = length table / suc n

-- the first k rows of n numbers, or as many as there are
abbrev pub first_rows : ℕ → ℕ → List ℕ → List (List ℕ)
first_rows n k table = first_chunks n (min k (whole_rows n table)) table

-- how many members a value has, where it is a collection
abbrev pub member_count : Value → ℕ
member_count (Value.Components n) = n
member_count (Value.Features n) = n
member_count (Value.Diagnostics n) = n
member_count (Value.Bool holds) = 0
member_count (Value.BoolWithWarning holds) = 0
member_count (Value.Count n) = 0

-- What a table holds before a case is run. Assumes nothing: these are definitions.
use Rattle.std.specs.Prelude.{ℕ, ◌+◌, ◌%◌, cond, eqb}

-- the number at a place: with an even seed one that no row has, with an odd one such as rows have
abbrev pub noise : ℕ → ℕ → ℕ
noise seed at = cond (eqb (seed % 2) 0) (4000000000 + (seed % 65536 + at % 65536) % 65536) ((seed % 65536 + at % 65536) % 32)

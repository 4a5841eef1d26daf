-- Lent tables of numbers. Assumes nothing: these are definitions.
use Rattle.std.specs.Prelude.{ℕ, List, ◌++◌, length, drop}

-- a table with rows written at its front, the numbers past them as they were
abbrev pub with_rows : List ℕ → List ℕ → List ℕ
with_rows rows table = rows ++ drop (length rows) table

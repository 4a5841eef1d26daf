-- Texts appended to a lent place of bytes. Assumes nothing: these are definitions.
use Rattle.std.specs.Prelude.{ℕ, ◌+◌, ◌-◌, min, ◌≡◌, List, length}
use Rattle.std.proofs.lemmas.List.Edits.{sets}
use Rattle.texts.specs.declared.Writer.{Writer}

-- a place of bytes, and how many of them are written
pub record Written : Type 0 where
  pub bytes : List ℕ
  pub at : ℕ

-- a text is stored from `at` on, as much of it as there is room for, the other bytes as they were
unfoldable pub appended : (text : List ℕ) → Written → Written
appended text w = record { bytes = sets w.bytes w.at text; at = w.at + min (length text) (length w.bytes - w.at) }

-- what a writer has written
abbrev pub written : Writer → Written
written w = record { bytes = w.out.now; at = w.at }

-- a writer appends a text to its place, which stays the same
pub record Wrote (text : List ℕ) (before after : Writer) : Type 0 where
  pub same_place : after.out.ghost_name ≡ before.out.ghost_name
  pub appends : written after ≡ appended text (written before)

-- Members listed or counted where no predicate is asked; no public contract needs this file. Assumes nothing: these are definitions.
use Rattle.std.specs.Prelude.{ℕ, ◌+◌, ◌*◌, List, map, ◌≡◌, length}
use Rattle.std.proofs.lemmas.List.Edits.{sets}
use Rattle.board.specs.Check.{COLLECTION_ROW}
use Rattle.board.specs.Image.{component_count}
use Rattle.predicate.specs.declared.atom.Member.{Member}
use Rattle.predicate.specs.declared.atom.Member.TheVariants.{Component}
use Rattle.meaning.specs.Value.{rows_of}
use Rattle.meaning.specs.Calls.{fan_out, up_from}

-- all components of a board, and the features of all
abbrev pub every_component : List ℕ → List Member
every_component image = map Component (up_from 0 (component_count image))

abbrev pub every_feature : List ℕ → List Member
every_feature image = fan_out image (every_component image)

-- the rows of members were written from a row on, and r is the row after them
pub record Lists (members : List Member) (first : ℕ) (before after : List ℕ) (r : ℕ) : Type 0 where
  pub row : r ≡ first + length members
  pub table : after ≡ sets before (COLLECTION_ROW * first) (rows_of members)

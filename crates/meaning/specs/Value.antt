-- eval.rs `Value`: what a rule comes to; and the rows of the collection table. Assumes nothing: these are definitions.
use Rattle.std.specs.Prelude.{ℕ, ◌*◌, ◌-◌, ◌/◌, Bool, List, [], ◌∷◌, ◌++◌, length, drop, replicate}
use Rattle.syntax.specs.declared.refusal.Refusal.{Refusal}
use Rattle.board.specs.Check.{COLLECTION_ROW}
use Rattle.predicate.specs.declared.atom.Member.{Member}
use Rattle.predicate.specs.declared.atom.Member.TheVariants.{Component, Feature, Diagnostic}
use Rattle.meaning.specs.declared.ValueKind.{ValueKind}

-- the sorts of collection
pub data Sort : Type 0 where
  components features diagnostics : Sort

-- a collection with its members in order, a boolean and whether it is warned, a count; or a refusal
pub data Outcome : Type 0 where
  collection : Sort → List Member → Outcome
  boolean : (value warned : Bool) → Outcome
  count : ℕ → Outcome
  refused : Refusal → Outcome

-- the kind of a collection, among the kinds of value that a call can follow
abbrev pub sort_kind : Sort → ValueKind
sort_kind components = ValueKind.Components
sort_kind features = ValueKind.Features
sort_kind diagnostics = ValueKind.Diagnostics

-- "Collection: rows of two numbers, component and feature; a component or diagnostic has its index, then 0"
unfoldable pub row_of : Member → List ℕ
row_of (Component c) = c ∷ 0 ∷ []
row_of (Feature c f) = c ∷ f ∷ []
row_of (Diagnostic d) = d ∷ 0 ∷ []

unfoldable pub rows_of : List Member → List ℕ
unfolding row_of
rows_of [] = []
rows_of (m ∷ ms) = row_of m ++ rows_of ms

-- the numbers of a table's whole rows; "numbers after the last whole row count as no row and are never altered"
abbrev pub whole_rows : List ℕ → ℕ
whole_rows table = COLLECTION_ROW * (length table / COLLECTION_ROW)

-- "After acceptance every row past the members is 0"
unfoldable pub with_members : List Member → List ℕ → List ℕ
unfolding rows_of
with_members members table =
    rows_of members ++ (replicate (whole_rows table - length (rows_of members)) 0 ++ drop (whole_rows table) table)

-- what the collection table then holds, that held `table`: "all rows are 0 where the result is a boolean or a count", and no refusal
-- alters it
abbrev pub collection_table : Outcome → List ℕ → List ℕ
collection_table (collection sort members) table = with_members members table
collection_table (boolean value warned) table = with_members [] table
collection_table (count n) table = with_members [] table
collection_table (refused r) table = table

-- Which `has` of a tree are true of a member, known by marks that were made before: for each of some CALL_EXPR rows its place in the tree
-- and a mark for each component. Assumes nothing: these are definitions.
use Rattle.std.specs.Prelude.{ℕ, ◌+◌, ◌*◌, ◌≤◌, ◌<◌, Bool, true, false, not, ◌&&◌, cond, List, [], ◌∷◌, ◌≡◌, eqb, ltb, leb, length, get_or, drop, Option, Some}
use Rattle.syntax.specs.Kind.{CALL_EXPR, COMPARE_EXPR}
use Rattle.trees.specs.Green.{Forest}
use Rattle.board.specs.Image.{component_count}
use Rattle.instance.specs.Instance.{has_feature}
use Rattle.marks.specs.Marks.{mark_by}
use Rattle.predicate.specs.declared.atom.Member.{Member}
use Rattle.predicate.specs.declared.atom.Member.TheVariants.{Component, Feature, Diagnostic}
use Rattle.predicate.specs.Truth.{literal_of, field_of, has_property_of}
use Rattle.predicate.specs.Rows.{ROW, forest, kind_at, level_at, children_at}
use Rattle.profile.specs.Profile.{numbered, asks_more, asks_field}
use Rattle.eval.specs.declared.marked.Marked.{Marked}
use Rattle.eval.specs.declared.marked.Sorts.{Sorts}

-- how many CALL_EXPR rows have marks at most
abbrev pub HASES : ℕ
HASES = 4

-- how many numbers their bits can be
abbrev pub WAYS : ℕ
WAYS = 16

-- the marks of a row
abbrev pub BLOCK : ℕ
BLOCK = 4096

-- so many rows are looked at
abbrev pub ROWS : ℕ
ROWS = 256

-- what stands where there is no such row
abbrev pub no_row : Marked
no_row = record { row = 0; marks = [] }

-- the j-th of the rows, if there are so many
abbrev pub row_in : List Marked → ℕ → Marked
row_in marked j = get_or marked j no_row

-- the text that the `has` whose row is at a place names
unfoldable pub value_of : List ℕ → List ℕ → ℕ → List ℕ
value_of rule tree row = literal_of (children_at rule tree row)

-- the mark that a text gives a component: 1 by a property, 2 by a feature alone
abbrev pub mark_for : List ℕ → ℕ → List ℕ → ℕ
mark_for image c value = mark_by (has_property_of image c value) (has_feature image c value)

-- which components have marks
abbrev pub has_marks : List ℕ → ℕ → Bool
has_marks image c = ltb c (component_count image) && ltb c BLOCK

-- the marks of a row are those of what its `has` names
pub record MarksOf (rule image tree : List ℕ) (row : Marked) : Type 0 where
  pub so : (c : ℕ) → has_marks image c ≡ true → get_or row.marks c 0 ≡ mark_for image c (value_of rule tree row.row)

-- so it is with all rows
pub record Marks (rule image tree : List ℕ) (marked : List Marked) : Type 0 where
  pub few : length marked ≤ HASES
  pub so : (j : ℕ) → j < length marked → MarksOf rule image tree (row_in marked j)

-- and with so many of them
pub record Made (rule image tree : List ℕ) (marked : List Marked) (n : ℕ) : Type 0 where
  pub most : n ≤ HASES
  pub so : (j : ℕ) → j < n → MarksOf rule image tree (row_in marked j)

-- the highest mark by which a `has` is true of a component, and of a feature of it
abbrev pub HIGHEST_OF_COMPONENT : ℕ
HIGHEST_OF_COMPONENT = 2

abbrev pub HIGHEST_OF_FEATURE : ℕ
HIGHEST_OF_FEATURE = 1

-- whether a mark says so, by the highest that does
abbrev pub counts : (mark most : ℕ) → Bool
counts mark most = not (eqb mark 0) && leb mark most

-- whether the `has` in the j-th row is true by the mark of a component, as 1 or 0; 0 past the rows
unfoldable pub bit_at : List Marked → ℕ → ℕ → ℕ → ℕ
bit_at marked most c j = cond (counts (get_or (row_in marked j).marks c 0) most) 1 0

-- those of all rows as one number; none for a component that has no marks
unfoldable pub bits_at : List ℕ → List Marked → ℕ → ℕ → Option ℕ
unfolding bit_at
bits_at image marked most c =
    numbered (has_marks image c) (bit_at marked most c 0 + 2 * bit_at marked most c 1 + 4 * bit_at marked most c 2 + 8 * bit_at marked most c 3)

-- those of a member
abbrev pub bits_by : List ℕ → List Marked → Member → Option ℕ
bits_by image marked (Component c) = bits_at image marked HIGHEST_OF_COMPONENT c
bits_by image marked (Feature c f) = bits_at image marked HIGHEST_OF_FEATURE c
bits_by image marked (Diagnostic d) = Some 0

-- and 0 where no row has marks
abbrev pub bits_of : List ℕ → List Marked → Member → Option ℕ
bits_of image [] m = Some 0
bits_of image (row ∷ rows) m = bits_by image (row ∷ rows) m

-- a node of a kind with these children asks for no more of a member than its profile and its bits: it asks for no more than the profile,
-- nor does the field that it compares, or it is the `has` in one of the rows
pub data Told (rule tree : List ℕ) (sorts : Sorts) (m : Member) (k : ℕ) (s : Forest) : Type 0 where
  plain : asks_more m sorts.held k ≡ false → (k ≡ COMPARE_EXPR → asks_field m sorts.held (field_of s) ≡ false) → Told rule tree sorts m k s
  by_marks : (j : ℕ) → j < length sorts.marked.now → k ≡ CALL_EXPR → literal_of s ≡ value_of rule tree (row_in sorts.marked.now j).row → Told rule tree sorts m k s

-- all rows do, before the first that is not below a level
unfoldable pub RowsTold : (rule tree : List ℕ) → Sorts → Member → ℕ → List ℕ → Type 0
unfolding forest
RowsTold rule tree sorts m level [] = Unit {0}
RowsTold rule tree sorts m level (k ∷ []) = Unit {0}
RowsTold rule tree sorts m level (k ∷ l ∷ []) = Unit {0}
RowsTold rule tree sorts m level (k ∷ l ∷ first ∷ []) = Unit {0}
RowsTold rule tree sorts m level (k ∷ l ∷ first ∷ end ∷ rows) =
    ltb level l ≡ true → Told rule tree sorts m k (forest rule (l + 1) rows) × RowsTold rule tree sorts m level rows

-- the row at a place was found to ask for no more
pub record RowTold (rule tree : List ℕ) (row : ℕ) (m : Member) (sorts : Sorts) (r : Bool) : Type 0 where
  pub told : r ≡ true → Told rule tree sorts m (kind_at tree row) (children_at rule tree row)

-- no row inside the one at a place was found to ask for more
pub record TellsBelow (rule tree : List ℕ) (at : ℕ) (m : Member) (sorts : Sorts) (r : Bool) : Type 0 where
  pub told : r ≡ false → RowsTold rule tree sorts m (level_at tree at) (drop (at + ROW) tree)

-- the row at a place was found to have marks
pub record HasRow (marked : List Marked) (row : ℕ) (r : Bool) : Type 0 where
  pub so : r ≡ true → (j : ℕ) × ((j < length marked) × ((row_in marked j).row ≡ row))

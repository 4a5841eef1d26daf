-- The records of a section by the places of their bytes: what only the private functions' contracts need. Assumes nothing: these are
-- definitions.
use Rattle.std.specs.Prelude.{◌≡◌, ℕ, ◌+◌, ◌*◌, ◌-◌, ◌≤◌, ◌<◌, Bool, false, cond, ◌&&◌, ◌||◌, List, eqb, length}
use Rattle.syntax.specs.Text.{same}
use Rattle.board.specs.declared.image.Section.{Section}
use Rattle.board.specs.Image.{NUMBER_SIZE, TRIPLE_SIZE, word, text, parent, section_offset}
use Rattle.instance.specs.Instance.{end_is}

-- where the second and the third number of a record are, and where the fifth is
abbrev pub SECOND : ℕ
SECOND = NUMBER_SIZE

abbrev pub THIRD : ℕ
THIRD = 2 * NUMBER_SIZE

abbrev pub FIFTH : ℕ
FIFTH = 4 * NUMBER_SIZE

-- more than any place of a record: an offset and a number of records are below 2 ^ 32 each
abbrev pub PLACES : ℕ
PLACES = 0x1000000000

-- who may own a component's connections besides it: its parent, or the component itself where it has none
unfoldable pub other_owner : List ℕ → ℕ → ℕ
other_owner image component = cond (eqb (parent image component) 0) component (parent image component - 1)

-- whether the connection at a place is owned by one of two components and names a feature at an end
unfoldable pub joins_at : List ℕ → ℕ → ℕ → List ℕ → ℕ → Bool
unfolding end_is
joins_at image component other name at =
    (eqb (word image at) component || eqb (word image at) other)
    && (end_is image (word image (at + SECOND)) name || end_is image (word image (at + THIRD)) name)

-- whether the property at a place is the component's and of this set and name
unfoldable pub is_property_at : List ℕ → ℕ → List ℕ → List ℕ → ℕ → Bool
is_property_at image component set name at =
    eqb (word image at) component
    && (same (text image (word image (at + SECOND))) set && same (text image (word image (at + THIRD))) name)

-- whether the feature at a place has this name
unfoldable pub feature_is_at : List ℕ → List ℕ → ℕ → Bool
feature_is_at image name at = same (text image (word image at)) name

-- a test of places says what p does, and p is false of a record there whose first number is neither of two
abbrev pub Tells : (ℕ → Bool → Type 0) → (ℕ → Bool) → Type 0
Tells says p = (at : ℕ) (r : Bool) → at < PLACES → says at r → r ≡ p at

abbrev pub IsOwned : (ℕ → Bool) → List ℕ → (one other : ℕ) → Type 0
IsOwned p image one other =
    (at : ℕ) → at + NUMBER_SIZE ≤ length image → (word image at ≡ one → ⊥) → (word image at ≡ other → ⊥) → p at ≡ false

-- whether p is true of the place of a section's record of three numbers
abbrev pub record_passes : (ℕ → Bool) → List ℕ → Section → ℕ → Bool
record_passes p image section n = p (section_offset image section + TRIPLE_SIZE * n)

-- records passed over from a place on, the first number of each there and neither of two
pub data Skipped (records : List ℕ) (one other from : ℕ) : ℕ → Type 0 where
  none : Skipped records one other from from
  past : {at : ℕ} → Skipped records one other from at → at + NUMBER_SIZE ≤ length records → (word records at ≡ one → ⊥)
      → (word records at ≡ other → ⊥) → Skipped records one other from (at + TRIPLE_SIZE)

-- What the loops of `lib.rt` over records say of them. No reader of `check_image` needs this file. Assumes nothing: these are definitions.
use Rattle.std.specs.Prelude.{ℕ, ◌+◌, ◌*◌, Bool, ◌&&◌, List, ltb}
use Rattle.board.specs.declared.image.Section.{Section}
use Rattle.board.specs.Image.{NUMBER_SIZE, word, field, record_count}
use Rattle.board.specs.Check.{each, is_index_or_none, CATEGORIES, WIRED_MARKS}

-- a number of the record that begins at a place
abbrev pub number_at : List ℕ → ℕ → ℕ → ℕ
number_at image at number = word image (at + NUMBER_SIZE * number)

-- category, parent and wired of the component that begins at a place, of so many components
abbrev pub component_at : List ℕ → ℕ → ℕ → Bool
component_at image at components =
    ltb (number_at image at 0) CATEGORIES
    && (is_index_or_none (number_at image at 1) components
    && ltb (number_at image at 4) WIRED_MARKS)

-- the three numbers of the record that begins at a place are below their limits
abbrev pub below_at : List ℕ → ℕ → ℕ → ℕ → ℕ → Bool
below_at image at a b c =
    ltb (number_at image at 0) a
    && (ltb (number_at image at 1) b
    && ltb (number_at image at 2) c)

-- the three numbers of a record are below their limits
abbrev pub below : List ℕ → Section → ℕ → ℕ → ℕ → ℕ → Bool
below image section a b c n =
    ltb (field image section n 0) a
    && (ltb (field image section n 1) b
    && ltb (field image section n 2) c)

-- those of each record of a section
abbrev pub all_below : List ℕ → Section → ℕ → ℕ → ℕ → Bool
all_below image section a b c = each (below image section a b c) 0 (record_count image section)

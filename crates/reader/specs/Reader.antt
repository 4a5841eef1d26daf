-- Token rows looked at by place: what the Rust's `ExprParser` asks of its tokens. Any numbers are rows; those after the last whole row are
-- none. Assumes nothing: these are definitions.
use Rattle.std.specs.Prelude.{ℕ, suc, ◌+◌, cond, List, [], ◌∷◌, eqb, drop, Option, slice_get}
use Rattle.std.specs.Option.{option_map}
use Rattle.syntax.specs.Kind.{WHITESPACE}
use Rattle.reader.specs.declared.Row.{Row}

-- the rows: kind, first byte, end byte
unfoldable pub rows_of : List ℕ → List Row
rows_of [] = []
rows_of (kind ∷ []) = []
rows_of (kind ∷ first ∷ []) = []
rows_of (kind ∷ first ∷ end ∷ rows) = record { kind = kind; first = first; end = end } ∷ rows_of rows

-- the token at a place; past the last there is none
unfoldable pub row_at : List ℕ → ℕ → Option Row
unfolding rows_of
row_at rows place = slice_get (rows_of rows) place

-- the kind of the token at a place
unfoldable pub kind_at : List ℕ → ℕ → Option ℕ
unfolding row_at
kind_at rows place = option_map (λ (r : Row). r.kind) (row_at rows place)

-- how many blanks stand in front
unfoldable pub blanks : List Row → ℕ
blanks [] = 0
blanks (row ∷ rows) = cond (eqb row.kind WHITESPACE) (suc (blanks rows)) 0

-- the place of the first token from here on that is no blank, or past the last
unfoldable pub past_ws : List ℕ → ℕ → ℕ
unfolding rows_of blanks
past_ws rows place = place + blanks (drop place (rows_of rows))

-- `current_kind`: the kind of that token
unfoldable pub current_kind : List ℕ → ℕ → Option ℕ
unfolding kind_at past_ws
current_kind rows place = kind_at rows (past_ws rows place)

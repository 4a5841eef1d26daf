-- Document 01's example of the program `tree`, and the empty text, by computation. Assumes nothing.
use mathlib.Core.Path.{◌≡◌, refl}
use mathlib.Core.List.{List, [], ◌∷◌}
use Prim.Native.Nat.{ℕ}
use Rattle.syntax.specs.Text.{ascii}
use Rattle.trees.specs.Parse.{parse_expr}
use Rattle.trees.specs.Rows.{tree_rows, error_rows}

abbrev rows : List ℕ → List ℕ
rows rule = tree_rows 0 0 (parse_expr rule).made

example : rows (ascii "components.count() > 2") ≡
    18 ∷ 0 ∷ 0 ∷ 22 ∷ 30 ∷ 1 ∷ 0 ∷ 22 ∷ 19 ∷ 2 ∷ 0 ∷ 19 ∷ 28 ∷ 3 ∷ 0 ∷ 10 ∷ 1 ∷ 4 ∷ 0 ∷ 10 ∷ 20 ∷ 3 ∷ 10 ∷ 18 ∷ 3 ∷ 4 ∷ 10 ∷ 11 ∷ 1 ∷ 4 ∷ 11 ∷ 16
    ∷ 21 ∷ 4 ∷ 16 ∷ 18 ∷ 4 ∷ 5 ∷ 16 ∷ 17 ∷ 5 ∷ 5 ∷ 17 ∷ 18 ∷ 0 ∷ 3 ∷ 18 ∷ 19 ∷ 9 ∷ 2 ∷ 19 ∷ 20 ∷ 0 ∷ 2 ∷ 20 ∷ 21 ∷ 12 ∷ 2 ∷ 21 ∷ 22 ∷ []
unfolding parse_expr tree_rows
example = refl

empty : rows [] ≡ 18 ∷ 0 ∷ 0 ∷ 0 ∷ 19 ∷ 1 ∷ 0 ∷ 0 ∷ []
unfolding parse_expr tree_rows
empty = refl

empty_errors : error_rows 0 (parse_expr []).errors ≡ 4 ∷ 0 ∷ 0 ∷ 0 ∷ []
unfolding parse_expr error_rows
empty_errors = refl

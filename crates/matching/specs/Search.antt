-- A text searched for in another: `str::find`, `str::contains` and `str::split_once` of eval.rs. Assumes nothing: these are definitions.
use Rattle.std.specs.Prelude.{ℕ, suc, ◌+◌, Bool, true, false, ◌&&◌, List, [], ◌∷◌, eqb, take, drop, Option, None, Some}
use Rattle.std.specs.Option.{is_some}
use Rattle.syntax.specs.Text.{ascii}

-- whether a text begins with a part
unfoldable pub starts_with : List ℕ → List ℕ → Bool
starts_with [] text = true
starts_with (x ∷ part) [] = false
starts_with (x ∷ part) (y ∷ text) = eqb x y && starts_with part text

-- the place of the first such part in a text whose first byte is at place n
unfoldable pub find_from : List ℕ → ℕ → List ℕ → Option ℕ
unfolding starts_with
find_from part n [] = elim (starts_with part []) [ true ↦ Some n | false ↦ None ]
find_from part n (y ∷ text) = elim (starts_with part (y ∷ text)) [ true ↦ Some n | false ↦ find_from part (suc n) text ]

-- "Empty text" is found at the first place
unfoldable pub find : List ℕ → List ℕ → Option ℕ
unfolding find_from
find part text = find_from part 0 text

-- `text.contains(part)`
unfoldable pub contains : List ℕ → List ℕ → Bool
unfolding find
contains part text = is_some (find part text)

-- `text.split_once("::")`: "`has('a::b::c')` means set `a`, name `b::c`. Without `::` the set is empty"
abbrev pub set_before : Option ℕ → List ℕ → List ℕ
set_before (Some n) text = take n text
set_before None text = []

abbrev pub name_after : Option ℕ → List ℕ → List ℕ
name_after (Some n) text = drop (n + 2) text
name_after None text = text

unfoldable pub property_set_of : List ℕ → List ℕ
unfolding find
property_set_of text = set_before (find (ascii "::") text) text

unfoldable pub property_name_of : List ℕ → List ℕ
unfolding find
property_name_of text = name_after (find (ascii "::") text) text

-- Items in a list, and items in one text, parted by bars. Assumes nothing: these are definitions.
use Rattle.std.specs.Prelude.{ℕ, zero, suc, true, false, List, [], ◌∷◌, get_or}
use Rattle.syntax.specs.Text.{ascii, is}

-- the n-th item, from 0; `?` where there are fewer
unfoldable pub item : ℕ → List (List ℕ) → List ℕ
item n items = get_or items n (ascii "?")

-- the n-th item in a text, from 0; `?` where there are fewer
unfoldable pub item_of : ℕ → List ℕ → List ℕ
item_of zero [] = []
item_of zero (b ∷ s) = elim (is "|" b) [ true ↦ [] | false ↦ b ∷ item_of zero s ]
item_of (suc n) [] = ascii "?"
item_of (suc n) (b ∷ s) = elim (is "|" b) [ true ↦ item_of n s | false ↦ item_of (suc n) s ]

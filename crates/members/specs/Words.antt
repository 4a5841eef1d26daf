-- The words for numbers of a board, as a rule has them. Assumes nothing: these are definitions.
use Rattle.std.specs.Prelude.{ℕ, cond, List, [], ◌∷◌, ◌++◌, eqb, get_or}
use Rattle.syntax.specs.Text.{ascii}
use Rattle.matching.specs.Words.{category_words, feature_kind_words, direction_words, severity_words}

-- of the words that a rule may have for a number, the first; a number that has none is `?`
abbrev pub first_word : List (List ℕ) → List ℕ
first_word [] = ascii "?"
first_word (word ∷ words) = word

unfoldable pub category_text : ℕ → List ℕ
unfolding category_words
category_text category = first_word (get_or category_words category [])

unfoldable pub feature_kind_text : ℕ → List ℕ
unfolding feature_kind_words
feature_kind_text kind = first_word (get_or feature_kind_words kind [])

unfoldable pub severity_text : ℕ → List ℕ
unfolding severity_words
severity_text severity = first_word (get_or severity_words severity [])

unfoldable pub direction_text : ℕ → List ℕ
unfolding direction_words
direction_text direction = first_word (get_or direction_words direction [])

-- a direction behind a comma; nothing for none
unfoldable pub direction_part : ℕ → List ℕ
unfolding direction_text
direction_part direction = cond (eqb direction 0) [] (ascii ", " ++ direction_text direction)

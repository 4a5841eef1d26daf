-- What the laws of tokens speak of: LexLaws, CharacterLaws and the laws of other crates. No contract cites it. Assumes nothing: these are
-- definitions.
use Rattle.std.specs.Prelude.{ℕ, Bool, true, false, ◌&&◌, ◌||◌, not, List, [], ◌∷◌, ◌++◌, eqb}
use Rattle.syntax.specs.Kind.{STRING_LIT, ERROR}
use Rattle.syntax.specs.Text.{is}
use Rattle.syntax.specs.Utf8.{is_character}
use Rattle.lexer.specs.Lex.{Token}

-- the bytes of tokens, one after the other
unfoldable pub joined : List Token → List ℕ
joined [] = []
joined (t ∷ ts) = t.text ++ joined ts

-- whether a quote stands in s
unfoldable pub has_quote : List ℕ → Bool
has_quote [] = false
has_quote (b ∷ s) = is "'" b || has_quote s

abbrev pub tail : List ℕ → List ℕ
tail [] = []
tail (b ∷ s) = s

-- a token is closed if it is no string literal, or has a quote past its first byte
unfoldable pub is_closed : Token → Bool
unfolding has_quote
is_closed t = not (eqb t.kind STRING_LIT) || has_quote (tail t.text)

-- no string literal is unclosed
unfoldable pub closed : List Token → Bool
unfolding is_closed
closed [] = true
closed (t ∷ ts) = is_closed t && closed ts

-- lexer.rs, 01: each ERROR token is one whole UTF-8 character; a lone `=` or `!` and a form feed are one too
unfoldable pub errors_are_characters : List Token → Bool
unfolding is_character
errors_are_characters [] = true
errors_are_characters (t ∷ ts) = (not (eqb t.kind ERROR) || is_character t.text) && errors_are_characters ts

-- lexer.rs `lex`: the tokens of a text, without positions; positions stand in the rows alone. Assumes nothing: these are definitions.
use Rattle.std.specs.Prelude.{ℕ, zero, suc, ◌+◌, Bool, true, false, cond, ◌||◌, List, [], ◌∷◌, eqb, length, take}
use Rattle.syntax.specs.Kind.{WHITESPACE, IDENT, STRING_LIT, INT_LIT, L_PAREN, AND_KW, OR_KW, NOT_KW, ERROR}
use Rattle.syntax.specs.Kinds.{number}
use Rattle.syntax.specs.Text.{ascii, is, same}
use Rattle.lexer.specs.declared.Shape.{Shape}
use Rattle.lexer.specs.declared.Shape.TheVariants.{Blanks, Quoted, Symbol, Operator, Digits, Word, Character}
use Rattle.lexer.specs.Bytes.{shape_of, goes_on, is_ascii_whitespace, is_ascii_digit, is_ident_continue, is_trailing}

-- a token: the number of its kind, and its bytes
pub record Token : Type 0 where
  pub kind : ℕ
  pub text : List ℕ

-- how many bytes of s, from the first on, pass the test
unfoldable pub run : (ℕ → Bool) → List ℕ → ℕ
run p [] = 0
run p (b ∷ s) = elim (p b) [ true ↦ suc (run p s) | false ↦ 0 ]

-- how many bytes a string literal has past its opening quote: up to the next quote and with it, or all
unfoldable pub quoted : List ℕ → ℕ
quoted [] = 0
quoted (b ∷ s) = elim (is "'" b) [ true ↦ 1 | false ↦ suc (quoted s) ]

-- 1 where the next byte is `=`, else 0
unfoldable pub equals : List ℕ → ℕ
equals [] = 0
equals (b ∷ s) = cond (is "=" b) 1 0

-- how many bytes a token of this shape has past its first one; s is the text after that one
abbrev pub more : Shape → List ℕ → ℕ
more Blanks s = run (goes_on Blanks) s
more Digits s = run (goes_on Digits) s
more Word s = run (goes_on Word) s
more Character s = run (goes_on Character) s
more Quoted s = quoted s
more (Operator k m) s = equals s
more (Symbol k) s = 0

-- a keyword's kind, or IDENT
unfoldable pub word_kind : List ℕ → ℕ
word_kind w = cond (same w (ascii "and")) AND_KW (cond (same w (ascii "or")) OR_KW (cond (same w (ascii "not")) NOT_KW IDENT))

-- the kind of a token of this shape with the bytes w
abbrev pub kind_of : Shape → List ℕ → ℕ
kind_of Blanks w = WHITESPACE
kind_of Quoted w = STRING_LIT
kind_of (Symbol k) w = number k
kind_of (Operator k m) w = cond (eqb (length w) 1) (number k) (number m)
kind_of Digits w = INT_LIT
kind_of Word w = word_kind w
kind_of Character w = ERROR

-- how many bytes the first token of b ∷ s has past its first one
unfoldable pub past : ℕ → List ℕ → ℕ
unfolding run quoted equals shape_of is_ascii_whitespace is_ascii_digit is_ident_continue is_trailing
past b s = more (shape_of b) s

-- the first token of b ∷ s
unfoldable pub token : ℕ → List ℕ → Token
unfolding past word_kind shape_of
token b s =
    let w = b ∷ take (past b s) s in
    record { kind = kind_of (shape_of b) w; text = w }

-- the tokens of s, of which the first n bytes belong to the token before
unfoldable pub lex_from : List ℕ → ℕ → List Token
unfolding token past
lex_from [] n = []
lex_from (b ∷ s) zero = token b s ∷ lex_from s (past b s)
lex_from (b ∷ s) (suc n) = lex_from s n

unfoldable pub lex : List ℕ → List Token
unfolding lex_from
lex s = lex_from s 0

-- the rows of a token table: kind, first byte, end byte; `at` is where the first token begins
unfoldable pub token_rows : ℕ → List Token → List ℕ
token_rows at [] = []
token_rows at (t ∷ ts) = let end = at + length t.text in t.kind ∷ at ∷ end ∷ token_rows end ts

-- whether a token is `(` or `not`
abbrev pub is_opener : ℕ → Bool
is_opener k = eqb k L_PAREN || eqb k NOT_KW

-- how many tokens are `(` or `not`
unfoldable pub openers_in : List Token → ℕ
openers_in [] = 0
openers_in (t ∷ ts) = cond (is_opener t.kind) 1 0 + openers_in ts

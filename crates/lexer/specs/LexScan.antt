-- What only private functions' contracts need: those of `Tokens`, `first_token` and `openers_at`. No reader of `lex` needs this file.
-- Assumes nothing: these are definitions.
use Rattle.std.specs.Prelude.{ℕ, ◌≤◌, ◌≡◌, cond, ◌&&◌, ◌||◌, List, ◌∷◌, length, take, drop}
use Rattle.syntax.specs.Text.{is}
use Rattle.syntax.specs.Kinds.{number}
use Rattle.lexer.specs.declared.First.{First}
use Rattle.lexer.specs.declared.Token.{Token as Read}
use Rattle.lexer.specs.declared.Tokens.{Tokens}
use Rattle.lexer.specs.Lex.{Token, lex}

-- a token of the code as one of `lex`
abbrev pub token_of : Read → Token
token_of t = record { kind = number t.kind; text = t.text.now }

-- the tokens that are left
abbrev pub tokens_left : Tokens → List Token
tokens_left s = lex s.rest.now

-- the first token of a text has this kind and length
pub record IsFirst (text : List ℕ) (first : First) : Type 0 where
  pub within : first.len ≤ length text
  pub tokens : lex text ≡ record { kind = number first.kind; text = take first.len text } ∷ lex (drop first.len text)

-- 1 where a token `(` or `not` may begin with the byte b before a byte c, else 0: a bound for code that has not read the tokens
unfoldable pub openers_at : ℕ → ℕ → ℕ
openers_at b c = cond (is "(" b || is "n" b && is "o" c) 1 0

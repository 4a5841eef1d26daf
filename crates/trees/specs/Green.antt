-- The green tree: nodes and tokens without positions. Assumes nothing: these are definitions.
use Rattle.std.specs.Prelude.{ℕ, ◌+◌, max, List, [], ◌∷◌, cond, eqb, length}
use Rattle.syntax.specs.Kind.{DOT_CALL}
use Rattle.lexer.specs.Lex.{Token}

-- a forest: nothing; a token, and what follows it; a node of a kind with its children, and what follows it
pub data Forest : Type 0 where
  nil : Forest
  leaf : Token → Forest → Forest
  node : ℕ → Forest → Forest → Forest

infixr 65 ◌⊹◌
-- one forest after another
unfoldable pub ◌⊹◌ : Forest → Forest → Forest
nil ⊹ g = g
leaf t f ⊹ g = leaf t (f ⊹ g)
node k s f ⊹ g = node k s (f ⊹ g)

-- how many rows a forest has: its nodes and tokens
unfoldable pub size : Forest → ℕ
size nil = 0
size (leaf t f) = 1 + size f
size (node k s f) = 1 + (size s + size f)

-- how deep a forest goes
unfoldable pub height : Forest → ℕ
height nil = 0
height (leaf t f) = height f
height (node k s f) = max (1 + height s) (height f)

-- the bytes of tokens, and of a forest's tokens
unfoldable pub width : List Token → ℕ
width [] = 0
width (t ∷ ts) = length t.text + width ts

unfoldable pub span : Forest → ℕ
span nil = 0
span (leaf t f) = length t.text + span f
span (node k s f) = span s + span f

-- how many DOT_CALLs a forest has, at any depth
unfoldable pub dot_calls : Forest → ℕ
dot_calls nil = 0
dot_calls (leaf t f) = dot_calls f
dot_calls (node k s f) = cond (eqb k DOT_CALL) 1 0 + (dot_calls s + dot_calls f)

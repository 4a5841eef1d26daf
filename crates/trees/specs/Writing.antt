-- What the parser's functions ask of the tables and leave in them; no caller of the crate needs this file. Assumes nothing: these are
-- definitions.
use Rattle.std.specs.Prelude.{◌≡◌, ℕ, ◌+◌, ◌*◌, ◌≤◌, ◌<◌, ◌^◌, List, [], ◌∷◌, length, take, drop, set}
use Rattle.std.proofs.lemmas.List.Edits.{sets}
use Rattle.syntax.specs.Kind.{AND_KW, OR_KW}
use Rattle.lexer.specs.Lex.{Token, token_rows}
use Rattle.lexer.specs.Read.{TREE_ROW, ERROR_ROW}
use Rattle.trees.specs.Green.{size, height, width, span}
use Rattle.trees.specs.Parse.{Parsed, Parser}
use Rattle.trees.specs.Rows.{tree_rows, error_rows}
use Rattle.trees.specs.declared.Cursor.{Cursor}
use Rattle.trees.specs.declared.Ops.{Ops}

-- the tokens ts stand in the token table, and the cursor at one of them or at their end
pub record Ready (ts : List Token) (tokens : List ℕ) (c : Cursor) : Type 0 where
  pub rows : tokens ≡ token_rows 0 ts
  pub within : c.token ≤ length ts
  pub byte : c.byte ≡ width (take c.token ts)

-- and the tree table t has room for the rows of what p makes there
pub record Fits (ts : List Token) (tokens t : List ℕ) (c : Cursor) (p : Parser) : Type 0 where
  pub ready : Ready ts tokens c
  pub room : c.row + TREE_ROW * size (p (drop c.token ts)).made ≤ length t

-- and the error table e for its errors, and its levels are numbers of the table
pub record Asks (ts : List Token) (tokens t e : List ℕ) (level : ℕ) (c : Cursor) (p : Parser) : Type 0 where
  pub fits : Fits ts tokens t c p
  pub room : c.error + ERROR_ROW * length (p (drop c.token ts)).errors ≤ length e
  pub deep : level + height (p (drop c.token ts)).made < 2 ^ 32

-- the reading x was written at a level: the tables went from t₀ and e₀ to t₁ and e₁, the cursor from c to r
pub record Wrote (ts : List Token) (t₀ t₁ e₀ e₁ : List ℕ) (level : ℕ) (c r : Cursor) (x : Parsed) : Type 0 where
  pub tree : t₁ ≡ sets t₀ c.row (tree_rows level c.byte x.made)
  pub errors : e₁ ≡ sets e₀ c.error (error_rows (width ts) x.errors)
  pub row : r.row ≡ c.row + TREE_ROW * size x.made
  pub error : r.error ≡ c.error + ERROR_ROW * length x.errors
  pub rest : drop r.token ts ≡ x.rest
  pub ahead : c.token ≤ r.token
  pub within : r.token ≤ length ts
  pub place : r.byte ≡ width (take r.token ts)
  pub bytes : r.byte ≡ c.byte + span x.made

-- p was done: what it reads from c on was written
pub record Did (ts : List Token) (t₀ t₁ e₀ e₁ : List ℕ) (level : ℕ) (c r : Cursor) (p : Parser) : Type 0 where
  pub wrote : Wrote ts t₀ t₁ e₀ e₁ level c r (p (drop c.token ts))

-- a node's row was written at c, its end still its start; r is the cursor past it
pub record Started (t₀ t₁ : List ℕ) (k level : ℕ) (c r : Cursor) : Type 0 where
  pub tree : t₁ ≡ sets t₀ c.row (k ∷ level ∷ c.byte ∷ c.byte ∷ [])
  pub cursor : r ≡ record { token = c.token; byte = c.byte; row = c.row + TREE_ROW; error = c.error }

-- the end of the node's row at `at` was set to where r stands
pub record Finished (t₀ t₁ : List ℕ) (at : ℕ) (r s : Cursor) : Type 0 where
  pub tree : t₁ ≡ set t₀ (at + 3) r.byte
  pub cursor : s ≡ r

-- no token is of kind k
pub data Without (k : ℕ) : List Token → Type 0 where
  none : Without k []
  more : {t : Token} {ts : List Token} → (t.kind ≡ k → ⊥) → Without k ts → Without k (t ∷ ts)

-- n is the place of a token or the end, and from there on no token is of kind k
pub record NoneFrom (k : ℕ) (ts : List Token) (n : ℕ) : Type 0 where
  pub within : n ≤ length ts
  pub rest : Without k (drop n ts)

-- so for `and` and for `or`, each from its own place
pub record NoOpsFrom (ts : List Token) (o : Ops) : Type 0 where
  pub ands : NoneFrom AND_KW ts o.ands
  pub ors : NoneFrom OR_KW ts o.ors

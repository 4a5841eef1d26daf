-- What the parser's methods ask of a parser and leave in it. Assumes nothing: these are definitions.
use Rattle.std.specs.Prelude.{◌≡◌, ℕ, ◌+◌, ◌-◌, ◌<◌, ◌≤◌, ◌^◌, List, [], ◌∷◌, length, drop, Option, Some, None, Bool, ◌||◌}
use Rattle.syntax.specs.Text.{ascii, same}
use Rattle.syntax.specs.Kinds.{number}
use Rattle.syntax.specs.declared.kind.Kind.{Kind}
use Rattle.std.proofs.lemmas.List.Edits.{sets}
use Rattle.lexer.specs.Lex.{Token, lex}
use Rattle.lexer.specs.Read.{TREE_ROW, ERROR_ROW}
use Rattle.reader.specs.declared.Row.{Row}
use Rattle.reader.specs.Reader.{row_at, past_ws}
use Rattle.trees.specs.Parse.{Parser}
use Rattle.trees.specs.Rows.{error_rows}
use Rattle.trees.specs.Writing.{NoOpsFrom}
use Rattle.trees.specs.Writing as tables
use Rattle.parser.specs.declared.ExprParser.{ExprParser}

-- the tokens left
abbrev pub left : ExprParser → List Token
left s = drop s.at.token (lex s.rule.now)

-- the first of them that is no blank, as its row has it
abbrev pub token_ahead : ExprParser → Option Row
token_ahead s = row_at s.tokens.now (past_ws s.tokens.now s.at.token)

-- s stands at a token of its rule, or at their end
pub record Ready (s : ExprParser) : Type 0 where
  pub here : tables.Ready (lex s.rule.now) s.tokens.now s.at
  pub short : length s.rule.now < 2 ^ 32
  pub ops : NoOpsFrom (lex s.rule.now) s.ops

-- and its tables have room for what p makes there
pub record Asks (s : ExprParser) (p : Parser) : Type 0 where
  pub ready : Ready s
  pub room : tables.Asks (lex s.rule.now) s.tokens.now s.tree.now s.errors.now s.level s.at p

-- n has the rule and the tokens of s, and lends the same tables
pub record Keeps (s n : ExprParser) : Type 0 where
  pub rule : n.rule ≡ s.rule
  pub tokens : n.tokens ≡ s.tokens
  pub ops : n.ops ≡ s.ops
  pub tree : n.tree.ghost_name ≡ s.tree.ghost_name
  pub errors : n.errors.ghost_name ≡ s.errors.ghost_name

-- p was done: from s to n what it reads was written
pub record Did (s n : ExprParser) (p : Parser) : Type 0 where
  pub keeps : Keeps s n
  pub level : n.level ≡ s.level
  pub did : tables.Did (lex s.rule.now) s.tree.now n.tree.now s.errors.now n.errors.now s.level s.at n.at p

-- a node's row was written, its end still its start, and n is inside it
pub record Started (s n : ExprParser) (k row : ℕ) : Type 0 where
  pub keeps : Keeps s n
  pub level : n.level ≡ s.level + 1
  pub errors : n.errors.now ≡ s.errors.now
  pub row_is : row ≡ s.at.row
  pub started : tables.Started s.tree.now n.tree.now k s.level s.at n.at

-- the end of the node's row was set to where s stands, and n is outside it
pub record Finished (s n : ExprParser) (row : ℕ) : Type 0 where
  pub keeps : Keeps s n
  pub level : n.level ≡ s.level - 1
  pub errors : n.errors.now ≡ s.errors.now
  pub finished : tables.Finished s.tree.now n.tree.now row s.at n.at

-- s is inside the node of that row
pub record Inside (s : ExprParser) (row : ℕ) : Type 0 where
  pub room : row + TREE_ROW ≤ length s.tree.now
  pub level : 0 < s.level

-- an error row was written: the first of the tokens us was found
pub record Reported (s n : ExprParser) (form expected : ℕ) (us : List Token) : Type 0 where
  pub keeps : Keeps s n
  pub level : n.level ≡ s.level
  pub tree : n.tree.now ≡ s.tree.now
  pub at : n.at ≡ record { token = s.at.token; byte = s.at.byte; row = s.at.row; error = s.at.error + ERROR_ROW }
  pub errors : n.errors.now ≡ sets s.errors.now s.at.error (error_rows (length s.rule.now) (record { form = form; expected = expected; left = us } ∷ []))

-- the number of the kind expected in an error row
abbrev pub expected_number : Option Kind → ℕ
expected_number None = 0
expected_number (Some k) = number k

-- the methods that take a predicate, and those that take nothing
abbrev pub is_predicate_method : List ℕ → Bool
is_predicate_method w = same w (ascii "where") || (same w (ascii "all") || (same w (ascii "any") || same w (ascii "none")))

abbrev pub is_plain_method : List ℕ → Bool
is_plain_method w = same w (ascii "features") || same w (ascii "diagnostics")

-- What the static library's functions give, in numbers. Assumes nothing: these are definitions.
use Rattle.std.specs.Prelude.{ℕ, ◌≡◌, List, Option, Some, None, Ok, Err}
use Rattle.syntax.specs.Refusal.{refusal_number, Check}
use Rattle.lexer.specs.Read.{Lexed, tokens_read, token_table}
use Rattle.trees.specs.Read.{Reading, rows_read, tree_table, error_table}
use Rattle.message.specs.Write.{written, out_after}

-- 0 for tokens that were read, else the refusal's number
abbrev pub answer_number : Lexed → ℕ
answer_number (Ok n) = 0
answer_number (Err r) = refusal_number r

-- the number of tokens, in a place that held c; a refusal leaves it
abbrev pub count_after : Lexed → ℕ → ℕ
count_after (Ok n) c = n
count_after (Err r) c = c

-- the answer r, the place of the count and the token table after reading a rule
pub record Answers (check : Check) (rule before after : List ℕ) (c₀ c₁ r : ℕ) : Type 0 where
  pub answer : r ≡ answer_number (tokens_read check rule)
  pub count : c₁ ≡ count_after (tokens_read check rule) c₀
  pub table : after ≡ token_table check rule before

-- 0 for a rule that was read, else the refusal's number
abbrev pub reading_number : Reading → ℕ
reading_number (Ok rows) = 0
reading_number (Err r) = refusal_number r

-- the numbers of token, tree and error rows, in places that held x; a refusal leaves them
abbrev pub token_count : Reading → ℕ → ℕ
token_count (Ok rows) x = rows.tokens
token_count (Err r) x = x

abbrev pub tree_count : Reading → ℕ → ℕ
tree_count (Ok rows) x = rows.tree
tree_count (Err r) x = x

abbrev pub error_count : Reading → ℕ → ℕ
error_count (Ok rows) x = rows.errors
error_count (Err r) x = x

-- the answer r and the three places of the row numbers after reading a rule
pub record RowsAnswer (check : Check) (rule : List ℕ) (x₀ x₁ y₀ y₁ z₀ z₁ r : ℕ) : Type 0 where
  pub answer : r ≡ reading_number (rows_read check rule)
  pub tokens : x₁ ≡ token_count (rows_read check rule) x₀
  pub tree : y₁ ≡ tree_count (rows_read check rule) y₀
  pub errors : z₁ ≡ error_count (rows_read check rule) z₀

-- the three tables after reading a rule
pub record Tables (check : Check) (rule tokens₀ tokens₁ tree₀ tree₁ errors₀ errors₁ : List ℕ) : Type 0 where
  pub tokens : tokens₁ ≡ token_table check rule tokens₀
  pub tree : tree₁ ≡ tree_table check rule tree₀
  pub errors : errors₁ ≡ error_table check rule errors₀

-- 0 for a message that was written, 1 where there was no room
abbrev pub message_number : Option ℕ → ℕ
message_number (Some n) = 0
message_number None = 1

-- the number of its bytes, in a place that held x
abbrev pub written_after : Option ℕ → ℕ → ℕ
written_after (Some n) x = n
written_after None x = x

-- the answer r, the place of the number and the bytes after writing a message
pub record MessageAnswer (message before after : List ℕ) (x₀ x₁ r : ℕ) : Type 0 where
  pub answer : r ≡ message_number (written message before)
  pub count : x₁ ≡ written_after (written message before) x₀
  pub out : after ≡ out_after message before

-- 0 for what passes, else the refusal's number
abbrev pub check_number : Check → ℕ
check_number (Ok tt) = 0
check_number (Err r) = refusal_number r

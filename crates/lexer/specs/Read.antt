-- Reading a rule's tokens: refusals 1 to 4 in their order, or the tokens. Assumes nothing: these are definitions.
use Rattle.std.specs.Prelude.{ℕ, ◌+◌, ◌*◌, ◌/◌, Bool, cond, not, ◌||◌, List, ◌≡◌, ltb, length, Result, Ok, Err}
use Rattle.syntax.specs.Table.{with_rows}
use Rattle.syntax.specs.Utf8.{utf8}
use Rattle.syntax.specs.declared.refusal.Refusal.TheVariants.{RuleTooLong, RuleNotUtf8, TableTooShort, TooManyOpeners}
use Rattle.lexer.specs.Lex.{lex, token_rows, openers_in}
use Rattle.syntax.specs.declared.refusal.Refusal.{Refusal}
use Rattle.syntax.specs.Refusal.{Check}

-- the most bytes that a rule may have, and the most tokens `(` and `not`
abbrev pub MAX_RULE : ℕ
MAX_RULE = 500

abbrev pub MAX_OPENERS : ℕ
MAX_OPENERS = 64

-- the numbers of a row
abbrev pub TOKEN_ROW : ℕ
TOKEN_ROW = 3

abbrev pub TREE_ROW : ℕ
TREE_ROW = 4

abbrev pub ERROR_ROW : ℕ
ERROR_ROW = 4

-- how many tree rows and how many error rows a rule of n bytes may need
abbrev pub rows_needed : ℕ → ℕ
rows_needed n = 8 * n + 8

-- the token table is too short for a rule of n bytes: numbers after the last whole row count as none
abbrev pub tokens_short : ℕ → ℕ → Bool
tokens_short n tokens = ltb (tokens / TOKEN_ROW) n

-- one of the three tables, of so many numbers each, is
abbrev pub tables_short : ℕ → ℕ → ℕ → ℕ → Bool
tables_short n tokens tree errors = tokens_short n tokens || (ltb (tree / TREE_ROW) (rows_needed n) || ltb (errors / ERROR_ROW) (rows_needed n))

-- refusals 1 to 4, in their order, of a rule and the lengths of the three tables
unfoldable pub check_rule : List ℕ → ℕ → ℕ → ℕ → Check
unfolding utf8 lex openers_in
check_rule rule tokens tree errors =
    cond (ltb MAX_RULE (length rule)) (Err RuleTooLong)
    (cond (not (utf8 rule)) (Err RuleNotUtf8)
    (cond (tables_short (length rule) tokens tree errors) (Err TableTooShort)
    (cond (ltb MAX_OPENERS (openers_in (lex rule))) (Err TooManyOpeners) (Ok tt))))

-- of those, what the lexer by itself cannot do without: refusal 1, and refusal 3 of the token table
unfoldable pub check_room : List ℕ → ℕ → Check
check_room rule tokens =
    cond (ltb MAX_RULE (length rule)) (Err RuleTooLong)
    (cond (tokens_short (length rule) tokens) (Err TableTooShort) (Ok tt))

-- what reading a rule gives: the number of its tokens, or the refusal
abbrev pub Lexed : Type 0
Lexed = Result ℕ Refusal

-- what is given of a rule after a check
abbrev pub tokens_read : Check → List ℕ → Lexed
tokens_read (Ok tt) rule = Ok (length (lex rule))
tokens_read (Err r) rule = Err r

-- what the token table then holds, that held t: the rows of the rule's tokens and the rest as it was, or t unaltered
abbrev pub token_table : Check → List ℕ → List ℕ → List ℕ
token_table (Ok tt) rule t = with_rows (token_rows 0 (lex rule)) t
token_table (Err r) rule t = t

-- the answer r and the table after, of reading a rule into a table that held before
pub record Reads (check : Check) (rule before after : List ℕ) (r : Lexed) : Type 0 where
  pub answer : r ≡ tokens_read check rule
  pub table : after ≡ token_table check rule before

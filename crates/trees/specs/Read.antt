-- Reading a rule: refusals 1 to 4, or token rows, tree rows and error rows. Assumes nothing: these are definitions.
use Rattle.std.specs.Prelude.{ℕ, ◌≡◌, cond, List, ltb, length, Result, Ok, Err}
use Rattle.syntax.specs.Table.{with_rows}
use Rattle.syntax.specs.Refusal.{Check}
use Rattle.syntax.specs.declared.refusal.Refusal.{Refusal}
use Rattle.syntax.specs.declared.refusal.Refusal.TheVariants.{RuleTooLong, TableTooShort}
use Rattle.lexer.specs.Lex.{lex}
use Rattle.lexer.specs.Read.{MAX_RULE, tables_short, token_table}
use Rattle.trees.specs.Green.{size}
use Rattle.trees.specs.Parse.{parse_expr}
use Rattle.trees.specs.Rows.{tree_rows, error_rows}
use Rattle.trees.specs.declared.Rows.{Rows}

-- of refusals 1 to 4, those that the parser by itself cannot do without: 1 and 3, by the lengths of the rule and the three tables
unfoldable pub check_tables : ℕ → ℕ → ℕ → ℕ → Check
check_tables n tokens tree errors =
    cond (ltb MAX_RULE n) (Err RuleTooLong) (cond (tables_short n tokens tree errors) (Err TableTooShort) (Ok tt))

-- what reading a rule gives: the numbers of its rows in the three tables, or the refusal
abbrev pub Reading : Type 0
Reading = Result Rows Refusal

-- what is given of a rule after a check: the numbers of token, tree and error rows, or the refusal
abbrev pub rows_read : Check → List ℕ → Reading
rows_read (Ok tt) rule =
    Ok (record { tokens = length (lex rule); tree = size (parse_expr rule).made; errors = length (parse_expr rule).errors })
rows_read (Err r) rule = Err r

-- what the tree table and the error table then hold, that held t: the rows and the rest as it was, or t unaltered
abbrev pub tree_table : Check → List ℕ → List ℕ → List ℕ
tree_table (Ok tt) rule t = with_rows (tree_rows 0 0 (parse_expr rule).made) t
tree_table (Err r) rule t = t

abbrev pub error_table : Check → List ℕ → List ℕ → List ℕ
error_table (Ok tt) rule t = with_rows (error_rows (length rule) (parse_expr rule).errors) t
error_table (Err r) rule t = t

-- the answer r and the three tables after, of reading a rule into tables that held tokens₀, tree₀ and errors₀
pub record Reads (check : Check) (rule tokens₀ tokens₁ tree₀ tree₁ errors₀ errors₁ : List ℕ) (r : Reading) : Type 0 where
  pub answer : r ≡ rows_read check rule
  pub tokens : tokens₁ ≡ token_table check rule tokens₀
  pub tree : tree₁ ≡ tree_table check rule tree₀
  pub errors : errors₁ ≡ error_table check rule errors₀

-- Running a rule on a board image: the answer and the four tables after it, for any rule, image and tables. Assumes nothing: these are
-- definitions.
use Rattle.std.specs.Prelude.{ℕ, ◌*◌, ◌≤◌, ◌≡◌, List, length, take}
use Rattle.trees.specs.Green.{size}
use Rattle.trees.specs.Parse.{parse_expr}
use Rattle.trees.specs.Rows.{tree_rows}
use Rattle.trees.specs.Read.{Reading, Reads}
use Rattle.trees.specs.declared.Rows.{Rows}
use Rattle.lexer.specs.Read.{MAX_RULE, TREE_ROW}
use Rattle.meaning.specs.Value.{collection_table}
use Rattle.meaning.specs.Outcome as meant
use Rattle.calls.specs.Answer.{Outcome, answer_of, verdict_for, verdict_of_answer}
use Rattle.eval.specs.declared.Answer.{Answer}

-- the lengths of the four tables
abbrev pub lent : (tokens tree errors collection : List ℕ) → meant.Lent
lent tokens tree errors collection =
    record { tokens = length tokens; tree = length tree; errors = length errors; collection = length collection }

-- the answer a and the tables after, of a rule run on an image with tables that held tokens₀, tree₀, errors₀ and collection₀: the outcome
-- and the verdict are those of the definitions; what was read and its three tables are as after reading, where refusals 1 to 8 are passed,
-- and the collection table is as the outcome leaves it
pub record Runs (rule image tokens₀ tokens₁ tree₀ tree₁ errors₀ errors₁ collection₀ collection₁ : List ℕ) (a : Answer) : Type 0 where
  pub outcome : a.outcome ≡ answer_of (meant.run rule image (lent tokens₀ tree₀ errors₀ collection₀))
  pub verdict : a.verdict ≡ verdict_for (meant.verdict_of (meant.run rule image (lent tokens₀ tree₀ errors₀ collection₀)))
  pub reads : Reads (meant.check_run rule image (lent tokens₀ tree₀ errors₀ collection₀)) rule tokens₀ tokens₁ tree₀ tree₁ errors₀ errors₁ a.reading
  pub collection : collection₁ ≡ collection_table (meant.run rule image (lent tokens₀ tree₀ errors₀ collection₀)) collection₀

-- an outcome with its verdict; no public contract needs this and the next
pub record Answers (outcome : Outcome) (reading : Reading) (a : Answer) : Type 0 where
  pub outcome_is : a.outcome ≡ outcome
  pub verdict_is : a.verdict ≡ verdict_of_answer outcome
  pub reading_is : a.reading ≡ reading

-- the rows of a rule's tree stand at the front of the tree table
pub record ReadRule (rule tree : List ℕ) (rows : Rows) : Type 0 where
  pub rows_are : rows.tree ≡ size (parse_expr rule).made
  pub errors_are : rows.errors ≡ length (parse_expr rule).errors
  pub front : take (TREE_ROW * rows.tree) tree ≡ tree_rows 0 0 (parse_expr rule).made
  pub within : TREE_ROW * rows.tree ≤ length tree
  pub short : length rule ≤ MAX_RULE

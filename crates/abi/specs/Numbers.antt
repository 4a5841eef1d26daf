-- The eight numbers by which `spar_run` and `spar_read` answer, and all that they leave. Assumes nothing: these are definitions.
use Rattle.std.specs.Prelude.{ℕ, ◌≤◌, ◌≡◌, Bool, cond, List, [], ◌∷◌, ◌++◌, ltb, length, Ok, Err}
use Rattle.syntax.specs.Table.{with_rows}
use Rattle.syntax.specs.Refusal.{Check}
use Rattle.lexer.specs.Read.{check_rule, token_table}
use Rattle.trees.specs.Read.{Reading, rows_read, tree_table, error_table}
use Rattle.trees.specs.declared.Rows.{Rows}
use Rattle.meaning.specs.Value.{collection_table}
use Rattle.meaning.specs.Outcome as meant
use Rattle.calls.specs.declared.value.Value.{Value}
use Rattle.calls.specs.declared.value.Verdict.{Verdict}
use Rattle.calls.specs.Answer.{Outcome, answer_of, verdict_for}
use Rattle.calls.specs.Numbers.{value_number, value_amount, value_warned, outcome_number, outcome_amount, outcome_warned, verdict_number}
use Rattle.eval.specs.Run.{lent}

-- the numbers of an answer, and of each of its two parts
abbrev pub ANSWER : ℕ
ANSWER = 8

abbrev pub PART : ℕ
PART = 4

-- the first part: what a rule comes to, its amount, whether it is warned, and the verdict
abbrev pub value_numbers : Value → ℕ → List ℕ
value_numbers value verdict = value_number value ∷ value_amount value ∷ value_warned value ∷ verdict ∷ []

abbrev pub outcome_numbers : Outcome → Verdict → List ℕ
outcome_numbers outcome verdict = outcome_number outcome ∷ outcome_amount outcome ∷ outcome_warned outcome ∷ verdict_number verdict ∷ []

-- the second part: 1 and the numbers of token, tree and error rows; 0 where none are given
abbrev pub row_numbers : Reading → List ℕ
row_numbers (Ok rows) = 1 ∷ rows.tokens ∷ rows.tree ∷ rows.errors ∷ []
row_numbers (Err r) = 0 ∷ 0 ∷ 0 ∷ 0 ∷ []

-- the eight numbers of a run
abbrev pub run_numbers : (rule image : List ℕ) → meant.Lent → List ℕ
run_numbers rule image l =
    outcome_numbers (answer_of (meant.run rule image l)) (verdict_for (meant.verdict_of (meant.run rule image l)))
    ++ row_numbers (rows_read (meant.check_run rule image l) rule)

-- the first part of a reading's answer: 6, where the rule was read, and the verdict open; else the refusal
abbrev pub READ : ℕ
READ = 6

abbrev pub reading_numbers : Reading → List ℕ
reading_numbers (Ok rows) = READ ∷ 0 ∷ 0 ∷ verdict_number Verdict.Open ∷ []
reading_numbers (Err r) = outcome_numbers (Err r) Verdict.Refused

-- the eight numbers of a reading, after a check
abbrev pub read_numbers : Check → List ℕ → List ℕ
read_numbers check rule = reading_numbers (rows_read check rule) ++ row_numbers (rows_read check rule)

-- an answer with room for fewer than eight numbers: nothing is done, and 0 is given
abbrev pub is_short : List ℕ → Bool
is_short answer = ltb (length answer) ANSWER

-- so of each table that is lent with it, and of what is given: as before, or as after
abbrev pub unless_short : {A : Type 0} → List ℕ → A → A → A
unless_short answer before after = cond (is_short answer) before after

-- what `spar_run` gives, r, and what all that is lent to it then holds
pub record RunAnswer (rule image tokens₀ tokens₁ tree₀ tree₁ errors₀ errors₁ collection₀ collection₁ answer₀ answer₁ : List ℕ) (r : ℕ) : Type 0 where
  pub result : r ≡ unless_short answer₀ 0 1
  pub answer : answer₁ ≡ unless_short answer₀ answer₀ (with_rows (run_numbers rule image (lent tokens₀ tree₀ errors₀ collection₀)) answer₀)
  pub tokens : tokens₁ ≡ unless_short answer₀ tokens₀ (token_table (meant.check_run rule image (lent tokens₀ tree₀ errors₀ collection₀)) rule tokens₀)
  pub tree : tree₁ ≡ unless_short answer₀ tree₀ (tree_table (meant.check_run rule image (lent tokens₀ tree₀ errors₀ collection₀)) rule tree₀)
  pub errors : errors₁ ≡ unless_short answer₀ errors₀ (error_table (meant.check_run rule image (lent tokens₀ tree₀ errors₀ collection₀)) rule errors₀)
  pub collection : collection₁ ≡ unless_short answer₀ collection₀ (collection_table (meant.run rule image (lent tokens₀ tree₀ errors₀ collection₀)) collection₀)

-- what `spar_read` gives, r, and what all that is lent to it then holds
pub record ReadAnswer (rule tokens₀ tokens₁ tree₀ tree₁ errors₀ errors₁ answer₀ answer₁ : List ℕ) (r : ℕ) : Type 0 where
  pub result : r ≡ unless_short answer₀ 0 1
  pub answer : answer₁ ≡ unless_short answer₀ answer₀ (with_rows (read_numbers (check_rule rule (length tokens₀) (length tree₀) (length errors₀)) rule) answer₀)
  pub tokens : tokens₁ ≡ unless_short answer₀ tokens₀ (token_table (check_rule rule (length tokens₀) (length tree₀) (length errors₀)) rule tokens₀)
  pub tree : tree₁ ≡ unless_short answer₀ tree₀ (tree_table (check_rule rule (length tokens₀) (length tree₀) (length errors₀)) rule tree₀)
  pub errors : errors₁ ≡ unless_short answer₀ errors₀ (error_table (check_rule rule (length tokens₀) (length tree₀) (length errors₀)) rule errors₀)

-- numbers of rows, where they are given, are small; no public contract needs this
pub record RowsFew (reading : Reading) : Type 0 where
  pub few : (rows : Rows) → reading ≡ Ok rows → (rows.tokens ≤ 500) × (rows.tree ≤ 3505) × (rows.errors ≤ 3004)

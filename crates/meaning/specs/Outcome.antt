-- What running a rule on a board image comes to, and the verdict on it. Assumes nothing: these are definitions.
use Rattle.std.specs.Prelude.{ℕ, true, false, cond, List, eqb, Ok, Err}
use Rattle.syntax.specs.Kind.{COUNT_COMPARE_EXPR, NONE}
use Rattle.syntax.specs.Refusal.{Check}
use Rattle.syntax.specs.declared.refusal.Refusal.TheVariants.{ParseErrors}
use Rattle.lexer.specs.Read.{check_rule}
use Rattle.trees.specs.Green.{Forest, nil, leaf, node}
use Rattle.trees.specs.Parse.{Parsed, parse_expr}
use Rattle.board.specs.Check.{check_image}
use Rattle.meaning.specs.Value.{Outcome, collection, boolean, refused}
use Rattle.meaning.specs.Calls.{is_empty}
use Rattle.meaning.specs.Pipeline.{eval_pipeline}
use Rattle.meaning.specs.Compare.{compared, operator_of, integer_of}

-- the kind of a forest's first node, and what it has inside
unfoldable pub first_kind : Forest → ℕ
first_kind nil = NONE
first_kind (leaf t f) = first_kind f
first_kind (node k s f) = k

unfoldable pub first_inner : Forest → Forest
first_inner nil = nil
first_inner (leaf t f) = first_inner f
first_inner (node k s f) = s

-- `eval_count_compare`, of a COUNT_COMPARE_EXPR's children: the pipeline, the operator and the integer
unfoldable pub eval_count_compare : List ℕ → Forest → Outcome
unfolding compared operator_of integer_of eval_pipeline first_inner
eval_count_compare image f = compared (operator_of f) (integer_of f) (eval_pipeline image (first_inner f))

-- `eval_node`, of ROOT's children: a COUNT_COMPARE_EXPR or a PIPELINE_EXPR
unfoldable pub eval_node : List ℕ → Forest → Outcome
unfolding eval_count_compare eval_pipeline first_kind first_inner
eval_node image f =
    cond (eqb (first_kind f) COUNT_COMPARE_EXPR) (eval_count_compare image (first_inner f)) (eval_pipeline image (first_inner f))

-- 9. "There are parse errors.", or what `eval_node` gives
unfoldable pub outcome_of : List ℕ → Parsed → Outcome
unfolding eval_node first_inner
outcome_of image parsed = cond (is_empty parsed.errors) (eval_node image (first_inner parsed.made)) (refused ParseErrors)

-- the outcome of a rule, refusals 1 to 8 apart
unfoldable pub outcome : List ℕ → List ℕ → Outcome
unfolding outcome_of parse_expr
outcome image rule = outcome_of image (parse_expr rule)

-- the lengths of the tables lent, in numbers
pub record Lent : Type 0 where
  pub tokens : ℕ
  pub tree : ℕ
  pub errors : ℕ
  pub collection : ℕ

-- one check after another
abbrev pub then_check : Check → Check → Check
then_check (Ok tt) later = later
then_check (Err r) later = Err r

-- refusals 1 to 8, in their order
unfoldable pub check_run : List ℕ → List ℕ → Lent → Check
unfolding check_rule check_image
check_run rule image lent =
    then_check (check_rule rule lent.tokens lent.tree lent.errors) (check_image image lent.collection)

-- what is given after a check: the outcome, or the refusal
abbrev pub after_check : Check → Outcome → Outcome
after_check (Ok tt) o = o
after_check (Err r) o = refused r

-- "Turned away, in checking order": refusals 1 to 8, then 9 to 16, or the result
unfoldable pub run : List ℕ → List ℕ → Lent → Outcome
unfolding check_run outcome
run rule image lent = after_check (check_run rule image lent) (outcome image rule)

-- the verdicts
pub data Verdict : Type 0 where
  Pass Fail Refused Open : Verdict

-- "The verdict (added) is pass for true, warned or not, fail for false, refused for a refusal, open otherwise"
abbrev pub verdict_of : Outcome → Verdict
verdict_of (boolean true warned) = Pass
verdict_of (boolean false warned) = Fail
verdict_of (refused r) = Refused
verdict_of (collection sort members) = Open
verdict_of (Outcome.count n) = Open

-- Document 01, "Two boards and what rules say of them": the starred cases; and the corners of `eval.rs`. Assumes nothing: these are
-- definitions.
use Rattle.std.specs.Prelude.{ℕ, ◌*◌, true, false, List, [], ◌∷◌}
use Prim.Native.String.{String}
use Rattle.syntax.specs.Text.{ascii}
use Rattle.syntax.specs.declared.refusal.Refusal.TheVariants.{ParseErrors, WhereOnNoCollection, QuantifierOnNoCollection, CountOnNoCollection, FeaturesOnNoComponents, DiagnosticsOnNoDiagnostics, ComparisonNotCountable, IntegerTooLarge}
use Rattle.lexer.specs.Read.{MAX_RULE, TOKEN_ROW, TREE_ROW, ERROR_ROW, rows_needed}
use Rattle.board.specs.Boards.{board_a, board_b}
use Rattle.board.specs.Check.{COLLECTION_ROW}
use Rattle.predicate.specs.declared.atom.Member.TheVariants.{Component, Feature}
use Rattle.meaning.specs.Value.{components, features, diagnostics, Outcome, collection, boolean, count, refused}
use Rattle.meaning.specs.Outcome.{Lent, run}

-- a board, a rule, and what the rule comes to on it
pub record Case : Type 0 where
  pub board : List ℕ
  pub rule : String
  pub outcome : Outcome

abbrev pub says : List ℕ → String → Outcome → Case
says board rule o = record { board = board; rule = rule; outcome = o }

abbrev pub comes_to : Case → Outcome
comes_to c = c.outcome

-- a true or false without a warning, and a warned true
abbrev pub plain_true : Outcome
plain_true = boolean true false

abbrev pub plain_false : Outcome
plain_false = boolean false false

abbrev pub warned_true : Outcome
warned_true = boolean true true

-- the ten starred cases
unfoldable pub starred : List Case
starred =
    says board_a "components.features.all(connected)" plain_true
    ∷ says board_a "components.none(category == 'devce')" plain_true
    ∷ says board_a "components.where(category == 'bus').all(connected)" warned_true
    ∷ says board_a "components.where(has('probe')).count()" (count 1)
    ∷ says board_a "components.features.any(has('probe'))" plain_false
    ∷ says board_a "components.features.where(not kind == 'Data-Port').count()" (count 0)
    ∷ says board_a "components.all(connected) == 1" (refused ComparisonNotCountable)
    ∷ says board_b "components.any(connected)" plain_false
    ∷ says board_b "components.none(connected)" warned_true
    ∷ says board_a "components = 3" (refused ParseErrors)
    ∷ []

-- what a collection holds; each entry of the table that is a refusal, and the leftmost call; the comparison's integer, and its left side
-- first
unfoldable pub corners : List Case
corners =
    says board_a "components.where(connected)" (collection components (Component 0 ∷ Component 1 ∷ []))
    ∷ says board_a "components.features" (collection features (Feature 1 0 ∷ []))
    ∷ says board_a "analysis('lines').diagnostics" (collection diagnostics [])
    ∷ says board_a "components.count().where(connected).features" (refused WhereOnNoCollection)
    ∷ says board_a "components.any(connected).all(connected)" (refused QuantifierOnNoCollection)
    ∷ says board_a "components.none(connected).count()" (refused CountOnNoCollection)
    ∷ says board_a "components.features.features" (refused FeaturesOnNoComponents)
    ∷ says board_a "components.diagnostics" (refused DiagnosticsOnNoDiagnostics)
    ∷ says board_a "components == 002" plain_true
    ∷ says board_a "components.features > 1" plain_false
    ∷ says board_a "components.count() < 18446744073709551615" plain_true
    ∷ says board_a "components.count() < 18446744073709551616" (refused IntegerTooLarge)
    ∷ says board_a "components.all(connected) < 18446744073709551616" (refused ComparisonNotCountable)
    ∷ []

-- tables for any rule, and a collection of the two components and the feature of Board A
abbrev pub BOARD_A_MEMBERS : ℕ
BOARD_A_MEMBERS = 3

abbrev pub lent : Lent
lent =
    record {
      tokens = TOKEN_ROW * MAX_RULE;
      tree = TREE_ROW * rows_needed MAX_RULE;
      errors = ERROR_ROW * rows_needed MAX_RULE;
      collection = COLLECTION_ROW * BOARD_A_MEMBERS;
    }

-- a case run
unfoldable pub ran : Case → Outcome
unfolding run
ran c = run (ascii c.rule) c.board lent

-- What a run gives in numbers is small: the number of members or the count, and the numbers of rows. Assumes nothing.
use mathlib.Core.Path.{◌≡◌, refl, sym, ap, ◌∙◌, subst}
use mathlib.Core.Bool.{Bool, true, false}
use mathlib.Core.List.{List, [], ◌∷◌}
use Prim.Native.Nat.{ℕ, ◌+◌, ◌≤◌}
use native.Mathlib.Omega.{arith}
use lib.Dec.{eqb, ltb}
use lib.ListN.{length}
use Rattle.syntax.specs.Kind.{IDENT_EXPR, COUNT_COMPARE_EXPR}
use Rattle.syntax.specs.Refusal.{refusal_number}
use Rattle.syntax.specs.Refusal.{Check}
use Rattle.syntax.specs.declared.refusal.Refusal.{Refusal}
use Rattle.syntax.specs.declared.refusal.Refusal.TheVariants.{RuleTooLong, RuleNotUtf8, TableTooShort, TooManyOpeners, ImageBadSections, ImageBadStrings, ImageBadRecords, CollectionTooShort, ParseErrors, WhereOnNoCollection, QuantifierOnNoCollection, CountOnNoCollection, FeaturesOnNoComponents, DiagnosticsOnNoDiagnostics, ComparisonNotCountable, IntegerTooLarge}
use Rattle.syntax.proofs.BoolLaws.{whether}
use Rattle.lexer.specs.Read.{check_rule}
use Rattle.trees.specs.Green.{Forest, nil, leaf, node}
use Rattle.trees.specs.Parse.{parse_expr}
use Rattle.std.specs.Prelude.{Ok, Err}
use Rattle.trees.specs.Read.{rows_read}
use Rattle.trees.proofs.ReadLaws.{counted, rows_few}
use Rattle.board.specs.declared.image.Section.TheVariants.{Components, Features, Diagnostics}
use Rattle.board.specs.Image.{component_count, feature_count, diagnostic_count}
use Rattle.board.specs.Check.{MAX_IMAGE, check_image}
use Rattle.board.specs.WellFormed.{WellFormed}
use Rattle.board.proofs.BoardLaws.{passed_well_formed}
use Rattle.predicate.specs.declared.atom.Member.{Member}
use Rattle.predicate.specs.Truth.{literal_of}
use Rattle.meaning.specs.declared.ValueKind.{ValueKind}
use Rattle.meaning.specs.Value.{Sort, components, diagnostics, Outcome, collection, boolean, refused, sort_kind}
use Rattle.meaning.specs.declared.Method.{Method}
use Rattle.meaning.specs.declared.Method.TheVariants.{Where, All, Any, None, Count}
use Rattle.meaning.specs.Calls.{Entry, Call, is_empty, call_gives, calls_give, how_many}
use Rattle.meaning.specs.Pipeline.{all_components, is_of_analysis, diagnostics_of, source_of, calls_of, eval_pipeline}
use Rattle.meaning.specs.Compare.{MAX_INTEGER, operator_holds, against, compared, operator_of, integer_of}
use Rattle.meaning.specs.Outcome.{Lent, first_kind, first_inner, eval_count_compare, eval_node, outcome_of, outcome, then_check, check_run, after_check, run}
use Rattle.meaning.specs.Walk.{plan_of, arrivals, last_method, last_test, judged, settled}
use Rattle.meaning.proofs.WalkLaws.{calls_refused, calls_settled, components_fit_lem, diagnostics_fit_lem}
use Rattle.calls.specs.Answer.{answer_of, boolean_of}
use Rattle.calls.specs.Numbers.{value_amount, outcome_amount}

-- ---- a board has few members

components_few : (image : List ℕ) → WellFormed image → component_count image + feature_count image ≤ MAX_IMAGE
components_few image w =
    omega
    (arith, w.most, w.section_within Components, w.section_records Components, w.section_within Features, w.section_records Features)

diagnostics_few : (image : List ℕ) → WellFormed image → diagnostic_count image ≤ MAX_IMAGE
diagnostics_few image w = omega (arith, w.most, w.section_within Diagnostics, w.section_records Diagnostics)

-- ---- the amount of an outcome

pub record Few (o : Outcome) : Type 0 where
  pub few : outcome_amount (answer_of o) ≤ MAX_IMAGE

refused_few : (r : Refusal) → Few (refused r)
refused_few r = record { few = go r }
  where
    go : (r : Refusal) → refusal_number r ≤ MAX_IMAGE
    go RuleTooLong = omega arith
    go RuleNotUtf8 = omega arith
    go TableTooShort = omega arith
    go TooManyOpeners = omega arith
    go ImageBadSections = omega arith
    go ImageBadStrings = omega arith
    go ImageBadRecords = omega arith
    go CollectionTooShort = omega arith
    go ParseErrors = omega arith
    go WhereOnNoCollection = omega arith
    go QuantifierOnNoCollection = omega arith
    go CountOnNoCollection = omega arith
    go FeaturesOnNoComponents = omega arith
    go DiagnosticsOnNoDiagnostics = omega arith
    go ComparisonNotCountable = omega arith
    go IntegerTooLarge = omega arith

boolean_few : (value warned : Bool) → Few (boolean value warned)
boolean_few value warned = record { few = go value warned }
  where
    go : (value warned : Bool) → value_amount (boolean_of value warned) ≤ MAX_IMAGE
    go true true = omega arith
    go true false = omega arith
    go false true = omega arith
    go false false = omega arith

-- ---- of calls on members few of which arrive

judged_few : (method : Method) (arrived passed : ℕ) → Few (judged method arrived passed)
judged_few Where arrived passed = boolean_few _ _
judged_few All arrived passed = boolean_few _ _
judged_few Any arrived passed = boolean_few _ _
judged_few None arrived passed = boolean_few _ _
judged_few Count arrived passed = boolean_few _ _
judged_few Method.Features arrived passed = boolean_few _ _
judged_few Method.Diagnostics arrived passed = boolean_few _ _

settled_few : (kind : ValueKind) (method : Method) (passed : ℕ) (ms : List Member) → length ms ≤ MAX_IMAGE → Few (settled kind method (length ms) passed ms)
unfolding settled
settled_few ValueKind.Components method passed ms h = record { few = h }
settled_few ValueKind.Features method passed ms h = record { few = h }
settled_few ValueKind.Diagnostics method passed ms h = record { few = h }
settled_few ValueKind.Boolean method passed ms h = judged_few method (length ms) passed
settled_few ValueKind.Count method passed ms h = record { few = h }

calls_few : (image : List ℕ) (calls : List Call) (sort : Sort) (ms : List Member) → length (arrivals image calls ms) ≤ MAX_IMAGE
    → Few (calls_give image calls (collection sort ms))
calls_few image calls sort ms h = go (plan_of (sort_kind sort) calls) refl
  where
    go : (e : Entry) → plan_of (sort_kind sort) calls ≡ e → Few (calls_give image calls (collection sort ms))
    go (Ok kind) e =
        subst Few (sym (calls_settled image calls sort ms kind e)) (settled_few kind (last_method calls) (how_many (last_test image calls) (arrivals image calls ms)) (arrivals image calls ms) h)
    go (Err r) e = subst Few (sym (calls_refused image calls sort ms r e)) (refused_few r)

-- of calls on nothing
after_refusal : (image : List ℕ) (calls : List Call) (r : Refusal) → Few (calls_give image calls (refused r))
unfolding calls_give call_gives
after_refusal image [] r = refused_few r
after_refusal image (call ∷ calls) r = after_refusal image calls r

-- ---- of a rule

module _ (image : List ℕ) (w : WellFormed image) where
  source_few : (calls : List Call) (f : Forest) → Few (calls_give image calls (source_of image f))
  unfolding source_of all_components diagnostics_of
  source_few calls nil = after_refusal image calls ParseErrors
  source_few calls (leaf t f) = source_few calls f
  source_few calls (node k s f) =
      whether (eqb k IDENT_EXPR)
      (λ q. rw q (calls_few image calls components _ (omega (arith, components_fit_lem image calls w, components_few image w))))
      (λ q. rw q (calls_few image calls diagnostics _ (omega (arith, diagnostics_fit_lem image calls (is_of_analysis image (literal_of s)), diagnostics_few image w))))

  pipeline_few : (f : Forest) → Few (eval_pipeline image f)
  unfolding eval_pipeline
  pipeline_few f = source_few (calls_of f) f

  -- a comparison has no amount but a boolean's or a refusal's
  against_few : (operator left right : ℕ) → Few (against operator left right)
  unfolding against
  against_few operator left right =
      whether (ltb MAX_INTEGER right) (λ q. rw q (refused_few IntegerTooLarge)) (λ q. rw q (boolean_few (operator_holds operator left right) false))

  compared_few : (operator right : ℕ) (o : Outcome) → Few (compared operator right o)
  unfolding compared
  compared_few operator right (collection sort ms) = against_few operator (length ms) right
  compared_few operator right (boolean value warned) = refused_few ComparisonNotCountable
  compared_few operator right (Outcome.count n) = against_few operator n right
  compared_few operator right (refused r) = refused_few r

  node_few : (f : Forest) → Few (eval_node image f)
  unfolding eval_node eval_count_compare
  node_few f =
      whether (eqb (first_kind f) COUNT_COMPARE_EXPR)
      (λ q. rw q (compared_few (operator_of (first_inner f)) (integer_of (first_inner f)) (eval_pipeline image (first_inner (first_inner f)))))
      (λ q. rw q (pipeline_few (first_inner f)))

  pub outcome_few : (rule : List ℕ) → Few (outcome image rule)
  unfolding outcome outcome_of
  outcome_few rule =
      whether (is_empty (parse_expr rule).errors) (λ q. rw q (node_few (first_inner (parse_expr rule).made))) (λ q. rw q (refused_few ParseErrors))

-- ---- of a run

module _ (rule image : List ℕ) (lent : Lent) where
  pub run_few : Few (run rule image lent)
  unfolding run check_run
  run_few = go (check_rule rule lent.tokens lent.tree lent.errors) (check_image image lent.collection) refl
    where
      go : (k m : Check) → check_image image lent.collection ≡ m → Few (after_check (then_check k m) (outcome image rule))
      go (Ok _) (Ok _) e = outcome_few image (passed_well_formed image lent.collection e) rule
      go (Ok _) (Err r) e = refused_few r
      go (Err r) m e = refused_few r

  -- and the numbers of its rows
  pub run_rows_few : {a b c : ℕ} → Ok (counted a b c) ≡ rows_read (check_run rule image lent) rule → (a ≤ 500) × (b ≤ 3505) × (c ≤ 3004)
  unfolding check_run
  run_rows_few {a} {b} {c} = go (check_rule rule lent.tokens lent.tree lent.errors) (check_image image lent.collection) refl
    where
      go : (k m : Check) → check_rule rule lent.tokens lent.tree lent.errors ≡ k → Ok (counted a b c) ≡ rows_read (then_check k m) rule
          → (a ≤ 500) × (b ≤ 3505) × (c ≤ 3004)
      go (Ok _) (Ok _) p q =
          rows_few rule lent.tokens lent.tree lent.errors (q ∙ ap (λ (k : Check). rows_read k rule) (sym p))
      go (Ok _) (Err r) p q = let z : ◌≡◌ {A = ℕ} 0 1 = cc in absurd (omega arith)
      go (Err r) m p q = let z : ◌≡◌ {A = ℕ} 0 1 = cc in absurd (omega arith)

-- A text that comes to a collection was read without errors, as a pipeline and nothing more. Assumes nothing.
use mathlib.Core.Path.{◌≡◌, refl, sym, ap, ◌∙◌, subst}
use mathlib.Core.Bool.{Bool, true, false, cond}
use mathlib.Core.List.{List, [], ◌∷◌, ◌++◌, cons≢nil}
use Prim.Native.Nat.{ℕ}
use borrow.Author.Tests.{eqb-true}
use Rattle.syntax.specs.Kind.{NONE}
use Rattle.syntax.specs.declared.refusal.Refusal.TheVariants.{ParseErrors}
use Rattle.syntax.proofs.BoolLaws.{whether}
use Rattle.lexer.specs.Lex.{Token, lex}
use Rattle.trees.specs.Green.{◌⊹◌}
use Rattle.trees.proofs.GreenLaws.{tokens_of}
use Rattle.trees.specs.Look.{skip_ws, at_kind, has_count_compare_ahead}
use Rattle.trees.specs.Parse.{Error, Parsed, choose, bump, eat_ws, left_over, parse_pipeline, parse_expr}
use Rattle.trees.proofs.TreeLaws.{Keeps, keeping, keeps_parse, Kinds, kinds_right, kinds_lex, skip_none, skip_twice, eat_rest}
use Rattle.grammar.specs.Grammar.{solid, ReadPipeline}
use Rattle.grammar.proofs.BlankLaws.{solid_skip}
use Rattle.grammar.proofs.TokenLaws.{nil_both}
use Rattle.grammar.proofs.WholeLaws.{pipeline_whole}
use Rattle.predicate.specs.declared.atom.Member.{Member}
use Rattle.meaning.specs.Value.{Sort, Outcome, collection, refused}
use Rattle.meaning.specs.Calls.{is_empty}
use Rattle.meaning.specs.Pipeline.{eval_pipeline}
use Rattle.meaning.specs.Compare.{compared, operator_of, integer_of}
use Rattle.meaning.specs.Outcome.{first_inner, outcome}
use Rattle.meaning.proofs.PipelineLaws.{IsCollection, compared_collection, ending, outcome_ending}

-- ---- nothing but blanks is left where no token is seen

keeps_pipeline : Keeps parse_pipeline
unfolding parse_pipeline
keeps_pipeline = search (keeping, keeps_parse) depth 20

kinds_rest : (c : List ℕ) → Kinds (parse_pipeline (lex c)).rest
kinds_rest c =
    kinds_right (tokens_of (parse_pipeline (lex c)).made) (parse_pipeline (lex c)).rest
    (rw (keeps_pipeline.keeps (lex c)).kept (kinds_lex c))

blanks_left : (ts : List Token) → Kinds ts → at_kind NONE (skip_ws ts) ≡ true → solid ts ≡ []
unfolding solid at_kind
blanks_left ts k e = sym (solid_skip ts) ∙ ap solid (skip_none ts k (rw skip_twice at (eqb-true _ _ e)))

nothing_left : (ts : List Token) → (left_over ts).errors ≡ [] → at_kind NONE ts ≡ true
unfolding left_over
nothing_left ts e = whether (at_kind NONE ts) (λ b. b) (λ b. absurd (cons≢nil (rw (b, choose) at e)))

-- ---- by the end of the rule

-- no errors came, before the end and at it
record Ended (es : List Error) (r : List Token) : Type 0 where
  clean : es ≡ []
  spent : (left_over (eat_ws r).rest).errors ≡ []

no_comparison : (x : Bool) (operator integer : ℕ) (o : Outcome) → IsCollection (cond x (compared operator integer o) (refused ParseErrors)) → ⊥
no_comparison true operator integer o h = compared_collection operator integer o h
no_comparison false operator integer o h = h

ended_without : (es fs gs : List Error) (o : Outcome) → IsCollection (cond (is_empty ((es ++ fs) ++ gs)) o (refused ParseErrors)) → (es ≡ []) × (gs ≡ [])
ended_without es fs gs o h = go ((es ++ fs) ++ gs) refl h
  where
    go : (x : List Error) → (es ++ fs) ++ gs ≡ x → IsCollection (cond (is_empty x) o (refused ParseErrors)) → (es ≡ []) × (gs ≡ [])
    go [] e k = let n = nil_both (es ++ fs) gs e in ((nil_both es fs n.0).0, n.1)
    go (y ∷ x) e k = absurd k

ended : (b : Bool) (es : List Error) (r : List Token) (o : Outcome) → IsCollection (ending b es r o) → Ended es r
ended true es r o h =
    let d : Parsed = bump r in
    let e : Parsed = bump d.rest in
    let f : Parsed = eat_ws e.rest in
    let errors = (((es ++ d.errors) ++ e.errors) ++ f.errors) ++ (left_over f.rest).errors in
    absurd (no_comparison (is_empty errors) (operator_of (d.made ⊹ e.made)) (integer_of (d.made ⊹ e.made)) o h)
ended false es r o h = let e = ended_without es (eat_ws r).errors (left_over (eat_ws r).rest).errors o h in record { clean = e.0; spent = e.1 }

-- what comes to a collection was read without errors, up to blanks
record ReadClean (c : List ℕ) : Type 0 where
  clean : (parse_pipeline (lex c)).errors ≡ []
  spent : solid (parse_pipeline (lex c)).rest ≡ []

collection_clean : (image c : List ℕ) (sort : Sort) (members : List Member) → outcome image c ≡ collection sort members → ReadClean c
unfolding outcome parse_expr
collection_clean image c sort members h =
    let x : Parsed = parse_pipeline (lex c) in
    let o : Outcome = eval_pipeline image (first_inner x.made) in
    let e : Ended x.errors x.rest =
    ended (has_count_compare_ahead (lex c)) x.errors x.rest o (subst IsCollection (sym (sym (outcome_ending image (lex c)) ∙ h)) tt)
    in
    record {
      clean = e.clean;
      spent = blanks_left x.rest (kinds_rest c) (rw (eat_rest x.rest) at (nothing_left (eat_ws x.rest).rest e.spent));
    }

-- so it is a source with a list of calls
pub collection_read : (image c : List ℕ) (sort : Sort) (members : List Member) → outcome image c ≡ collection sort members → ReadPipeline c
collection_read image c sort members h =
    let e : ReadClean c = collection_clean image c sort members h in
    pipeline_whole c e.clean e.spent

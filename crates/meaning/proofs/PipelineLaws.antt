-- What a pipeline of the grammar comes to, and how a rule goes on after it. Assumes nothing.
use mathlib.Core.Path.{◌≡◌, refl, sym, ap, ◌∙◌, subst}
use mathlib.Core.Bool.{Bool, true, false, cond, and-false}
use mathlib.Core.List.{List, [], ◌∷◌, ◌++◌, map, append_assoc, append-nil}
use Prim.Native.Nat.{ℕ}
use lib.Dec.{ltb}
use Rattle.syntax.specs.Kind.{R_PAREN, NONE, ROOT, COUNT_COMPARE_EXPR}
use Rattle.syntax.specs.Text.{ascii}
use Rattle.syntax.specs.declared.refusal.Refusal.TheVariants.{ParseErrors}
use Rattle.syntax.proofs.BoolLaws.{whether}
use Rattle.lexer.specs.Lex.{Token, lex}
use Rattle.trees.specs.Green.{Forest, nil, leaf, ◌⊹◌}
use Rattle.trees.specs.Look.{is_blank, is_comparison, ends_in_comparison, has_count_compare_ahead}
use Rattle.trees.specs.Parse.{Error, Parsed, Parser, join, ◌▹◌, in_node, choose, bump, eat_ws, left_over, Calls, parse, parse_pipeline, parse_pipeline_or_count_compare, parse_root, parse_expr}
use Rattle.grammar.specs.Grammar.{solid, dot, word, opening, closing, OrGroup, Predicate, Source, components, analysis, Call as Written, where_call, all_call, any_call, none_call, count_call, features_call, diagnostics_call, source_tokens, calls_tokens, ReadWhole, ReadPipeline}
use Rattle.grammar.specs.Trees.{predicate_tree, call_tree, calls_tree, source_tree, pipeline_then}
use Rattle.grammar.specs.Texts.{Method as Taking, method_name, call_text}
use Rattle.grammar.proofs.BlankLaws.{root_solid}
use Rattle.grammar.proofs.ReadLaws.{⊹-assoc, pipeline_read}
use Rattle.grammar.proofs.TextLaws.{method_call, call_text_lem, call_tokens_lem, call_pipeline, count_then, count_tokens}
use Rattle.predicate.specs.declared.atom.Member.{Member}
use Rattle.predicate.specs.Truth.{first_text, literal_of}
use Rattle.meaning.specs.Value.{Sort, Outcome, collection, boolean, refused}
use Rattle.meaning.specs.declared.Method.TheVariants.{Where, All, Any, None, Count, Features, Diagnostics}
use Rattle.meaning.specs.Calls.{Call, is_empty, call_gives, calls_give}
use Rattle.meaning.specs.Pipeline.{all_components, diagnostics_of, source_of, calls_of, eval_pipeline}
use Rattle.meaning.specs.Compare.{MAX_INTEGER, against, compared, operator_of, integer_of}
use Rattle.meaning.specs.Outcome.{first_kind, first_inner, eval_count_compare, eval_node, outcome_of, outcome}
use Rattle.meaning.proofs.SpacingLaws.{outcome_strip}
use Rattle.meaning.proofs.HoldLaws.{content_quoted}

-- ---- the calls of the grammar, and those that are read from their trees

abbrev pub args_for : Predicate OrGroup → Forest
args_for p = leaf opening (predicate_tree p ⊹ leaf closing nil)

abbrev pub call_for : Written → Call
call_for (where_call p) = record { method = Where; args = args_for p }
call_for (all_call p) = record { method = All; args = args_for p }
call_for (any_call p) = record { method = Any; args = args_for p }
call_for (none_call p) = record { method = None; args = args_for p }
call_for count_call = record { method = Count; args = leaf opening (leaf closing nil) }
call_for features_call = record { method = Features; args = nil }
call_for diagnostics_call = record { method = Diagnostics; args = nil }

call_tree_lem : (c : Written) (f : Forest) → calls_of (call_tree c ⊹ f) ≡ call_for c ∷ calls_of f
unfolding call_tree calls_of ◌⊹◌
call_tree_lem (where_call p) f = refl
call_tree_lem (all_call p) f = refl
call_tree_lem (any_call p) f = refl
call_tree_lem (none_call p) f = refl
call_tree_lem count_call f = refl
call_tree_lem features_call f = refl
call_tree_lem diagnostics_call f = refl

calls_tree_lem : (cs : List Written) (f : Forest) → calls_of (calls_tree cs ⊹ f) ≡ map call_for cs ++ calls_of f
unfolding calls_tree ◌⊹◌
calls_tree_lem [] f = refl
calls_tree_lem (c ∷ cs) f =
    ap calls_of (⊹-assoc (call_tree c) (calls_tree cs) f)
    ∙ call_tree_lem c (calls_tree cs ⊹ f)
    ∙ ap (λ (l : List Call). call_for c ∷ l) (calls_tree_lem cs f)

pub give_append : (image : List ℕ) (xs ys : List Call) (o : Outcome) → calls_give image (xs ++ ys) o ≡ calls_give image ys (calls_give image xs o)
unfolding calls_give
give_append image [] ys o = refl
give_append image (x ∷ xs) ys o = give_append image xs ys (call_gives image x o)

-- what a source comes to, and calls after it
abbrev pub source_means : List ℕ → Source → Outcome
source_means image components = all_components image
source_means image (analysis name) = diagnostics_of image name

abbrev pub calls_mean : List ℕ → List Written → Outcome → Outcome
calls_mean image cs o = calls_give image (map call_for cs) o

source_tree_lem : (image : List ℕ) (s : Source) (f : Forest) → source_of image (source_tree s ⊹ f) ≡ source_means image s
unfolding source_tree source_of literal_of first_text ◌⊹◌
source_tree_lem image components f = refl
source_tree_lem image (analysis name) f = ap (diagnostics_of image) (content_quoted name)

calls_source : (s : Source) (f : Forest) → calls_of (source_tree s ⊹ f) ≡ calls_of f
unfolding source_tree calls_of ◌⊹◌
calls_source components f = refl
calls_source (analysis name) f = refl

-- a pipeline, and what goes on after it
pipeline_tree : (image : List ℕ) (s : Source) (cs : List Written) (f : Forest)
    → eval_pipeline image (source_tree s ⊹ (calls_tree cs ⊹ f)) ≡ calls_give image (calls_of f) (calls_mean image cs (source_means image s))
unfolding eval_pipeline
pipeline_tree image s cs f =
    rw (source_tree_lem image s (calls_tree cs ⊹ f), calls_source s (calls_tree cs ⊹ f), calls_tree_lem cs f)
    (give_append image (map call_for cs) (calls_of f) (source_means image s))

-- ---- how a rule ends after its pipeline

-- by whether it is a comparison, the pipeline's errors, the tokens that it leaves, and what it came to
abbrev pub ending : Bool → List Error → List Token → Outcome → Outcome
ending true es r o =
    let d : Parsed = bump r in
    let e : Parsed = bump d.rest in
    let f : Parsed = eat_ws e.rest in
    cond (is_empty ((((es ++ d.errors) ++ e.errors) ++ f.errors) ++ (left_over f.rest).errors))
    (compared (operator_of (d.made ⊹ e.made)) (integer_of (d.made ⊹ e.made)) o)
    (refused ParseErrors)
ending false es r o =
    let f : Parsed = eat_ws r in
    cond (is_empty ((es ++ f.errors) ++ (left_over f.rest).errors)) o (refused ParseErrors)

pub outcome_ending : (image : List ℕ) (ts : List Token)
    → outcome_of image (parse_root ts)
    ≡ ending (has_count_compare_ahead ts) (parse_pipeline ts).errors (parse_pipeline ts).rest (eval_pipeline image (first_inner (parse_pipeline ts).made))
unfolding outcome_of parse_root parse_pipeline_or_count_compare parse_pipeline eval_node eval_count_compare first_kind first_inner operator_of integer_of first_text choose in_node ◌▹◌ join ◌⊹◌
outcome_ending image ts = go (has_count_compare_ahead ts)
  where
    top : Bool → Parser
    top b us = elim b [ true ↦ in_node COUNT_COMPARE_EXPR (parse_pipeline ▹ bump ▹ bump) us | false ↦ parse_pipeline us ]

    go : (b : Bool) → outcome_of image (in_node ROOT (top b ▹ eat_ws ▹ left_over) ts)
        ≡ ending b (parse_pipeline ts).errors (parse_pipeline ts).rest (eval_pipeline image (first_inner (parse_pipeline ts).made))
    go true = refl
    go false = refl

-- the tokens of a pipeline, and tokens v after it: what v adds to what the pipeline comes to
abbrev goes_on : List ℕ → Bool → List Token → Outcome → Outcome
goes_on image b v o = ending b (parse Calls v).errors (parse Calls v).rest (calls_give image (calls_of (parse Calls v).made) o)

tokens_outcome : (image : List ℕ) (s : Source) (cs : List Written) (v : List Token)
    → let ts = source_tokens s ++ (calls_tokens cs ++ v) in
    outcome_of image (parse_root ts) ≡ goes_on image (has_count_compare_ahead ts) v (calls_mean image cs (source_means image s))
unfolding pipeline_then first_inner
tokens_outcome image s cs v =
    outcome_ending image (source_tokens s ++ (calls_tokens cs ++ v))
    ∙ rw (pipeline_read s cs v, pipeline_tree image s cs (parse Calls v).made)

-- a text has the outcome of its tokens that are no blanks
pub text_outcome : (image t : List ℕ) → outcome image t ≡ outcome_of image (parse_root (solid (lex t)))
unfolding outcome parse_expr
text_outcome image t = sym (outcome_strip image (parse_root (lex t))) ∙ ap (outcome_of image) (sym (root_solid (lex t)))

-- so two texts whose tokens that are no blanks agree have one outcome
pub spacing_never_matters : (image t t' : List ℕ) → solid (lex t) ≡ solid (lex t') → outcome image t ≡ outcome image t'
spacing_never_matters image t t' e =
    text_outcome image t ∙ ap (λ (ts : List Token). outcome_of image (parse_root ts)) e ∙ sym (text_outcome image t')

-- ---- "The comparison form is chosen by the last two non-blank tokens": after a closing bracket by what follows it alone

ends_here : (a : ℕ) (v : List Token) → ends_in_comparison a R_PAREN v ≡ ends_in_comparison NONE R_PAREN v
unfolding ends_in_comparison
ends_here a [] = and-false (is_comparison a) ∙ sym (and-false (is_comparison NONE))
ends_here a (t ∷ v) =
    whether (is_blank t) (λ e. rw (e, ends_in_comparison) (ends_here a v)) (λ e. rw (e, ends_in_comparison))

ends_closed : (a b : ℕ) (us v : List Token) → ends_in_comparison a b (us ++ (closing ∷ v)) ≡ ends_in_comparison NONE R_PAREN v
unfolding ends_in_comparison
ends_closed a b [] v = ends_here b v
ends_closed a b (u ∷ us) v =
    whether (is_blank u) (λ e. rw (e, ends_in_comparison) (ends_closed a b us v)) (λ e. rw (e, ends_in_comparison) (ends_closed b u.kind us v))

-- what tokens v after a closing bracket add
abbrev pub after : List ℕ → List Token → Outcome → Outcome
after image v o = goes_on image (ends_in_comparison NONE R_PAREN v) v o

-- nothing adds nothing
pub after_nothing : (image : List ℕ) (o : Outcome) → after image (solid (lex [])) o ≡ o
unfolding lex solid parse ends_in_comparison eat_ws left_over calls_of calls_give
after_nothing image o = refl

-- ---- texts: a pipeline of the grammar, and calls after it

-- what it comes to
abbrev pub means : (image : List ℕ) {c : List ℕ} → ReadPipeline c → Outcome
means image r = calls_mean image r.calls (source_means image r.source)

-- one call more
mean_more : (image : List ℕ) (cs : List Written) (c : Written) (o : Outcome) → calls_mean image (cs ++ (c ∷ [])) o ≡ call_gives image (call_for c) (calls_mean image cs o)
unfolding calls_give
mean_more image [] c o = refl
mean_more image (d ∷ cs) c o = mean_more image cs c (call_gives image (call_for d) o)

-- a text whose tokens are those of a pipeline and of one call more, which ends with a bracket, and those of a text z
one_more : (image : List ℕ) {c : List ℕ} (r : ReadPipeline c) (call : Written) (t z : List ℕ) (us : List Token)
    → solid (lex t) ≡ source_tokens r.source ++ (calls_tokens (r.calls ++ (call ∷ [])) ++ solid (lex z))
    → solid (lex t) ≡ solid (lex c) ++ (us ++ (closing ∷ solid (lex z)))
    → outcome image t ≡ after image (solid (lex z)) (call_gives image (call_for call) (means image r))
unfolding has_count_compare_ahead
one_more image {c} r call t z us e b =
    let cs = r.calls ++ (call ∷ []) in
    let v = solid (lex z) in
    let flag : has_count_compare_ahead (source_tokens r.source ++ (calls_tokens cs ++ v)) ≡ ends_in_comparison NONE R_PAREN v =
    ap has_count_compare_ahead (sym e ∙ b ∙ sym (append_assoc (solid (lex c)) us (closing ∷ v))) ∙ ends_closed NONE NONE (solid (lex c) ++ us) v
    in
    text_outcome image t
    ∙ ap (λ (ts : List Token). outcome_of image (parse_root ts)) e
    ∙ tokens_outcome image r.source cs v
    ∙ rw (flag, mean_more image r.calls call (source_means image r.source))

-- a method with a predicate after a pipeline, and a text z after that
pub call_outcome : (image : List ℕ) {c p : List ℕ} (r : ReadPipeline c) (m : Taking) (q : ReadWhole p) (z : List ℕ)
    → outcome image (c ++ call_text m p z) ≡ after image (solid (lex z)) (call_gives image (call_for (method_call m q.predicate)) (means image r))
call_outcome image {c} {p} r m q z =
    one_more image r (method_call m q.predicate) (c ++ call_text m p z) z (dot ∷ word (method_name m) ∷ opening ∷ solid (lex p)) (call_tokens_lem r m q z) (call_text_lem r m q z)

-- `.count()` after a pipeline
pub count_outcome : (image : List ℕ) {c : List ℕ} (r : ReadPipeline c) (z : List ℕ)
    → outcome image (c ++ (ascii ".count()" ++ z)) ≡ after image (solid (lex z)) (call_gives image (call_for count_call) (means image r))
count_outcome image {c} r z =
    one_more image r count_call (c ++ (ascii ".count()" ++ z)) z (dot ∷ word "count" ∷ opening ∷ []) (count_tokens r z) (count_then r z)

-- a pipeline with one call more comes to what the call gives
pub call_means : (image : List ℕ) {c p : List ℕ} (r : ReadPipeline c) (m : Taking) (q : ReadWhole p)
    → means image (call_pipeline r m q) ≡ call_gives image (call_for (method_call m q.predicate)) (means image r)
call_means image r m q = mean_more image r.calls (method_call m q.predicate) (source_means image r.source)

-- only a pipeline comes to a collection, and then its calls do
abbrev pub IsCollection : Outcome → Type 0
IsCollection (collection sort members) = Unit
IsCollection (boolean value warned) = ⊥
IsCollection (Outcome.count n) = ⊥
IsCollection (refused r) = ⊥

pub compared_collection : (operator integer : ℕ) (o : Outcome) → IsCollection (compared operator integer o) → ⊥
unfolding compared against
compared_collection operator integer (collection sort members) h = whether (ltb MAX_INTEGER integer) (λ e. rw e at h) (λ e. rw e at h)
compared_collection operator integer (boolean value warned) h = h
compared_collection operator integer (Outcome.count n) h = whether (ltb MAX_INTEGER integer) (λ e. rw e at h) (λ e. rw e at h)
compared_collection operator integer (refused r) h = h

collected : (image : List ℕ) (b : Bool) (o : Outcome) (sort : Sort) (members : List Member) → goes_on image b [] o ≡ collection sort members → o ≡ collection sort members
unfolding parse eat_ws bump left_over calls_of calls_give
collected image true o sort members h = absurd (compared_collection _ _ o (subst IsCollection (sym h) tt))
collected image false o sort members h = h

pub collection_means : (image : List ℕ) {c : List ℕ} (r : ReadPipeline c) (sort : Sort) (members : List Member)
    → outcome image c ≡ collection sort members → means image r ≡ collection sort members
collection_means image {c} r sort members h =
    let ts = source_tokens r.source ++ (calls_tokens r.calls ++ []) in
    let e : solid (lex c) ≡ ts = r.whole ∙ ap (λ (us : List Token). source_tokens r.source ++ us) (sym (append-nil (calls_tokens r.calls))) in
    collected image (has_count_compare_ahead ts) (means image r) sort members
    (sym (tokens_outcome image r.source r.calls []) ∙ ap (λ (us : List Token). outcome_of image (parse_root us)) (sym e) ∙ sym (text_outcome image c) ∙ h)

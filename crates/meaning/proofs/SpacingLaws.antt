-- Blanks never matter to what a rule comes to: a green tree without them has the same meaning. Assumes nothing.
use mathlib.Core.Path.{◌≡◌, refl, sym, ap, ◌∙◌}
use mathlib.Core.Bool.{Bool, true, false}
use mathlib.Core.List.{List, [], ◌∷◌}
use Prim.Native.Nat.{ℕ}
use native.Mathlib.Omega.{arith}
use borrow.Author.Tests.{eqb-true, ne_eqb}
use lib.Dec.{eqb}
use Rattle.syntax.specs.Kind.{WHITESPACE, IDENT, STRING_LIT, INT_LIT, DOT_CALL, CALL_ARGS, LITERAL}
use Rattle.syntax.proofs.BoolLaws.{whether}
use Rattle.lexer.specs.Lex.{Token}
use Rattle.trees.specs.Green.{Forest, nil, leaf, node}
use Rattle.trees.specs.Look.{is_blank, is_comparison}
use Rattle.trees.specs.Parse.{Error, Parsed}
use Rattle.grammar.specs.Blanks.{no_blanks, solid_errors, strip}
use Rattle.predicate.specs.declared.atom.Member.{Member}
use Rattle.predicate.specs.Truth.{first_text, literal_of, has, message_contains, or_after, joined_by, joined, NodeSort, binary, unary, paren, ident, call, containing, compare, other, sort_of, settle, truths, first_of, truth}
use Rattle.meaning.specs.Value.{Outcome, collection, boolean, refused, sort_kind}
use Rattle.meaning.specs.declared.Method.{Method}
use Rattle.meaning.specs.Calls.{gives, is_empty, on_members, by_entry, call_gives, calls_give}
use Rattle.meaning.specs.Pipeline.{source_of, method_of, args_of, call_of, calls_of, eval_pipeline}
use Rattle.meaning.specs.Compare.{operator_of, integer_of, decimal}
use Rattle.meaning.specs.Outcome.{first_kind, first_inner, eval_count_compare, eval_node, outcome_of}

-- what passes over a token gives the same without it where it is blank
leaf_passed : {A : Type 0} (of : Forest → A) {x : A} (t : Token) (f : Forest) → ((g : Forest) → of (leaf t g) ≡ of g) → of (no_blanks f) ≡ x → of (no_blanks (leaf t f)) ≡ x
unfolding no_blanks
leaf_passed of t f same e = whether (is_blank t) (λ b. rw (b, no_blanks) e) (λ b. rw (b, no_blanks, same (no_blanks f)) e)

-- a token's text is looked for by a kind that is no blank's
pub text_solid : (kind : ℕ) → (kind ≡ WHITESPACE → ⊥) → (f : Forest) → first_text kind (no_blanks f) ≡ first_text kind f
unfolding no_blanks first_text
text_solid kind n nil = refl
text_solid kind n (leaf t f) =
    let ih = text_solid kind n f in
    whether (is_blank t)
    (λ e. rw (e, no_blanks, ne_eqb t.kind kind (λ q. n (sym q ∙ eqb-true _ _ e)), first_text) ih)
    (λ e. rw (e, no_blanks) (whether (eqb t.kind kind) (λ q. rw (q, first_text)) (λ q. rw (q, first_text) ih)))
text_solid kind n (node k s f) = text_solid kind n f

pub literal_solid : (f : Forest) → literal_of (no_blanks f) ≡ literal_of f
unfolding no_blanks literal_of
literal_solid nil = refl
literal_solid (leaf t f) = leaf_passed literal_of t f (λ g. refl) (literal_solid f)
literal_solid (node k s f) =
    whether (eqb k LITERAL) (λ e. rw (e, literal_of, text_solid STRING_LIT (λ q. omega arith) s)) (λ e. rw (e, literal_of) (literal_solid f))

joined_solid : (or before : Bool) (f : Forest) (ts : List Bool) → joined or before (no_blanks f) ts ≡ joined or before f ts
unfolding no_blanks joined
joined_solid or before nil ts = refl
joined_solid or before (leaf t f) ts =
    whether (is_blank t)
    (λ e. let q : t.kind ≡ WHITESPACE = eqb-true _ _ e in rw (e, no_blanks, q) (joined_solid or before f ts))
    (λ e. rw (e, no_blanks) (joined_solid (or_after t.kind or) before f ts))
joined_solid or before (node k s f) [] = refl
joined_solid or before (node k s f) (v ∷ ts) = joined_solid or (joined_by or before v) f ts

module _ (image : List ℕ) (m : Member) where
  settle_solid : (sort : NodeSort) (f : Forest) (ts : List Bool) → settle image m sort (no_blanks f) ts ≡ settle image m sort f ts
  unfolding settle
  settle_solid binary f ts = joined_solid false true f ts
  settle_solid unary f ts = refl
  settle_solid paren f ts = refl
  settle_solid ident f ts = refl
  settle_solid call f ts = ap (has image m) (literal_solid f)
  settle_solid containing f ts = ap (message_contains image m) (literal_solid f)
  settle_solid compare f ts = rw (text_solid IDENT (λ q. omega arith) f, literal_solid f)
  settle_solid other f ts = refl

  truths_solid : (f : Forest) → truths image m (no_blanks f) ≡ truths image m f
  unfolding no_blanks truths
  truths_solid nil = refl
  truths_solid (leaf t f) = leaf_passed (truths image m) t f (λ g. refl) (truths_solid f)
  truths_solid (node k s f) = rw (truths_solid s, truths_solid f, settle_solid (sort_of k) s (truths image m s))

  pub truth_solid : (f : Forest) → truth image m (no_blanks f) ≡ truth image m f
  unfolding truth
  truth_solid f = ap first_of (truths_solid f)

args_solid : (f : Forest) → args_of (no_blanks f) ≡ no_blanks (args_of f)
unfolding no_blanks args_of
args_solid nil = refl
args_solid (leaf t f) = leaf_passed args_of t f (λ g. refl) (args_solid f)
args_solid (node k s f) = whether (eqb k CALL_ARGS) (λ e. rw (e, args_of)) (λ e. rw (e, args_of) (args_solid f))

inner_solid : (f : Forest) → first_inner (no_blanks f) ≡ no_blanks (first_inner f)
unfolding no_blanks first_inner
inner_solid nil = refl
inner_solid (leaf t f) = leaf_passed first_inner t f (λ g. refl) (inner_solid f)
inner_solid (node k s f) = refl

kind_solid : (f : Forest) → first_kind (no_blanks f) ≡ first_kind f
unfolding no_blanks first_kind
kind_solid nil = refl
kind_solid (leaf t f) = leaf_passed first_kind t f (λ g. refl) (kind_solid f)
kind_solid (node k s f) = refl

operator_solid : (f : Forest) → operator_of (no_blanks f) ≡ operator_of f
unfolding no_blanks operator_of
operator_solid nil = refl
operator_solid (leaf t f) =
    let ih = operator_solid f in
    whether (is_blank t)
    (λ e. let q : t.kind ≡ WHITESPACE = eqb-true _ _ e in rw (e, no_blanks, q, operator_of) ih)
    (λ e. rw (e, no_blanks) (whether (is_comparison t.kind) (λ q. rw (q, operator_of)) (λ q. rw (q, operator_of) ih)))
operator_solid (node k s f) = operator_solid f

integer_solid : (f : Forest) → integer_of (no_blanks f) ≡ integer_of f
unfolding integer_of
integer_solid f = ap decimal (text_solid INT_LIT (λ q. omega arith) f)

module _ (image : List ℕ) where
  -- predicates that are true alike give alike
  pub call_alike : (method : Method) (a b : Forest) (o : Outcome) → ((m : Member) → truth image m a ≡ truth image m b)
      → call_gives image (record { method = method; args = a }) o ≡ call_gives image (record { method = method; args = b }) o
  unfolding call_gives
  call_alike method a b (collection sort members) e = ap (by_entry (gives method (sort_kind sort))) (λ i. on_members image method (λ m. e m i) sort members)
  call_alike method a b (boolean value warned) e = refl
  call_alike method a b (Outcome.count n) e = refl
  call_alike method a b (refused r) e = refl

  call_solid : (f : Forest) (o : Outcome) → call_gives image (call_of (no_blanks f)) o ≡ call_gives image (call_of f) o
  call_solid f o =
      rw (text_solid IDENT (λ q. omega arith) f, args_solid f)
      (call_alike (method_of (first_text IDENT f)) (no_blanks (args_of f)) (args_of f) o (λ m. truth_solid image m (args_of f)))

  calls_solid : (f : Forest) (o : Outcome) → calls_give image (calls_of (no_blanks f)) o ≡ calls_give image (calls_of f) o
  unfolding no_blanks calls_of calls_give
  calls_solid nil o = refl
  calls_solid (leaf t f) o = leaf_passed (λ g. calls_give image (calls_of g) o) t f (λ g. refl) (calls_solid f o)
  calls_solid (node k s f) o =
      whether (eqb k DOT_CALL) (λ e. rw (e, calls_of, call_solid s o) (calls_solid f (call_gives image (call_of s) o)))
      (λ e. rw (e, calls_of) (calls_solid f o))

  source_solid : (f : Forest) → source_of image (no_blanks f) ≡ source_of image f
  unfolding no_blanks source_of
  source_solid nil = refl
  source_solid (leaf t f) = leaf_passed (source_of image) t f (λ g. refl) (source_solid f)
  source_solid (node k s f) = rw (literal_solid s)

  pipeline_solid : (f : Forest) → eval_pipeline image (no_blanks f) ≡ eval_pipeline image f
  unfolding eval_pipeline
  pipeline_solid f = rw (source_solid f) (calls_solid f (source_of image f))

  compare_solid : (f : Forest) → eval_count_compare image (no_blanks f) ≡ eval_count_compare image f
  unfolding eval_count_compare
  compare_solid f = rw (operator_solid f, integer_solid f, inner_solid f, pipeline_solid (first_inner f))

  node_solid : (f : Forest) → eval_node image (no_blanks f) ≡ eval_node image f
  unfolding eval_node
  node_solid f = rw (kind_solid f, inner_solid f, compare_solid (first_inner f), pipeline_solid (first_inner f))

  errors_solid : (es : List Error) → is_empty (solid_errors es) ≡ is_empty es
  unfolding solid_errors
  errors_solid [] = refl
  errors_solid (e ∷ es) = refl

  -- the outcome of what was read is that of what was read without blanks
  pub outcome_strip : (x : Parsed) → outcome_of image (strip x) ≡ outcome_of image x
  unfolding outcome_of strip
  outcome_strip x = rw (errors_solid x.errors, inner_solid x.made, node_solid (first_inner x.made))

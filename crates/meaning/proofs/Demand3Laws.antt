-- Demand 3 holds. By the laws of texts (`call_outcome`), of truth (`predicate_holds`) and of members kept. Assumes nothing.
use Rattle.std.specs.Prelude.{Ok}
use mathlib.Core.Path.{◌≡◌, sym, ap, ap₂, ◌∙◌}
use mathlib.Core.Bool.{Bool, false, not, ◌&&◌, ◌||◌}
use mathlib.Core.List.{List, [], ◌++◌, append_assoc}
use Prim.Native.Nat.{ℕ, ◌+◌}
use lib.Dec.{eqb, ltb}
use lib.ListN.{length}
use Rattle.syntax.specs.Text.{ascii}
use Rattle.lexer.specs.Lex.{lex}
use Rattle.trees.specs.Green.{leaf, nil}
use Rattle.trees.specs.Parse.{Parsed, parse, OrExpr}
use Rattle.grammar.specs.Grammar.{solid, closing, where_call, all_call, any_call, none_call, count_call, ReadWhole, ReadPipeline}
use Rattle.grammar.specs.Blanks.{strip}
use Rattle.grammar.specs.Texts.{Method as Taking, call_text, where_method, all_method, any_method, none_method, and_text, or_text, not_text}
use Rattle.grammar.proofs.WholeLaws.{whole_tree}
use Rattle.grammar.proofs.TextLaws.{method_call, call_pipeline, and_whole, or_whole, not_whole}
use Rattle.predicate.specs.declared.atom.Member.{Member}
use Rattle.predicate.specs.Truth.{truth, truths}
use Rattle.meaning.specs.Value.{Sort, Outcome, collection, boolean}
use Rattle.meaning.specs.Calls.{kept, is_empty, true_for, on_members, call_gives, how_many}
use Rattle.meaning.specs.Outcome.{Lent, check_run, outcome, run}
use Rattle.meaning.specs.Holds.{holds}
use Rattle.meaning.specs.Demand3.{true_of, members_for, count_for, where_text, any_text, none_text, all_text, count_text, ComesTo, Agree, Demand3}
use Rattle.meaning.proofs.MemberLaws.{kept_kept, kept_same, kept_exchanged, kept_parts, kept_sums, some_count, none_count, every_count}
use Rattle.meaning.proofs.KindLaws.{where_taken, quantifier_taken, count_taken}
use Rattle.meaning.proofs.SpacingLaws.{truth_solid}
use Rattle.meaning.proofs.HoldLaws.{predicate_holds, predicate_holds_before}
use Rattle.meaning.proofs.CollectionLaws.{collection_read}
use Rattle.meaning.proofs.PipelineLaws.{args_for, call_for, after, after_nothing, means, call_outcome, count_outcome, call_means, collection_means}

-- a rule that passes 1 to 8 comes to its outcome
run_passed : (rule image : List ℕ) (lent : Lent) → check_run rule image lent ≡ Ok tt → run rule image lent ≡ outcome image rule
unfolding run
run_passed rule image lent e = rw e

comes : (image rule : List ℕ) {o : Outcome} → outcome image rule ≡ o → ComesTo image rule o
comes image rule e lent h = run_passed rule image lent h ∙ e

agree : (image rule rule' : List ℕ) → outcome image rule ≡ outcome image rule' → Agree image rule rule'
agree image rule rule' e lent lent' h h' = run_passed rule image lent h ∙ e ∙ sym (run_passed rule' image lent' h')

-- ---- the truth of predicates read whole

module _ (image : List ℕ) where
  true_holds : {p : List ℕ} (r : ReadWhole p) (m : Member) → true_of image p m ≡ holds image m r.predicate
  unfolding strip
  true_holds {p} r m =
      sym (truth_solid image m (parse OrExpr (lex p)).made)
      ∙ ap (λ (x : Parsed). truth image m x.made) (whole_tree r)
      ∙ predicate_holds image m r.predicate

  -- `(P) and (Q)`, `(P) or (Q)`, `not (P)`
  module _ {p q : List ℕ} (r : ReadWhole p) (s : ReadWhole q) (m : Member) where
    true_and : true_of image (and_text p q) m ≡ (true_of image p m && true_of image q m)
    unfolding holds
    true_and = true_holds (and_whole r s) m ∙ ap₂ ◌&&◌ (sym (true_holds r m)) (sym (true_holds s m))

    true_or : true_of image (or_text p q) m ≡ (true_of image p m || true_of image q m)
    unfolding holds
    true_or = true_holds (or_whole r s) m ∙ ap₂ ◌||◌ (sym (true_holds r m)) (sym (true_holds s m))

  true_not : {p : List ℕ} (r : ReadWhole p) (m : Member) → true_of image (not_text p) m ≡ not (true_of image p m)
  unfolding holds
  true_not r m = true_holds (not_whole r) m ∙ ap not (sym (true_holds r m))

  -- a predicate as a call's argument
  true_for_lem : {p : List ℕ} (r : ReadWhole p) (m : Member) → true_for image (args_for r.predicate) m ≡ true_of image p m
  unfolding truth truths
  true_for_lem r m = predicate_holds_before image m r.predicate (leaf closing nil) ∙ sym (true_holds r m)

-- ---- each call on a collection

module _ (image : List ℕ) (sort : Sort) (members : List Member) where
  module _ {p : List ℕ} (r : ReadWhole p) where
    kept_for : kept (true_for image (args_for r.predicate)) members ≡ members_for image p members
    kept_for = kept_same (true_for image (args_for r.predicate)) (true_of image p) members (true_for_lem image r)

    where_gives : call_gives image (call_for (where_call r.predicate)) (collection sort members) ≡ collection sort (members_for image p members)
    unfolding call_gives on_members
    where_gives = where_taken sort _ ∙ ap (collection sort) kept_for

    any_gives : call_gives image (call_for (any_call r.predicate)) (collection sort members) ≡ boolean (ltb 0 (count_for image p members)) false
    unfolding call_gives on_members
    any_gives = quantifier_taken sort _ ∙ rw (some_count (true_for image (args_for r.predicate)) members, kept_for)

    none_gives : call_gives image (call_for (none_call r.predicate)) (collection sort members) ≡ boolean (eqb (count_for image p members) 0) (is_empty members)
    unfolding call_gives on_members
    none_gives = quantifier_taken sort _ ∙ rw (none_count (true_for image (args_for r.predicate)) members, kept_for)

    all_gives : call_gives image (call_for (all_call r.predicate)) (collection sort members) ≡ boolean (eqb (count_for image p members) (length members)) (is_empty members)
    unfolding call_gives on_members
    all_gives = quantifier_taken sort _ ∙ rw (every_count (true_for image (args_for r.predicate)) members, kept_for)

  count_gives : call_gives image (call_for count_call) (collection sort members) ≡ Outcome.count (length members)
  unfolding call_gives on_members
  count_gives = count_taken sort _

-- ---- texts

-- a text after a call is one after the pipeline that the call ends
after_call : (c p w : List ℕ) → (c ++ where_text p []) ++ w ≡ c ++ where_text p w
after_call c p w =
    append_assoc c (where_text p []) w ∙ ap (λ (x : List ℕ). c ++ (ascii ".where(" ++ x)) (append_assoc p (ascii ")") w)

-- a pipeline comes to a collection
record Collects (image : List ℕ) {c : List ℕ} (r : ReadPipeline c) (sort : Sort) (members : List Member) : Type 0 where
  given : means image r ≡ collection sort members

module _ {image c : List ℕ} {r : ReadPipeline c} {sort : Sort} {members : List Member} (h : Collects image r sort members) where
  -- C.M(P) z, for a method M that takes a predicate
  call_comes : {p : List ℕ} (m : Taking) (q : ReadWhole p) (z : List ℕ) {o : Outcome} → call_gives image (call_for (method_call m q.predicate)) (collection sort members) ≡ o
      → outcome image (c ++ call_text m p z) ≡ after image (solid (lex z)) o
  call_comes m q z e = call_outcome image r m q z ∙ ap (after image (solid (lex z))) (ap (call_gives image (call_for (method_call m q.predicate))) h.given ∙ e)

  -- C.where(P) z
  one_where : {p : List ℕ} (q : ReadWhole p) (z : List ℕ) → outcome image (c ++ where_text p z) ≡ after image (solid (lex z)) (collection sort (members_for image p members))
  one_where q z = call_comes where_method q z (where_gives image sort members q)

  -- C.where(P) is a pipeline that comes to these members
  where_collects : {p : List ℕ} (q : ReadWhole p) → Collects image (call_pipeline r where_method q) sort (members_for image p members)
  where_collects q = record { given = call_means image r where_method q ∙ ap (call_gives image (call_for (where_call q.predicate))) h.given ∙ where_gives image sort members q }

  -- C.count()
  all_counted : outcome image (c ++ count_text) ≡ Outcome.count (length members)
  all_counted =
      count_outcome image r [] ∙ after_nothing image _ ∙ ap (call_gives image (call_for count_call)) h.given ∙ count_gives image sort members

  -- C.any(P), C.none(P), C.all(P)
  any_outcome : {p : List ℕ} (q : ReadWhole p) → outcome image (c ++ any_text p []) ≡ boolean (ltb 0 (count_for image p members)) false
  any_outcome q = call_comes any_method q [] (any_gives image sort members q) ∙ after_nothing image _

  none_outcome : {p : List ℕ} (q : ReadWhole p) → outcome image (c ++ none_text p []) ≡ boolean (eqb (count_for image p members) 0) (is_empty members)
  none_outcome q = call_comes none_method q [] (none_gives image sort members q) ∙ after_nothing image _

  all_outcome : {p : List ℕ} (q : ReadWhole p) → outcome image (c ++ all_text p []) ≡ boolean (eqb (count_for image p members) (length members)) (is_empty members)
  all_outcome q = call_comes all_method q [] (all_gives image sort members q) ∙ after_nothing image _

module _ {image c : List ℕ} {r : ReadPipeline c} {sort : Sort} {members : List Member} (h : Collects image r sort members) where
  -- C.where(P).where(Q) z
  two_wheres : {p q : List ℕ} (s : ReadWhole p) (t : ReadWhole q) (z : List ℕ)
      → outcome image (c ++ where_text p (where_text q z)) ≡ after image (solid (lex z)) (collection sort (members_for image q (members_for image p members)))
  two_wheres {p} {q} s t z =
      ap (outcome image) (sym (after_call c p (where_text q z))) ∙ one_where (where_collects h s) t z

  -- C.where(P).count()
  where_counted : {p : List ℕ} (s : ReadWhole p) → outcome image (c ++ where_text p count_text) ≡ Outcome.count (count_for image p members)
  where_counted {p} s =
      ap (outcome image) (sym (after_call c p count_text)) ∙ all_counted (where_collects h s)

-- ---- the claim

-- the members for P and then Q, and those for Q and then P; those for `(P) and (Q)`
module _ (image : List ℕ) (members : List Member) {p q : List ℕ} (r : ReadWhole p) (s : ReadWhole q) where
  members_exchanged : members_for image p (members_for image q members) ≡ members_for image q (members_for image p members)
  members_exchanged = kept_exchanged (true_of image q) (true_of image p) members

  kept_and : members_for image (and_text p q) members ≡ kept (λ m. true_of image p m && true_of image q m) members
  kept_and = kept_same (true_of image (and_text p q)) (λ m. true_of image p m && true_of image q m) members (true_and image r s)

  members_and : members_for image (and_text p q) members ≡ members_for image q (members_for image p members)
  members_and = kept_and ∙ sym (kept_kept (true_of image p) (true_of image q) members)

  sums : count_for image p members + count_for image q members ≡ count_for image (and_text p q) members + count_for image (or_text p q) members
  sums =
      kept_sums (true_of image p) (true_of image q) members
      ∙ rw (kept_and, kept_same (true_of image (or_text p q)) (λ m. true_of image p m || true_of image q m) members (true_or image r s))

parts : (image : List ℕ) (members : List Member) {p : List ℕ} (r : ReadWhole p) (test : Member → Bool)
    → how_many test (members_for image p members) + how_many test (members_for image (not_text p) members) ≡ how_many test members
unfolding how_many
parts image members {p} r test =
    ap (λ (l : List Member). how_many test (members_for image p members) + how_many test l)
    (kept_same (true_of image (not_text p)) (λ m. not (true_of image p m)) members (true_not image r))
    ∙ kept_parts (true_of image p) test members

-- DEMAND 3
pub demand_3 : Demand3
demand_3 image c sort members e p q s t =
    let r : ReadPipeline c = collection_read image c sort members e in
    let h : Collects image r sort members = record { given = collection_means image r sort members e } in
    record {
      where_members = comes image _ (one_where h s [] ∙ after_nothing image _);
      where_where = comes image _ (two_wheres h s t [] ∙ after_nothing image _);
      where_exchanged = comes image _ (two_wheres h t s [] ∙ after_nothing image _ ∙ ap (collection sort) (members_exchanged image members s t));
      where_and = comes image _ (one_where h (and_whole s t) [] ∙ after_nothing image _ ∙ ap (collection sort) (members_and image members s t));
      after_exchanged = λ z. agree image _ _ (two_wheres h s t z ∙ rw (← members_exchanged image members s t) (sym (two_wheres h t s z)));
      after_and = λ z. agree image _ _ (two_wheres h s t z ∙ rw (← members_and image members s t) (sym (one_where h (and_whole s t) z)));
      not_members = comes image _ (one_where h (not_whole s) [] ∙ after_nothing image _);
      each_as_often = parts image members s;
      count_all = comes image _ (all_counted h);
      count_p = comes image _ (where_counted h s);
      count_q = comes image _ (where_counted h t);
      count_and = comes image _ (where_counted h (and_whole s t));
      count_or = comes image _ (where_counted h (or_whole s t));
      counts_sum = sums image members s t;
      any_by_count = comes image _ (any_outcome h s);
      none_by_count = comes image _ (none_outcome h s);
      all_by_count = comes image _ (all_outcome h s);
    }

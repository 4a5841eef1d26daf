-- DEMAND 3, in its own order, about texts. C is the text c, P and Q are the texts p and q, and z is any text set after. Refusals 5 to 8
-- turn away every image that is not well formed, so no run on one is spoken of. Assumes nothing: this is the statement; `demand_3` of
-- proofs/Demand3Laws proves it.
use Rattle.std.specs.Prelude.{ℕ, ◌+◌, ◌≡◌, Bool, false, List, [], ◌++◌, eqb, ltb, length, Ok}
use Rattle.syntax.specs.Text.{ascii}
use Rattle.lexer.specs.Lex.{lex}
use Rattle.trees.specs.Parse.{parse, OrExpr}
use Rattle.grammar.specs.Grammar.{ReadWhole}
use Rattle.grammar.specs.Texts.{where_method, all_method, any_method, none_method, call_text, and_text, or_text, not_text}
use Rattle.predicate.specs.declared.atom.Member.{Member}
use Rattle.predicate.specs.Truth.{truth}
use Rattle.meaning.specs.Value.{Sort, Outcome, collection, boolean, count}
use Rattle.meaning.specs.Calls.{kept, how_many, is_empty}
use Rattle.meaning.specs.Outcome.{outcome, Lent, check_run, run}

-- "P is true of a member (its sort and row) as demand 2's definitions say, by P, that member and the image alone"
abbrev pub true_of : (image p : List ℕ) → Member → Bool
true_of image p m = truth image m (parse OrExpr (lex p)).made

-- the members for which P is true, in order
abbrev pub members_for : (image p : List ℕ) → List Member → List Member
members_for image p members = kept (true_of image p) members

-- "P's count is the number of C's members for which P is true, C's count that of all, repeats counted"
abbrev pub count_for : (image p : List ℕ) → List Member → ℕ
count_for image p members = length (members_for image p members)

-- the calls as texts, with a text set after
abbrev pub where_text : (p z : List ℕ) → List ℕ
where_text p z = call_text where_method p z

abbrev pub any_text : (p z : List ℕ) → List ℕ
any_text p z = call_text any_method p z

abbrev pub none_text : (p z : List ℕ) → List ℕ
none_text p z = call_text none_method p z

abbrev pub all_text : (p z : List ℕ) → List ℕ
all_text p z = call_text all_method p z

abbrev pub count_text : List ℕ
count_text = ascii ".count()"

-- "each part of the claim holds wherever the rules that it names pass 1 to 8": a rule comes to an outcome, whatever tables are lent
abbrev pub ComesTo : (image rule : List ℕ) → Outcome → Type 0
ComesTo image rule o = (lent : Lent) → check_run rule image lent ≡ Ok tt → run rule image lent ≡ o

-- two rules come to the same: "outcomes agree if result or refusal, warning and members do"
abbrev pub Agree : (image rule rule' : List ℕ) → Type 0
Agree image rule rule' =
    (lent lent' : Lent) → check_run rule image lent ≡ Ok tt → check_run rule' image lent' ≡ Ok tt
    → run rule image lent ≡ run rule' image lent'

-- what is claimed of C, whose collection has this sort and these members, and of P and Q
pub record Claim (image c : List ℕ) (sort : Sort) (members : List Member) (p q : List ℕ) : Type 0 where
  -- "`C.where(P)` gives, in order, exactly C's members for which P is true by demand 2's definitions"
  pub where_members : ComesTo image (c ++ where_text p []) (collection sort (members_for image p members))
  -- "`C.where(P).where(Q)`, `C.where(Q).where(P)` and `C.where((P) and (Q))` are one list"
  pub where_where : ComesTo image (c ++ where_text p (where_text q [])) (collection sort (members_for image q (members_for image p members)))
  pub where_exchanged : ComesTo image (c ++ where_text q (where_text p [])) (collection sort (members_for image q (members_for image p members)))
  pub where_and : ComesTo image (c ++ where_text (and_text p q) []) (collection sort (members_for image q (members_for image p members)))
  -- "and the same calls or comparison set after each give the same outcome, refusals included"
  pub after_exchanged : (z : List ℕ) → Agree image (c ++ where_text p (where_text q z)) (c ++ where_text q (where_text p z))
  pub after_and : (z : List ℕ) → Agree image (c ++ where_text p (where_text q z)) (c ++ where_text (and_text p q) z)
  -- "the members for P and for `not (P)` together are C's, each as often": by any test on members, so by which member it is too
  pub not_members : ComesTo image (c ++ where_text (not_text p) []) (collection sort (members_for image (not_text p) members))
  pub each_as_often :
      (test : Member → Bool) → how_many test (members_for image p members) + how_many test (members_for image (not_text p) members) ≡ how_many test members
  -- "`C.where(P).count()` and `C.count()` give them"
  pub count_all : ComesTo image (c ++ count_text) (count (length members))
  pub count_p : ComesTo image (c ++ where_text p count_text) (count (count_for image p members))
  pub count_q : ComesTo image (c ++ where_text q count_text) (count (count_for image q members))
  pub count_and : ComesTo image (c ++ where_text (and_text p q) count_text) (count (count_for image (and_text p q) members))
  pub count_or : ComesTo image (c ++ where_text (or_text p q) count_text) (count (count_for image (or_text p q) members))
  -- "the counts for P and Q sum to those for `(P) and (Q)` and `(P) or (Q)`"
  pub counts_sum :
      count_for image p members + count_for image q members ≡ count_for image (and_text p q) members + count_for image (or_text p q) members
  -- "`any(P)`, `none(P)`, `all(P)` after C are true exactly when P's count is above 0, is 0, is C's; `all` and `none` warn exactly when C
  -- is empty"
  pub any_by_count : ComesTo image (c ++ any_text p []) (boolean (ltb 0 (count_for image p members)) false)
  pub none_by_count : ComesTo image (c ++ none_text p []) (boolean (eqb (count_for image p members) 0) (is_empty members))
  pub all_by_count : ComesTo image (c ++ all_text p []) (boolean (eqb (count_for image p members) (length members)) (is_empty members))

-- "For every well-formed image, either source, every list of calls after it that gives a collection C, the empty list too, and all
-- predicates P and Q that 01's grammar reads whole". That the definitions give c a collection says that it was read without parse errors;
-- law `collection_read` says that it then is a source with a list of calls
abbrev pub Demand3 : Type 0
Demand3 =
    (image c : List ℕ) (sort : Sort) (members : List Member) → outcome image c ≡ collection sort members
    → (p q : List ℕ) → ReadWhole p → ReadWhole q → Claim image c sort members p q

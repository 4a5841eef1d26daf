-- The forest that rows are read back as, by the row that they begin with; and what finding and passing over rows does to it.
-- Assumes nothing.
use mathlib.Core.Path.{◌≡◌, refl, sym, ap, ◌∙◌}
use mathlib.Core.Bool.{Bool, true, false, cond}
use mathlib.Core.List.{List, [], ◌∷◌, cons≢nil}
use Prim.Native.Nat.{ℕ, ◌+◌, ◌≤◌, ◌<◌}
use native.Mathlib.Omega.{arith}
use lib.Dec.{ltb}
use lib.ListN.{length, get_or, drop, drop_of_length-le}
use borrow.Author.Tests.{lt-ltb, le-ltb, ltb-true, ltb-false}
use Rattle.syntax.specs.Kind.{ROOT}
use Rattle.syntax.proofs.BoolLaws.{whether}
use Rattle.trees.specs.Green.{Forest, nil, leaf, node}
use Rattle.syntax.specs.Text.{bytes_between}
use Rattle.predicate.specs.Rows.{ROW, Place, below, past, token, child, place_of, grown, forest, kind_at, level_at, text_at, forest_from, children_at, is_row, is_below, rows_from, past_below}
use Rattle.predicate.specs.Eval.{FoundAt, FoundNowhere, Skips}
use Rattle.predicate.proofs.RowLaws.{by_found, row_not_below, row_there, row_missing, drop_row, few, short_forest}

-- where a row stands to a forest
pub place_below : (level k m : ℕ) → level < m → place_of level k m ≡ below
unfolding place_of
place_below level k m h = rw (lt-ltb level m h)

pub place_past : (level k m : ℕ) → m < level → place_of level k m ≡ past
unfolding place_of
place_past level k m h = rw (le-ltb level m (omega arith), lt-ltb m level h)

pub place_token : (level k m : ℕ) → m ≡ level → k < ROOT → place_of level k m ≡ token
unfolding place_of
place_token level k m e h = rw (le-ltb level m (omega arith), le-ltb m level (omega arith), lt-ltb k ROOT h)

pub place_child : (level k m : ℕ) → m ≡ level → ROOT ≤ k → place_of level k m ≡ child
unfolding place_of
place_child level k m e h = rw (le-ltb level m (omega arith), le-ltb m level (omega arith), le-ltb k ROOT h)

-- the forest from a place of a table on
module _ (rule tree : List ℕ) (level at : ℕ) where
  pub forest_none : is_row tree at ≡ false → forest_from rule tree level at ≡ nil
  unfolding forest_from
  forest_none h = short_forest rule level (drop at tree) (few tree at (row_missing tree at h))

  module _ (h : at + ROW ≤ length tree) where
    by_place : (p : Place) → place_of level (kind_at tree at) (level_at tree at) ≡ p
        → forest_from rule tree level at
        ≡ grown p (kind_at tree at) (text_at rule tree at) (forest_from rule tree (level + 1) (at + ROW)) (forest_from rule tree level (at + ROW))
    unfolding forest_from forest
    by_place p e =
        ap (forest rule level) (drop_row tree at h)
        ∙ ap (λ (q : Place). grown q (kind_at tree at) (text_at rule tree at) (forest rule (level + 1) (drop (at + ROW) tree)) (forest rule level (drop (at + ROW) tree))) e

    pub forest_below : level < level_at tree at → forest_from rule tree level at ≡ forest_from rule tree level (at + ROW)
    forest_below l = by_place below (place_below level (kind_at tree at) (level_at tree at) l)

    pub forest_past : level_at tree at < level → forest_from rule tree level at ≡ nil
    forest_past l = by_place past (place_past level (kind_at tree at) (level_at tree at) l)

    pub forest_token : level_at tree at ≡ level → kind_at tree at < ROOT
        → forest_from rule tree level at ≡ leaf (record { kind = kind_at tree at; text = text_at rule tree at }) (forest_from rule tree level (at + ROW))
    forest_token e k = by_place token (place_token level (kind_at tree at) (level_at tree at) e k)

    pub forest_node : level_at tree at ≡ level → ROOT ≤ kind_at tree at
        → forest_from rule tree level at ≡ node (kind_at tree at) (forest_from rule tree (level + 1) (at + ROW)) (forest_from rule tree level (at + ROW))
    forest_node e k = by_place child (place_child level (kind_at tree at) (level_at tree at) e k)

-- what is no whole row has no children
pub children_none : (rule tree : List ℕ) (at : ℕ) → is_row tree at ≡ false → children_at rule tree at ≡ nil
unfolding forest_from forest
children_none rule tree at h = ap (forest rule (level_at tree at + 1)) (drop_of_length-le tree {i = at + ROW} (omega (arith, row_missing tree at h)))

-- no forest is below a level where no row is
pub forest_ends : (rule tree : List ℕ) (level at : ℕ) → is_below tree level at ≡ false → forest_from rule tree (level + 1) at ≡ nil
unfolding is_below
forest_ends rule tree level at h =
    whether (is_row tree at)
    (λ e. forest_past rule tree (level + 1) at (row_there tree at e) (omega (arith, row_not_below tree level at e h)))
    (λ e. forest_none rule tree (level + 1) at e)

-- rows below the forest's level are no part of it
passed_forest : (rule : List ℕ) (level : ℕ) (rows : List ℕ) → forest rule level (past_below level rows) ≡ forest rule level rows
unfolding forest past_below
passed_forest rule level [] = refl
passed_forest rule level (k ∷ []) = refl
passed_forest rule level (k ∷ m ∷ []) = refl
passed_forest rule level (k ∷ m ∷ a ∷ []) = refl
passed_forest rule level (k ∷ m ∷ a ∷ e ∷ rows) =
    whether (ltb level m) (λ q. rw q (passed_forest rule level rows))
    (λ q. ap (λ (t : Bool). forest rule level (cond t (past_below level rows) (k ∷ m ∷ a ∷ e ∷ rows))) q)

pub forest_skip : (rule : List ℕ) {tree : List ℕ} {level from next : ℕ} → Skips tree level from next → forest_from rule tree level next ≡ forest_from rule tree level from
unfolding forest_from
forest_skip rule {tree} {level} {from} {next} s = ap (forest rule level) s.here ∙ passed_forest rule level (drop from tree)

-- rows passed over at a level are passed over at a lower one
pub passed_passed : (level : ℕ) (rows : List ℕ) → past_below level (past_below (level + 1) rows) ≡ past_below level rows
unfolding past_below
passed_passed level [] = refl
passed_passed level (k ∷ []) = refl
passed_passed level (k ∷ m ∷ []) = refl
passed_passed level (k ∷ m ∷ a ∷ []) = refl
passed_passed level (k ∷ m ∷ a ∷ e ∷ rows) =
    whether (ltb (level + 1) m) (λ q. rw (q, lt-ltb level m (omega (arith, ltb-true (level + 1) m q))) (passed_passed level rows)) (λ q. rw q)

-- a row found one level below was found among rows below the level
passed_found : (test : ℕ → Bool) (level : ℕ) (rows : List ℕ) (x : ℕ) (more : List ℕ) → rows_from test (level + 1) rows ≡ x ∷ more → past_below level rows ≡ past_below level (rows_from test (level + 1) rows)
unfolding past_below
passed_found test level rows x more =
    by_found test (level + 1) (λ rows found. found ≡ x ∷ more → past_below level rows ≡ past_below level found)
    (λ rows l h. absurd (cons≢nil (sym h)))
    (λ k m a e rows l h. absurd (cons≢nil (sym h)))
    (λ k m a e rows l p h. refl)
    (λ k m a e rows l p ih h. rw (lt-ltb level m (omega (arith, l))) (ih h)) rows

pub found_passed : (test : ℕ → Bool) {tree : List ℕ} (level : ℕ) {from at : ℕ} → FoundAt test tree (level + 1) from at → past_below level (drop from tree) ≡ past_below level (drop at tree)
found_passed test {tree} level {from} {at} f =
    passed_found test level (drop from tree) _ _ (sym f.here ∙ drop_row tree at f.whole) ∙ ap (past_below level) (sym f.here)

-- the row found is at the level and passes
pub record Passing (test : ℕ → Bool) (level k m : ℕ) : Type 0 where
  pub level_is : m ≡ level
  pub kind_is : test k ≡ true

pub found_passes : (test : ℕ → Bool) (level : ℕ) (rows : List ℕ) (k m a e : ℕ) (more : List ℕ) → rows_from test level rows ≡ k ∷ m ∷ a ∷ e ∷ more → Passing test level k m
found_passes test level rows k m a e more =
    by_found test level (λ rows found. found ≡ k ∷ m ∷ a ∷ e ∷ more → Passing test level k m)
    (λ rows l h. absurd (cons≢nil (sym h)))
    (λ k₁ m₁ a₁ e₁ rows l h. absurd (cons≢nil (sym h)))
    (λ k₁ m₁ a₁ e₁ rows l p h.
    record {
      level_is = sym (ap (λ (xs : List ℕ). get_or xs 1 0) h) ∙ l;
      kind_is = sym (ap (λ (xs : List ℕ). test (get_or xs 0 0)) h) ∙ p;
    })
    (λ k₁ m₁ a₁ e₁ rows l p ih h. ih h) rows

module _ {test : ℕ → Bool} {tree : List ℕ} {level from at : ℕ} (f : FoundAt test tree level from at) where
  found : Passing test level (kind_at tree at) (level_at tree at)
  found = found_passes test level (drop from tree) _ _ _ _ _ (sym f.here ∙ drop_row tree at f.whole)

  pub found_level : level_at tree at ≡ level
  found_level = found.level_is

  pub found_kind : test (kind_at tree at) ≡ true
  found_kind = found.kind_is

-- what does not look at a row that fails the test is the same of the forest from the row found on
pub record Ignores {A : Type 0} (test : ℕ → Bool) (of : Forest → A) : Type 0 where
  pub tokens : (t : Rattle.lexer.specs.Lex.Token) (f : Forest) → test t.kind ≡ false → of (leaf t f) ≡ of f
  pub nodes : (k : ℕ) (s f : Forest) → ROOT ≤ k → test k ≡ false → of (node k s f) ≡ of f

module _ {A : Type 0} {test : ℕ → Bool} {of : Forest → A} (i : Ignores test of) (rule : List ℕ) where
  -- a row that fails the test, not above the level
  failing : (level k m a e : ℕ) (rows : List ℕ) → level ≤ m → (m ≡ level → test k ≡ false) → of (forest rule level (k ∷ m ∷ a ∷ e ∷ rows)) ≡ of (forest rule level rows)
  unfolding forest
  failing level k m a e rows l h =
      let inner = forest rule (level + 1) rows in
      let rest = forest rule level rows in
      whether (ltb level m) (λ q. rw (place_below level k m (ltb-true level m q)))
      (λ q.
      let same : m ≡ level = omega (arith, ltb-false level m q) in
      whether (ltb k ROOT)
      (λ z. rw (place_token level k m same (ltb-true k ROOT z)) (i.tokens (record { kind = k; text = bytes_between rule a e }) rest (h same)))
      (λ z. rw (place_child level k m same (ltb-false k ROOT z)) (i.nodes k inner rest (ltb-false k ROOT z) (h same))))

  pub ignored : (level : ℕ) (rows : List ℕ) → of (forest rule level rows) ≡ of (forest rule level (rows_from test level rows))
  unfolding forest
  ignored level =
      by_found test level (λ rows found. of (forest rule level rows) ≡ of (forest rule level found))
      (λ rows l. ap of (short_forest rule level rows l))
      (λ k m a e rows l. rw (place_past level k m l))
      (λ k m a e rows l p. refl)
      (λ k m a e rows l p ih. failing level k m a e rows l p ∙ ih)

  -- nothing is found, or a row is
  pub ignored_none : {tree : List ℕ} {level from : ℕ} → FoundNowhere test tree level from → of (forest_from rule tree level from) ≡ of nil
  unfolding forest_from forest
  ignored_none {tree} {level} {from} h = ignored level (drop from tree) ∙ ap (λ (rows : List ℕ). of (forest rule level rows)) h.none

  pub ignored_found : {tree : List ℕ} {level from at : ℕ} → FoundAt test tree level from at → of (forest_from rule tree level from) ≡ of (forest_from rule tree level at)
  unfolding forest_from
  ignored_found {tree} {level} {from} {at} f = ignored level (drop from tree) ∙ ap (λ (rows : List ℕ). of (forest rule level rows)) (sym f.here)

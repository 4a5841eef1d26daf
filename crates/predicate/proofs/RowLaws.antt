-- The rows of a tree table from a place on: found, passed over, and read back as a forest. Assumes nothing.
use mathlib.Core.Path.{◌≡◌, refl, sym, ap, ◌∙◌}
use mathlib.Core.Bool.{Bool, true, false, ◌&&◌}
use mathlib.Core.List.{List, [], ◌∷◌}
use Prim.Native.Nat.{ℕ, zero, suc, ◌+◌, ◌*◌, ◌/◌, ◌≤◌, ◌<◌}
use native.Mathlib.Omega.{arith}
use lib.Dec.{eqb, ltb}
use lib.ListN.{length, get_or, drop, length-drop}
use Rattle.std.proofs.lemmas.List.{drop-drop}
use Rattle.std.specs.List.{prefix_len}
use Rattle.std.specs.Simd.{first_chunks}
use lib.Seq.{drop-cons}
use borrow.Author.Tests.{lt-ltb, le-ltb, le-leb, lt-leb, eq-eqb, ne_eqb, leb-true, leb-false, eqb-true, ltb-true, ltb-false}
use Rattle.trees.specs.Green.{nil}
use Rattle.syntax.proofs.BoolLaws.{whether, both}
use Rattle.predicate.specs.Rows.{ROW, forest, kind_at, level_at, is_row, is_below, rows_from, past_below}
use Rattle.predicate.specs.Eval.{IsRow, FoundNowhere, Skips}

-- a whole row is there, or not
pub row_there : (tree : List ℕ) (at : ℕ) → is_row tree at ≡ true → at + ROW ≤ length tree
unfolding is_row
row_there tree at h = leb-true (at + ROW) (length tree) h

pub row_missing : (tree : List ℕ) (at : ℕ) → is_row tree at ≡ false → length tree < at + ROW
unfolding is_row
row_missing tree at h = leb-false (at + ROW) (length tree) h

-- a row is below a level if it is there and its own level is
pub below_none : (tree : List ℕ) (level at : ℕ) → length tree < at + ROW → false ≡ is_below tree level at
unfolding is_below is_row
below_none tree level at h = sym (rw (lt-leb (at + ROW) (length tree) h))

pub below_there : {tree : List ℕ} (level : ℕ) {at here : ℕ} → IsRow tree at here → ltb level here ≡ is_below tree level at
unfolding is_below is_row
below_there {tree} level {at} i = ap (ltb level) i.here ∙ sym (ap (λ (t : Bool). t && ltb level (level_at tree at)) (le-leb (at + ROW) (length tree) i.whole))

-- the row at a place, and the rows after it
abbrev pub row_and : List ℕ → ℕ → List ℕ
row_and tree at = kind_at tree at ∷ level_at tree at ∷ get_or tree (at + 2) 0 ∷ get_or tree (at + 3) 0 ∷ drop (at + ROW) tree

pub drop_row : (tree : List ℕ) (at : ℕ) → at + ROW ≤ length tree → drop at tree ≡ row_and tree at
drop_row tree at h =
    one at (at + 1) (omega arith) (omega arith)
    ∙ ap (λ (r : List ℕ). kind_at tree at ∷ r) (one (at + 1) (at + 2) (omega arith) (omega arith)
    ∙ ap (λ (r : List ℕ). level_at tree at ∷ r) (one (at + 2) (at + 3) (omega arith) (omega arith)
    ∙ ap (λ (r : List ℕ). get_or tree (at + 2) 0 ∷ r) (one (at + 3) (at + ROW) (omega arith) (omega arith))))
  where
    one : (i j : ℕ) → suc i ≡ j → i < length tree → drop i tree ≡ get_or tree i 0 ∷ drop j tree
    one i j e l = drop-cons tree i 0 l ∙ ap (λ (n : ℕ). get_or tree i 0 ∷ drop n tree) e

-- fewer numbers than a row are no rows
pub short_forest : (rule : List ℕ) (level : ℕ) (rows : List ℕ) → length rows < ROW → forest rule level rows ≡ nil
unfolding forest
short_forest rule level [] h = refl
short_forest rule level (k ∷ []) h = refl
short_forest rule level (k ∷ m ∷ []) h = refl
short_forest rule level (k ∷ m ∷ a ∷ []) h = refl
short_forest rule level (k ∷ m ∷ a ∷ e ∷ rows) h = absurd (omega arith)

pub found_none : (test : ℕ → Bool) (level : ℕ) (rows : List ℕ) → length rows < ROW → [] ≡ rows_from test level rows
unfolding rows_from
found_none test level [] h = refl
found_none test level (k ∷ []) h = refl
found_none test level (k ∷ m ∷ []) h = refl
found_none test level (k ∷ m ∷ a ∷ []) h = refl
found_none test level (k ∷ m ∷ a ∷ e ∷ rows) h = absurd (omega arith)

short_passed : (level : ℕ) (rows : List ℕ) → length rows < ROW → past_below level rows ≡ rows
unfolding past_below
short_passed level [] h = refl
short_passed level (k ∷ []) h = refl
short_passed level (k ∷ m ∷ []) h = refl
short_passed level (k ∷ m ∷ a ∷ []) h = refl
short_passed level (k ∷ m ∷ a ∷ e ∷ rows) h = absurd (omega arith)

pub few : (tree : List ℕ) (at : ℕ) → length tree < at + ROW → length (drop at tree) < ROW
few tree at h = omega (arith, length-drop at tree)

-- by what is found among rows: nothing where they are fewer numbers than a row or the first is above the level, they themselves where it
-- passes, and else what is found among those after it
module _ (test : ℕ → Bool) (level : ℕ) (P : (rows found : List ℕ) → Type 0)
    (short : (rows : List ℕ) → length rows < ROW → P rows [])
    (above : (k m a e : ℕ) (rows : List ℕ) → m < level → P (k ∷ m ∷ a ∷ e ∷ rows) [])
    (here : (k m a e : ℕ) (rows : List ℕ) → m ≡ level → test k ≡ true → P (k ∷ m ∷ a ∷ e ∷ rows) (k ∷ m ∷ a ∷ e ∷ rows))
    (later : (k m a e : ℕ) (rows : List ℕ) → level ≤ m → (m ≡ level → test k ≡ false) → P rows (rows_from test level rows) → P (k ∷ m ∷ a ∷ e ∷ rows) (rows_from test level rows)) where
  pub by_found : (rows : List ℕ) → P rows (rows_from test level rows)
  unfolding rows_from
  by_found [] = short [] (omega arith)
  by_found (k ∷ []) = short (k ∷ []) (omega arith)
  by_found (k ∷ m ∷ []) = short (k ∷ m ∷ []) (omega arith)
  by_found (k ∷ m ∷ a ∷ []) = short (k ∷ m ∷ a ∷ []) (omega arith)
  by_found (k ∷ m ∷ a ∷ e ∷ rows) =
      whether (ltb m level) (λ q. rw q (above k m a e rows (ltb-true m level q)))
      (λ q.
      whether (eqb m level && test k)
      (λ p. let a' = both (eqb m level) (test k) p in rw (q, p) (here k m a e rows (eqb-true m level a'.0) a'.1))
      (λ p. rw (q, p) (later k m a e rows (ltb-false m level q) (λ same. rw (eq-eqb m level same) at p) (by_found rows))))

-- the rows found among rows that begin with a whole one: none where it is above the level, these where it passes, and else those found
-- among the rows after it
module _ (test : ℕ → Bool) (level : ℕ) (rows : List ℕ) (h : ROW ≤ length rows) where
  here : rows ≡ row_and rows 0
  here = drop_row rows 0 h

  pub found_above : level_at rows 0 < level → [] ≡ rows_from test level rows
  unfolding rows_from
  found_above l = sym (ap (rows_from test level) here ∙ rw (lt-ltb (level_at rows 0) level l))

  pub found_here : {r : Bool} → level_at rows 0 ≡ level → r ≡ test (kind_at rows 0) → r ≡ true → rows ≡ rows_from test level rows
  unfolding rows_from
  found_here e t p =
      here
      ∙ sym (ap (rows_from test level) here ∙ rw (le-ltb (level_at rows 0) level (omega arith), eq-eqb (level_at rows 0) level e, sym t ∙ p))

  pub found_failing : {r : Bool} → level_at rows 0 ≡ level → r ≡ test (kind_at rows 0) → r ≡ false → rows_from test level (drop ROW rows) ≡ rows_from test level rows
  unfolding rows_from
  found_failing e t p = sym (ap (rows_from test level) here ∙ rw (le-ltb (level_at rows 0) level (omega arith), eq-eqb (level_at rows 0) level e, sym t ∙ p))

  pub found_elsewhere : level ≤ level_at rows 0 → (level_at rows 0 ≡ level → ⊥) → rows_from test level (drop ROW rows) ≡ rows_from test level rows
  unfolding rows_from
  found_elsewhere l d = sym (ap (rows_from test level) here ∙ rw (le-ltb (level_at rows 0) level l, ne_eqb (level_at rows 0) level d))

pub found_past : (test : ℕ → Bool) (tree : List ℕ) (level from : ℕ) → length tree < from → FoundNowhere test tree level from
found_past test tree level from h = record { none = sym (found_none test level (drop from tree) (omega (arith, length-drop from tree))) }

-- a row that is below a level, and one that is not
module _ (tree : List ℕ) (level at : ℕ) where
  pub below_row : is_below tree level at ≡ true → (is_row tree at ≡ true) × (level < level_at tree at)
  unfolding is_below
  below_row h =
      let a = both (is_row tree at) (ltb level (level_at tree at)) h in
      (a.0, ltb-true level (level_at tree at) a.1)

  pub row_not_below : is_row tree at ≡ true → is_below tree level at ≡ false → level_at tree at ≤ level
  unfolding is_below
  row_not_below e h = ltb-false level (level_at tree at) (rw e at h)

  pub row_below : at + ROW ≤ length tree → level < level_at tree at → is_below tree level at ≡ true
  unfolding is_below is_row
  row_below h l = rw (le-leb (at + ROW) (length tree) h, lt-ltb level (level_at tree at) l)

  pub passed_row : is_below tree level at ≡ true → past_below level (drop at tree) ≡ past_below level (drop (at + ROW) tree)
  unfolding past_below
  passed_row h =
      let a = below_row h in
      ap (past_below level) (drop_row tree at (row_there tree at a.0)) ∙ rw (lt-ltb level (level_at tree at) a.1)

  pub passed_stop : is_below tree level at ≡ false → past_below level (drop at tree) ≡ drop at tree
  unfolding past_below
  passed_stop h =
      whether (is_row tree at)
      (λ e.
      let row = drop_row tree at (row_there tree at e) in
      ap (past_below level) row ∙ rw (le-ltb level (level_at tree at) (row_not_below e h)) (sym row))
      (λ e. short_passed level (drop at tree) (few tree at (row_missing tree at e)))

-- whether a row by itself is below a level
abbrev pub row_test : ℕ → List ℕ → Bool
row_test level row = ltb level (get_or row 1 0)

-- as many of the first rows are passed over as are below the level
chunks_passed : (level n : ℕ) (rows : List ℕ) → 4 * n ≤ length rows → length rows < 4 * n + 4 →
    drop (4 * prefix_len (row_test level) (first_chunks 4 n rows)) rows ≡ past_below level rows
unfolding past_below
chunks_passed level zero rows h l = sym (short_passed level rows (omega arith))
chunks_passed level (suc n) [] h l = absurd (omega arith)
chunks_passed level (suc n) (k ∷ []) h l = absurd (omega arith)
chunks_passed level (suc n) (k ∷ m ∷ []) h l = absurd (omega arith)
chunks_passed level (suc n) (k ∷ m ∷ a ∷ []) h l = absurd (omega arith)
chunks_passed level (suc n) (k ∷ m ∷ a ∷ e ∷ rows) h l =
    let some : ℕ = prefix_len (row_test level) (first_chunks 4 n rows) in
    let four : 4 * (1 + some) ≡ suc (suc (suc (suc (4 * some)))) = omega arith in
    whether (ltb level m) (λ q. rw (q, four) (chunks_passed level n rows (omega arith) (omega arith))) (λ q. rw q)

-- where that many are counted from a place on, the rows below the level are passed over
pub skips : (tree : List ℕ) (level from : ℕ) {n : ℕ} → n ≡ prefix_len (row_test level) (first_chunks 4 (length (drop from tree) / 4) (drop from tree)) → Skips tree level from (from + 4 * n)
skips tree level from {n} e =
    record {
      later = omega arith;
      here = sym (drop-drop (4 * n) from tree) ∙ ap (λ (i : ℕ). drop (4 * i) (drop from tree)) e ∙ chunks_passed level (length (drop from tree) / 4) (drop from tree) (omega arith) (omega arith);
    }

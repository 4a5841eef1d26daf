-- Members with the same profile and the same bits have the same truth of every predicate that asks for no more; and marks tell the bits.
-- Assumes nothing.
use mathlib.Core.Path.{◌≡◌, refl, sym, ap, ◌∙◌, subst}
use mathlib.Core.Bool.{Bool, true, false, not, ◌&&◌, ◌||◌, cond, true≢false, false≢true}
use mathlib.Core.List.{List, [], ◌∷◌}
use Prim.Native.Nat.{ℕ, zero, suc, ◌+◌, ◌*◌, ◌≤◌, ◌<◌}
use native.Mathlib.Omega.{arith}
use Rattle.std.specs.Prelude.{Some, None}
use lib.Dec.{ltb}
use lib.ListN.{length, get_or, take, drop, set}
use lib.Seq.{length-take-le, get_or-take, get_or-set_same, get_or-set_other}
use borrow.Author.Tests.{lt-ltb, le-ltb, ltb-true, ltb-false, not-true, not-false}
use Rattle.syntax.specs.Kind.{COMPARE_EXPR, CALL_EXPR, ROOT}
use Rattle.syntax.specs.Text.{bytes_between}
use Rattle.syntax.proofs.BoolLaws.{whether, both, one_small, one_same}
use Rattle.trees.specs.Green.{Forest, nil, leaf, node}
use Rattle.board.specs.Image.{component_count}
use Rattle.instance.specs.Instance.{has_feature, owners_wired}
use Rattle.marks.specs.Marks.{mark_by, marks_of, feature_marks}
use Rattle.marks.proofs.MarkLaws.{marks_both}
use Rattle.predicate.specs.declared.atom.Member.{Member}
use Rattle.predicate.specs.declared.atom.Member.TheVariants.{Component, Feature, Diagnostic}
use Rattle.predicate.specs.Truth.{literal_of, field_of, has_property_of, has, first_of, sort_of, settle, truths, truth}
use Rattle.predicate.specs.Rows.{ROW, Place, below, past, token, child, place_of, grown, forest, kind_at, level_at, forest_from, children_at, is_row, is_below}
use Rattle.predicate.proofs.RowLaws.{row_there, row_missing, drop_row, few, below_row}
use Rattle.predicate.proofs.ForestLaws.{place_past}
use Rattle.profile.specs.declared.Held.{Held}
use Rattle.profile.specs.Profile.{numbered, profile_of, asks_more, asks_field}
use Rattle.profile.proofs.ProfileLaws.{Alike, components, features, diagnostics, compare_asks, same_profile, settle_alike}
use Rattle.eval.specs.declared.marked.Marked.{Marked}
use Rattle.eval.specs.declared.marked.Sorts.{Sorts}
use Rattle.eval.specs.Marked.{HASES, WAYS, BLOCK, HIGHEST_OF_COMPONENT, HIGHEST_OF_FEATURE, no_row, row_in, value_of, mark_for, has_marks, MarksOf, Marks, Made, counts, bit_at, bits_at, bits_by, bits_of, Told, plain, by_marks, RowsTold, RowTold, TellsBelow, HasRow}

-- all nodes of a forest ask for no more of a member than its profile and its bits
unfoldable pub NodesTold : (rule tree : List ℕ) → Sorts → Member → Forest → Type 0
NodesTold rule tree sorts m nil = Unit {0}
NodesTold rule tree sorts m (leaf t f) = NodesTold rule tree sorts m f
NodesTold rule tree sorts m (node k s f) = Told rule tree sorts m k s × (NodesTold rule tree sorts m s × NodesTold rule tree sorts m f)

-- ---- the bits of a member

pub bit_small : (marked : List Marked) (most c j : ℕ) → bit_at marked most c j ≤ 1
unfolding bit_at
bit_small marked most c j = one_small (counts (get_or (row_in marked j).marks c 0) most)

-- as they are read
module _ (image : List ℕ) (marked : List Marked) (most c : ℕ) where
  pub bits_past : component_count image ≤ c → None ≡ bits_at image marked most c
  unfolding bits_at
  bits_past h = rw (le-ltb c (component_count image) h)

  module _ (h : c < component_count image) where
    pub bits_outside : BLOCK ≤ c → None ≡ bits_at image marked most c
    unfolding bits_at
    bits_outside l = rw (lt-ltb c (component_count image) h, le-ltb c BLOCK l)

    pub bits_inside : {w x y z : ℕ} → c < BLOCK → w ≡ bit_at marked most c 0 → x ≡ bit_at marked most c 1 → y ≡ bit_at marked most c 2 → z ≡ bit_at marked most c 3
        → Some (w + 2 * x + 4 * y + 8 * z) ≡ bits_at image marked most c
    unfolding bits_at
    bits_inside {w} {x} {y} {z} l a b d e = rw (lt-ltb c (component_count image) h, lt-ltb c BLOCK l) (λ j. Some (a j + 2 * b j + 4 * d j + 8 * e j))

-- ---- members with the same bits

abbrev four : List Marked → ℕ → ℕ → ℕ
four marked most c = bit_at marked most c 0 + 2 * bit_at marked most c 1 + 4 * bit_at marked most c 2 + 8 * bit_at marked most c 3

-- a component that has bits has marks, and the bits are these
record BitsAre (image : List ℕ) (marked : List Marked) (most c bits : ℕ) : Type 0 where
  in_block : has_marks image c ≡ true
  are : four marked most c ≡ bits

bits_are : (image : List ℕ) (marked : List Marked) (most c : ℕ) {bits : ℕ} → bits_at image marked most c ≡ Some bits → BitsAre image marked most c bits
unfolding bits_at
bits_are image marked most c {bits} e = go (has_marks image c) refl e
  where
    go : (b : Bool) → has_marks image c ≡ b → numbered b (four marked most c) ≡ Some bits → BitsAre image marked most c bits
    go true h e = record { in_block = h; are = cc }
    go false h e = absurd cc

-- they are few
four_small : (marked : List Marked) (most c : ℕ) → four marked most c < WAYS
four_small marked most c = omega (arith, bit_small marked most c 0, bit_small marked most c 1, bit_small marked most c 2, bit_small marked most c 3)

pub bits_small : (image : List ℕ) (marked : List Marked) (m : Member) {bits : ℕ} → bits_by image marked m ≡ Some bits → bits < WAYS
bits_small image marked (Component c) e = omega (arith, (bits_are image marked HIGHEST_OF_COMPONENT c e).are, four_small marked HIGHEST_OF_COMPONENT c)
bits_small image marked (Feature c f) e = omega (arith, (bits_are image marked HIGHEST_OF_FEATURE c e).are, four_small marked HIGHEST_OF_FEATURE c)
bits_small image marked (Diagnostic d) {bits} e =
    let z : ◌≡◌ {A = ℕ} 0 bits = cc in
    omega arith

-- with marks they are read from them
pub bits_there : (image : List ℕ) (marked : List Marked) (m : Member) → 0 < length marked → bits_by image marked m ≡ bits_of image marked m
bits_there image [] m h = absurd (omega arith)
bits_there image (row ∷ rows) m h = refl

-- where all bits are the same each is
bit_same : (marked : List Marked) (most c d : ℕ) → four marked most c ≡ four marked most d → (j : ℕ) → j < HASES → bit_at marked most c j ≡ bit_at marked most d j
bit_same marked most c d e j h = go j h
  where
    small : (c : ℕ) → (bit_at marked most c 0 ≤ 1) × (bit_at marked most c 1 ≤ 1) × (bit_at marked most c 2 ≤ 1) × (bit_at marked most c 3 ≤ 1)
    small c = (bit_small marked most c 0, bit_small marked most c 1, bit_small marked most c 2, bit_small marked most c 3)

    go : (j : ℕ) → j < HASES → bit_at marked most c j ≡ bit_at marked most d j
    go zero h = omega (arith, e, small c, small d)
    go (suc zero) h = omega (arith, e, small c, small d)
    go (suc (suc zero)) h = omega (arith, e, small c, small d)
    go (suc (suc (suc zero))) h = omega (arith, e, small c, small d)
    go (suc (suc (suc (suc j)))) h = absurd (omega arith)

module _ {rule image tree : List ℕ} {marked : List Marked} (w : Marks rule image tree marked) where
  -- a bit by the `has` of its row
  module _ (j : ℕ) (h : j < length marked) where
    abbrev value : List ℕ
    value = value_of rule tree (row_in marked j).row

    bit_component : (c : ℕ) → has_marks image c ≡ true → bit_at marked HIGHEST_OF_COMPONENT c j ≡ cond (has image (Component c) value) 1 0
    unfolding bit_at has
    bit_component c i = rw ((w.so j h).so c i) (by (has_property_of image c value) (has_feature image c value))
      where
        by : (p f : Bool) → ◌≡◌ {A = ℕ} (cond (counts (mark_by p f) HIGHEST_OF_COMPONENT) 1 0) (cond (p || f) 1 0)
        by true f = refl
        by false true = refl
        by false false = refl

    bit_feature : (c f : ℕ) → has_marks image c ≡ true → bit_at marked HIGHEST_OF_FEATURE c j ≡ cond (has image (Feature c f) value) 1 0
    unfolding bit_at has
    bit_feature c f i = rw ((w.so j h).so c i) (by (has_property_of image c value) (has_feature image c value))
      where
        by : (p f : Bool) → ◌≡◌ {A = ℕ} (cond (counts (mark_by p f) HIGHEST_OF_FEATURE) 1 0) (cond p 1 0)
        by true f = refl
        by false true = refl
        by false false = refl

    -- what the bits of two components tell of this row is the same where their bits are
    same_here : (most c d : ℕ) (s t : Bool) {bits : ℕ} → (has_marks image c ≡ true → bit_at marked most c j ≡ cond s 1 0) → (has_marks image d ≡ true → bit_at marked most d j ≡ cond t 1 0)
        → bits_at image marked most c ≡ Some bits → bits_at image marked most d ≡ Some bits → s ≡ t
    same_here most c d s t p q e l =
        let x = bits_are image marked most c e in
        let y = bits_are image marked most d l in
        one_same s t (sym (p x.in_block) ∙ bit_same marked most c d (x.are ∙ sym y.are) j (omega (arith, w.few)) ∙ q y.in_block)

  -- members of one sort with the same bits have the same marked `has`
  module _ {held : Held} {m n : Member} {bits : ℕ} (a : Alike image held m n) (e : bits_of image marked m ≡ Some bits) (l : bits_of image marked n ≡ Some bits) where
    has_same : (j : ℕ) → j < length marked → has image m (value_of rule tree (row_in marked j).row) ≡ has image n (value_of rule tree (row_in marked j).row)
    unfolding has
    has_same j h = go a (bits_there image marked m there ∙ e) (bits_there image marked n there ∙ l)
      where
        there : 0 < length marked
        there = omega arith

        go : {m n : Member} → Alike image held m n → bits_by image marked m ≡ Some bits → bits_by image marked n ≡ Some bits
            → has image m (value_of rule tree (row_in marked j).row) ≡ has image n (value_of rule tree (row_in marked j).row)
        go (components {c} {d} p o) e l =
            same_here j h HIGHEST_OF_COMPONENT c d (has image (Component c) (value j h)) (has image (Component d) (value j h))
            (bit_component j h c) (bit_component j h d) e l
        go (features {c} {f} {d} {g} p o q r) e l =
            same_here j h HIGHEST_OF_FEATURE c d (has image (Feature c f) (value j h)) (has image (Feature d g) (value j h))
            (bit_feature j h c f) (bit_feature j h d g) e l
        go (diagnostics p) e l = refl

module _ {rule image tree : List ℕ} (sorts : Sorts) (w : Marks rule image tree sorts.marked.now) (s : sorts.held.wiring_of_features ≡ true → owners_wired image ≡ true)
    {m n : Member} {bits : ℕ} (a : Alike image sorts.held m n) (e : bits_of image sorts.marked.now m ≡ Some bits) (l : bits_of image sorts.marked.now n ≡ Some bits) where
  settle_told : (k : ℕ) (f : Forest) (ts : List Bool) → Told rule tree sorts m k f → settle image m (sort_of k) f ts ≡ settle image n (sort_of k) f ts
  unfolding settle sort_of
  settle_told k f ts (plain h q) = settle_alike s a k f ts q h
  settle_told k f ts (by_marks j h c v) =
      ap (λ (k : ℕ). settle image m (sort_of k) f ts) c ∙ ap (has image m) v ∙ has_same w a e l j h ∙ sym (ap (λ (k : ℕ). settle image n (sort_of k) f ts) c ∙ ap (has image n) v)

  truths_told : (g : Forest) → NodesTold rule tree sorts m g → truths image m g ≡ truths image n g
  unfolding truths NodesTold
  truths_told nil t = refl
  truths_told (leaf x g) t = truths_told g t
  truths_told (node k f g) t =
      let inner = truths_told f t.1.0 in
      let later = truths_told g t.1.1 in
      let first = settle_told k f (truths image m f) t.0 ∙ ap (settle image n (sort_of k) f) inner in
      λ j. first j ∷ later j

-- two members with the same profile and the same bits have the same truth of a predicate that asks for no more
pub alike_has : {rule image tree : List ℕ} (sorts : Sorts) → Marks rule image tree sorts.marked.now → (sorts.held.wiring_of_features ≡ true → owners_wired image ≡ true) → (m n : Member) (k bits : ℕ) (f : Forest)
    → profile_of image sorts.held m ≡ Some k → profile_of image sorts.held n ≡ Some k → bits_of image sorts.marked.now m ≡ Some bits → bits_of image sorts.marked.now n ≡ Some bits
    → NodesTold rule tree sorts m f → truth image m f ≡ truth image n f
unfolding truth
alike_has {image = image} sorts w s m n k bits f p q e l t = ap first_of (truths_told sorts w s (same_profile image sorts.held m n k p q) e l f t)

-- ---- rows that ask for no more

-- a child is at the level
place_level : (depth k r : ℕ) → place_of depth k r ≡ child → r ≡ depth
unfolding place_of
place_level depth k r e = go (ltb depth r) (ltb r depth) (ltb k ROOT) refl refl e
  where
    go : (x y z : Bool) → ltb depth r ≡ x → ltb r depth ≡ y → cond x below (cond y past (cond z token child)) ≡ child → r ≡ depth
    go true y z p q e =
        let n : ◌≡◌ {A = ℕ} 0 1 = cc in
        absurd (omega arith)
    go false true z p q e =
        let n : ◌≡◌ {A = ℕ} 0 1 = cc in
        absurd (omega arith)
    go false false z p q e = omega (arith, ltb-false depth r p, ltb-false r depth q)

module _ (rule tree : List ℕ) (sorts : Sorts) (m : Member) where
  grown_told : (p : Place) (k : ℕ) (text : List ℕ) (inner rest : Forest) → (p ≡ child → Told rule tree sorts m k inner) → NodesTold rule tree sorts m inner → NodesTold rule tree sorts m rest
      → NodesTold rule tree sorts m (grown p k text inner rest)
  unfolding NodesTold
  grown_told below k text inner rest t i r = r
  grown_told past k text inner rest t i r = tt
  grown_told token k text inner rest t i r = r
  grown_told child k text inner rest t i r = (t refl, (i, r))

  -- a forest deeper than a level
  rows_deeper : (level depth : ℕ) (rows : List ℕ) → level < depth → RowsTold rule tree sorts m level rows → NodesTold rule tree sorts m (forest rule depth rows)
  unfolding NodesTold RowsTold forest
  rows_deeper level depth [] l t = tt
  rows_deeper level depth (k ∷ []) l t = tt
  rows_deeper level depth (k ∷ r ∷ []) l t = tt
  rows_deeper level depth (k ∷ r ∷ a ∷ []) l t = tt
  rows_deeper level depth (k ∷ r ∷ a ∷ e ∷ rows) l t =
      go (rows_deeper level (depth + 1) rows (omega arith)) (rows_deeper level depth rows l) (ltb level r) refl
    where
      whole : Forest
      whole = forest rule depth (k ∷ r ∷ a ∷ e ∷ rows)

      go : (RowsTold rule tree sorts m level rows → NodesTold rule tree sorts m (forest rule (depth + 1) rows))
          → (RowsTold rule tree sorts m level rows → NodesTold rule tree sorts m (forest rule depth rows))
          → (x : Bool) → ltb level r ≡ x → NodesTold rule tree sorts m whole
      go inner rest true q =
          grown_told (place_of depth k r) k (bytes_between rule a e) (forest rule (depth + 1) rows) (forest rule depth rows)
          (λ c. subst (λ (d : ℕ). Told rule tree sorts m k (forest rule (d + 1) rows)) (place_level depth k r c) (t q).0) (inner (t q).1) (rest (t q).1)
      go inner rest false q =
          subst (λ (p : Place). NodesTold rule tree sorts m (grown p k (bytes_between rule a e) (forest rule (depth + 1) rows) (forest rule depth rows)))
          (sym (place_past depth k r (omega (arith, ltb-false level r q)))) tt

  pub told_rows : (at : ℕ) → RowsTold rule tree sorts m (level_at tree at) (drop (at + ROW) tree) → NodesTold rule tree sorts m (children_at rule tree at)
  unfolding forest_from
  told_rows at t = rows_deeper (level_at tree at) (level_at tree at + 1) (drop (at + ROW) tree) (omega arith) t

-- ---- a row that asks for no more

module _ {rule tree : List ℕ} {row : ℕ} {m : Member} {sorts : Sorts} where
  -- one that compares a field, by that
  pub row_compared : {a : Bool} {field : List ℕ} → kind_at tree row ≡ COMPARE_EXPR → field ≡ field_of (children_at rule tree row) → a ≡ asks_field m sorts.held field
      → RowTold rule tree row m sorts (not a)
  row_compared {a} k f e =
      record {
        told = λ t.
            plain (ap (asks_more m sorts.held) k ∙ compare_asks m sorts.held)
            (λ _. sym (e ∙ ap (asks_field m sorts.held) f) ∙ not-true a t);
      }

  pub row_marked : {r : Bool} → kind_at tree row ≡ CALL_EXPR → HasRow sorts.marked.now row r → RowTold rule tree row m sorts r
  unfolding value_of
  row_marked k f =
      record {
        told = λ e.
            let found = f.so e in
            by_marks found.0 found.1.0 k (ap (λ (x : ℕ). literal_of (children_at rule tree x)) (sym found.1.1));
      }

-- ---- how far rows were looked at

pub record Telling (rule tree : List ℕ) (at : ℕ) (m : Member) (sorts : Sorts) (level row : ℕ) : Type 0 where
  pub rest : RowsTold rule tree sorts m level (drop row tree) → RowsTold rule tree sorts m (level_at tree at) (drop (at + ROW) tree)

pub tells_more : {rule tree : List ℕ} {at : ℕ} {m : Member} {sorts : Sorts} → TellsBelow rule tree at m sorts true
tells_more = record { told = λ e. absurd (true≢false e) }

-- no row is left
short_told : (rule tree : List ℕ) (sorts : Sorts) (m : Member) (level : ℕ) (rows : List ℕ) → length rows < ROW → RowsTold rule tree sorts m level rows
unfolding RowsTold
short_told rule tree sorts m level [] h = tt
short_told rule tree sorts m level (k ∷ []) h = tt
short_told rule tree sorts m level (k ∷ l ∷ []) h = tt
short_told rule tree sorts m level (k ∷ l ∷ a ∷ []) h = tt
short_told rule tree sorts m level (k ∷ l ∷ a ∷ e ∷ rows) h = absurd (omega arith)

over_told : (rule tree : List ℕ) (sorts : Sorts) (m : Member) (level row : ℕ) → is_below tree level row ≡ false → RowsTold rule tree sorts m level (drop row tree)
unfolding is_below RowsTold
over_told rule tree sorts m level row h = go (is_row tree row) refl
  where
    go : (there : Bool) → is_row tree row ≡ there → RowsTold rule tree sorts m level (drop row tree)
    go false e = short_told rule tree sorts m level (drop row tree) (few tree row (row_missing tree row e))
    go true e =
        let stops : ltb level (level_at tree row) ≡ false = sym (ap (λ (t : Bool). t && ltb level (level_at tree row)) e) ∙ h in
        subst (RowsTold rule tree sorts m level) (sym (drop_row tree row (row_there tree row e))) (λ q. absurd (false≢true (sym stops ∙ q)))

module _ {rule tree : List ℕ} {at : ℕ} {m : Member} {sorts : Sorts} {level row : ℕ} (p : Telling rule tree at m sorts level row) where
  pub telling_on : {r : Bool} → is_below tree level row ≡ true → RowTold rule tree row m sorts r → not r ≡ false → Telling rule tree at m sorts level (row + ROW)
  unfolding RowsTold forest_from
  telling_on {r} h t n =
      record {
        rest = λ u.
            p.rest
            (subst (RowsTold rule tree sorts m level) (sym (drop_row tree row (row_there tree row (below_row tree level row h).0)))
            (λ q. (t.told (not-false r n), u)));
      }

  pub telling_end : is_below tree level row ≡ false → TellsBelow rule tree at m sorts false
  telling_end h = record { told = λ _. p.rest (over_told rule tree sorts m level row h) }

-- ---- rows marked one after the other

-- which components have marks
marks_inside : (image : List ℕ) (c : ℕ) → has_marks image c ≡ true → (c < component_count image) × (c < BLOCK)
marks_inside image c h =
    let t = both (ltb c (component_count image)) (ltb c BLOCK) h in
    (ltb-true c (component_count image) t.0, ltb-true c BLOCK t.1)

-- the marks of a row, by properties and then by features
pub marks_made : (rule image tree : List ℕ) (row : ℕ) (marks₀ : List ℕ) {value marks₁ marks₂ : List ℕ} → value ≡ literal_of (children_at rule tree row) → length marks₀ ≡ BLOCK
    → marks₁ ≡ marks_of image value (length marks₀) → marks₂ ≡ feature_marks image value (component_count image) 0 marks₁ → MarksOf rule image tree (record { row = row; marks = marks₂ })
unfolding value_of has_property_of marks_of
marks_made rule image tree row marks₀ {value} {marks₁} {marks₂} v long p f =
    record {
      so = λ c h.
          ap (λ (b : List ℕ). get_or b c 0) (f ∙ ap (feature_marks image value (component_count image) 0) p)
          ∙ marks_both image value (length marks₀) c (omega (arith, marks_inside image c h)) (marks_inside image c h).0
          ∙ ap (mark_for image c) v;
    }

-- none is marked yet
pub making_start : (rule image tree : List ℕ) (marked : List Marked) → Made rule image tree marked 0
making_start rule image tree marked = record { most = omega arith; so = λ j h. absurd (omega arith) }

-- one more is
pub making_on : {rule image tree : List ℕ} {marked : List Marked} {n : ℕ} → Made rule image tree marked n → n < HASES → n < length marked → {row : Marked} → MarksOf rule image tree row
    → Made rule image tree (set marked n row) (n + 1)
making_on {rule} {image} {tree} {marked} {n} w h l {row} d =
    record {
      most = omega arith;
      so = λ j i.
          whether (ltb j n)
          (λ t.
          let less = ltb-true j n t in
          subst (MarksOf rule image tree) (sym (get_or-set_other marked n j row no_row (λ e. omega arith))) (w.so j less))
          (λ t.
          let same : n ≡ j = omega (arith, ltb-false j n t) in
          subst (MarksOf rule image tree) (sym (get_or-set_same marked n row no_row l) ∙ ap (row_in (set marked n row)) same) d);
    }

-- ---- the marks of all rows

-- of none
pub marks_none : (rule image tree : List ℕ) → Marks rule image tree []
marks_none rule image tree = record { few = omega arith; so = λ j h. absurd (omega arith) }

-- of as many as are made
pub made_marks : {rule image tree : List ℕ} {marked : List Marked} {n : ℕ} → Made rule image tree marked n → n ≤ length marked → Marks rule image tree (take n marked)
made_marks {rule} {image} {tree} {marked} {n} w h =
    let long = length-take-le n marked h in
    record {
      few = omega (arith, w.most);
      so = λ j l. subst (MarksOf rule image tree) (sym (get_or-take n marked j no_row (omega arith))) (w.so j (omega arith));
    }

-- What stands at a place of the marks, and how far the passes have come: properties looked at one by one, where those that are left
-- decide what is not marked yet; and components looked at one by one. Assumes nothing.
use mathlib.Core.Path.{◌≡◌, refl, sym, ap, ◌∙◌, subst}
use mathlib.Core.Bool.{Bool, true, false, ◌&&◌, ◌||◌, cond, and-false}
use mathlib.Core.List.{List, [], ◌∷◌}
use Prim.Native.Nat.{ℕ, zero, suc, ◌+◌, ◌-◌, ◌≤◌, ◌<◌}
use native.Mathlib.Nat.{sub-zero}
use native.Mathlib.Numerals.{add-one}
use native.Mathlib.Omega.{arith}
use borrow.Author.Tests.{eq-eqb, ne_eqb, lt-ltb, le-ltb, eqb-true, eqb-false, ltb-true, ltb-false}
use lib.Dec.{eqb, ltb}
use lib.ListN.{length, get_or, set, replicate, length-set, length-replicate, get_or-replicate}
use lib.Seq.{set_out, get_or-set_same, get_or-set_other, ext_get_or}
use Rattle.syntax.proofs.BoolLaws.{whether}
use Rattle.board.specs.Image.{component_count, property_count, property_component}
use Rattle.matching.specs.Search.{property_set_of, property_name_of}
use Rattle.instance.specs.Instance.{some, is_property, has_property, has_feature}
use Rattle.marks.specs.Marks.{OF_PROPERTY, OF_FEATURE, mark_of, is_named, property_marks, marked, marks_of, feature_mark, feature_marks, featured, mark_by}

-- ---- what stands at a place

module _ (image set name : List ℕ) where
  pub marks_length : (c n : ℕ) → length (property_marks image set name c n) ≡ n
  unfolding property_marks
  marks_length c zero = refl
  marks_length c (suc n) = ap suc (marks_length (suc c) n)

  marks_from : (c n k : ℕ) → k < n → get_or (property_marks image set name c n) k 0 ≡ mark_of (has_property image (c + k) set name)
  unfolding property_marks
  marks_from c zero k h = absurd (omega arith)
  marks_from c (suc n) zero h = ap (λ (c : ℕ). mark_of (has_property image c set name)) (omega arith)
  marks_from c (suc n) (suc k) h =
      marks_from (suc c) n k (omega arith) ∙ ap (λ (c : ℕ). mark_of (has_property image c set name)) (omega arith)

-- each component below the number has its mark
marks_at : (image value : List ℕ) (n c : ℕ) → c < n
    → get_or (marks_of image value n) c 0 ≡ mark_of (has_property image c (property_set_of value) (property_name_of value))
unfolding marks_of
marks_at image value n c h =
    marks_from image (property_set_of value) (property_name_of value) 0 n c h
    ∙ ap (λ (c : ℕ). mark_of (has_property image c (property_set_of value) (property_name_of value))) (omega arith)

-- ---- properties looked at

-- a component is marked, or marked by a property that is left
pub record Marking (image set name : List ℕ) (size count n : ℕ) (marks : List ℕ) : Type 0 where
  pub long : length marks ≡ size
  pub so : (c : ℕ) → c < length marks
      → cond (some (is_property image c set name) n (count - n)) OF_PROPERTY (get_or marks c 0) ≡ mark_of (has_property image c set name)

-- a mark that two properties may set
either : (a b : Bool) (x : ℕ) → cond (a || b) 1 x ≡ cond b 1 (cond a 1 x)
either true true x = refl
either true false x = refl
either false b x = refl

-- the mark at a place once one was set or not
mark_at : (v : ℕ) (to_set : Bool) (marks : List ℕ) (place c : ℕ) → c < length marks
    → get_or (cond to_set (set marks place v) marks) c 0 ≡ cond (eqb place c && to_set) v (get_or marks c 0)
mark_at v true marks place c h =
    whether (eqb place c)
    (λ t. rw t (ap (λ (p : ℕ). get_or (set marks p v) c 0) (eqb-true place c t) ∙ get_or-set_same marks c v 0 h))
    (λ t. rw t (get_or-set_other marks place c v 0 (λ e. eqb-false place c t (sym e))))
mark_at v false marks place c h = whether (eqb place c) (λ t. rw t) (λ t. rw t)

mark_length : (v : ℕ) (to_set : Bool) (marks : List ℕ) (place : ℕ) → length (cond to_set (set marks place v) marks) ≡ length marks
mark_length v true marks place = length-set marks place v
mark_length v false marks place = refl

module _ (image set_name name : List ℕ) (property : ℕ) (marks : List ℕ) where
  pub marked_length : length (marked image set_name name property marks) ≡ length marks
  unfolding marked
  marked_length = mark_length OF_PROPERTY (is_named image set_name name property) marks (property_component image property)

  marked_at : (c : ℕ) → c < length marks → get_or (marked image set_name name property marks) c 0 ≡ cond (is_property image c set_name name property) OF_PROPERTY (get_or marks c 0)
  unfolding marked is_named is_property
  marked_at c h = mark_at OF_PROPERTY (is_named image set_name name property) marks (property_component image property) c h

pub marking_start : (image set name : List ℕ) (k : ℕ) {count : ℕ} {marks : List ℕ} → marks ≡ replicate k 0 → count ≡ property_count image
    → Marking image set name (length marks) count 0 marks
unfolding has_property
marking_start image set name k {count} {marks} e f =
    record {
      long = refl;
      so = λ c h. rw (e, f, sub-zero (property_count image), clear c h) (as_mark (some (is_property image c set name) 0 (property_count image)));
    }
  where
    clear : (c : ℕ) → c < length marks → get_or (replicate k 0) c 0 ≡ zero
    clear c h = get_or-replicate k c 0 0 (omega (arith, ap length e ∙ length-replicate k 0))

    as_mark : (t : Bool) → cond t OF_PROPERTY 0 ≡ mark_of t
    as_mark true = refl
    as_mark false = refl

module _ {image set name : List ℕ} {size count n : ℕ} {marks : List ℕ} (p : Marking image set name size count n marks) where
  pub marking_on : {after : List ℕ} → n < count → after ≡ marked image set name n marks → Marking image set name size count (n + 1) after
  unfolding some
  marking_on {after} h e =
      record {
        long = ap length e ∙ marked_length image set name n marks ∙ p.long;
        so = λ c l. sym (step c (omega (arith, ap length e, marked_length image set name n marks))) ∙ p.so c (omega (arith, ap length e, marked_length image set name n marks));
      }
    where
      step : (c : ℕ) → c < length marks
          → cond (some (is_property image c set name) n (count - n)) OF_PROPERTY (get_or marks c 0) ≡ cond (some (is_property image c set name) (n + 1) (count - (n + 1))) OF_PROPERTY (get_or after c 0)
      step c l = rw (one_more, e, marked_at image set name n marks c l, add-one n) (either (is_property image c set name n) (some (is_property image c set name) (suc n) (count - suc n)) (get_or marks c 0))
        where
          one_more : count - n ≡ suc (count - (n + 1))
          one_more = omega arith

  pub marking_end : count ≤ n → marks ≡ property_marks image set name 0 size
  unfolding some
  marking_end h =
      ext_get_or 0 marks (property_marks image set name 0 size) (p.long ∙ sym (marks_length image set name 0 size))
      (λ c l. none c ∙ p.so c l ∙ sym (marks_from image set name 0 size c (omega (arith, p.long)) ∙ ap (λ (c : ℕ). mark_of (has_property image c set name)) (omega arith)))
    where
      none : (c : ℕ) → get_or marks c 0 ≡ cond (some (is_property image c set name) n (count - n)) OF_PROPERTY (get_or marks c 0)
      none c = let over : count - n ≡ 0 = omega arith in rw over

-- the owner of a property is marked where there is a mark
pub owner_outside : (image marks : List ℕ) (property : ℕ) {owner : ℕ} → owner ≡ property_component image property → length marks ≤ owner → marks ≡ set marks (property_component image property) OF_PROPERTY
owner_outside image marks property {owner} f l = rw (← f) (sym (set_out marks owner OF_PROPERTY l))

-- a property that was looked at
module _ (image set_name name : List ℕ) (property : ℕ) (marks : List ℕ) where
  pub marked_named : is_named image set_name name property ≡ true → set marks (property_component image property) OF_PROPERTY ≡ marked image set_name name property marks
  unfolding marked
  marked_named e = rw e

  pub marked_other : is_named image set_name name property ≡ false → marks ≡ marked image set_name name property marks
  unfolding marked
  marked_other e = rw e

-- ---- components looked at for a feature

module _ (image name : List ℕ) where
  pub features_length : (n c : ℕ) (marks : List ℕ) → length (feature_marks image name n c marks) ≡ length marks
  unfolding feature_marks
  features_length n c [] = refl
  features_length n c (mark ∷ marks) = ap suc (features_length n (suc c) marks)

  features_from_lem : (n c : ℕ) (marks : List ℕ) (k : ℕ) → k < length marks → get_or (feature_marks image name n c marks) k 0 ≡ feature_mark image name n (c + k) (get_or marks k 0)
  unfolding feature_marks
  features_from_lem n c [] k h = absurd (omega arith)
  features_from_lem n c (mark ∷ marks) zero h = ap (λ (c : ℕ). feature_mark image name n c mark) (omega arith)
  features_from_lem n c (mark ∷ marks) (suc k) h =
      features_from_lem n (suc c) marks k (omega arith) ∙ ap (λ (c : ℕ). feature_mark image name n c (get_or marks k 0)) (omega arith)

  features_at : (n : ℕ) (marks : List ℕ) (c : ℕ) → c < length marks → get_or (feature_marks image name n 0 marks) c 0 ≡ feature_mark image name n c (get_or marks c 0)
  features_at n marks c h = features_from_lem n 0 marks c h ∙ ap (λ (x : ℕ). feature_mark image name n x (get_or marks c 0)) (omega arith)

  -- a component that is not one of the first n, and one that is
  mark_past : (n c mark : ℕ) → n ≤ c → feature_mark image name n c mark ≡ mark
  unfolding feature_mark
  mark_past n c mark h = rw (le-ltb c n h)

  mark_in_lem : (n c mark : ℕ) → c < n → feature_mark image name n c mark ≡ cond (eqb mark 0 && has_feature image c name) OF_FEATURE mark
  unfolding feature_mark
  mark_in_lem n c mark h = rw (lt-ltb c n h)

  mark_other : (n c mark : ℕ) → (n ≡ c → ⊥) → feature_mark image name n c mark ≡ feature_mark image name (n + 1) c mark
  mark_other n c mark d =
      whether (ltb c n)
      (λ t. mark_in_lem n c mark (ltb-true c n t) ∙ sym (mark_in_lem (n + 1) c mark (omega (arith, ltb-true c n t))))
      (λ t. mark_past n c mark (ltb-false c n t) ∙ sym (mark_past (n + 1) c mark (omega (arith, d, ltb-false c n t))))

  -- none is looked at yet
  pub features_start : (marks : List ℕ) → marks ≡ feature_marks image name 0 0 marks
  features_start marks =
      ext_get_or 0 marks (feature_marks image name 0 0 marks) (sym (features_length 0 0 marks))
      (λ c h. sym (features_at 0 marks c h ∙ mark_past 0 c (get_or marks c 0) (omega arith)))

  -- one more is
  features_on : (n : ℕ) (before : List ℕ) {marks after : List ℕ} → marks ≡ feature_marks image name n 0 before → after ≡ featured image name n marks → after ≡ feature_marks image name (n + 1) 0 before
  unfolding featured
  features_on n before {marks} {after} e f =
      ext_get_or 0 after (feature_marks image name (n + 1) 0 before) (long ∙ sym (features_length (n + 1) 0 before))
      (λ c h. ap (λ (m : List ℕ). get_or m c 0) f
      ∙ mark_at OF_FEATURE (eqb (get_or marks n 0) 0 && has_feature image n name) marks n c (omega (arith, h, long, ap length e, features_length n 0 before))
      ∙ step c (omega (arith, h, long)))
    where
      long : length after ≡ length before
      long = ap length f ∙ mark_length OF_FEATURE (eqb (get_or marks n 0) 0 && has_feature image n name) marks n ∙ ap length e ∙ features_length n 0 before

      was : (c : ℕ) → c < length before → get_or marks c 0 ≡ feature_mark image name n c (get_or before c 0)
      was c h = ap (λ (m : List ℕ). get_or m c 0) e ∙ features_at n before c h

      here : n < length before → cond (eqb (get_or marks n 0) 0 && has_feature image n name) OF_FEATURE (get_or marks n 0) ≡ get_or (feature_marks image name (n + 1) 0 before) n 0
      here h =
          ap (λ (mark : ℕ). cond (eqb mark 0 && has_feature image n name) OF_FEATURE mark) (was n h ∙ mark_past n n (get_or before n 0) (omega arith))
          ∙ sym (features_at (n + 1) before n h ∙ mark_in_lem (n + 1) n (get_or before n 0) (omega arith))

      step : (c : ℕ) → c < length before → cond (eqb n c && (eqb (get_or marks n 0) 0 && has_feature image n name)) OF_FEATURE (get_or marks c 0) ≡ get_or (feature_marks image name (n + 1) 0 before) c 0
      step c h =
          whether (eqb n c)
          (λ t. rw t (subst (λ (x : ℕ). cond (eqb (get_or marks n 0) 0 && has_feature image n name) OF_FEATURE (get_or marks x 0) ≡ get_or (feature_marks image name (n + 1) 0 before) x 0) (eqb-true n c t) (here (omega (arith, eqb-true n c t)))))
          (λ t. rw t (was c h ∙ mark_other n c (get_or before c 0) (eqb-false n c t) ∙ sym (features_at (n + 1) before c h)))

-- where no component has a feature of the name, every mark stays
pub features_none : (image name : List ℕ) → ((c : ℕ) → has_feature image c name ≡ false) → (n : ℕ) (marks : List ℕ) → marks ≡ feature_marks image name n 0 marks
unfolding feature_mark
features_none image name none n marks =
    ext_get_or 0 marks (feature_marks image name n 0 marks) (sym (features_length image name n 0 marks))
    (λ c h. sym (features_at image name n marks c h ∙ rw (none c, and-false (eqb (get_or marks c 0) 0), and-false (ltb c n))))

-- a component past the marks, one that has a mark, and one that has none
module _ (image name : List ℕ) (c : ℕ) (marks : List ℕ) where
  pub featured_outside : length marks ≤ c → marks ≡ featured image name c marks
  unfolding featured
  featured_outside h = whether (eqb (get_or marks c 0) 0 && has_feature image c name) (λ e. rw e (sym (set_out marks c OF_FEATURE h))) (λ e. rw e)

  pub featured_marked : (get_or marks c 0 ≡ 0 → ⊥) → marks ≡ featured image name c marks
  unfolding featured
  featured_marked h = rw (ne_eqb (get_or marks c 0) 0 h)

  module _ {r : Bool} (h : get_or marks c 0 ≡ 0) (e : r ≡ has_feature image c name) where
    pub featured_set : r ≡ true → set marks c OF_FEATURE ≡ featured image name c marks
    unfolding featured
    featured_set t = rw (eq-eqb (get_or marks c 0) 0 h, sym e ∙ t)

    pub featured_unset : r ≡ false → marks ≡ featured image name c marks
    unfolding featured
    featured_unset t = rw (eq-eqb (get_or marks c 0) 0 h, sym e ∙ t)

-- how many components were looked at
pub record Featuring (image name before : List ℕ) (count n : ℕ) (marks : List ℕ) : Type 0 where
  pub within : n ≤ count
  pub so : marks ≡ feature_marks image name n 0 before

module _ {image name before marks : List ℕ} {count n : ℕ} (p : Featuring image name before count n marks) where
  pub featuring_on : {after : List ℕ} → n < count → after ≡ featured image name n marks → Featuring image name before count (n + 1) after
  featuring_on h e = record { within = omega arith; so = features_on image name n before p.so e }

-- a text by its properties and by the names of features: each component below the numbers has its mark
pub marks_both : (image value : List ℕ) (n c : ℕ) → c < n → c < component_count image
    → get_or (feature_marks image value (component_count image) 0 (marks_of image value n)) c 0 ≡ mark_by (has_property image c (property_set_of value) (property_name_of value)) (has_feature image c value)
unfolding marks_of
marks_both image value n c h l =
    features_at image value (component_count image) (marks_of image value n) c (omega (arith, h, marks_length image (property_set_of value) (property_name_of value) 0 n))
    ∙ mark_in_lem image value (component_count image) c (get_or (marks_of image value n) c 0) l
    ∙ ap (λ (mark : ℕ). cond (eqb mark 0 && has_feature image c value) OF_FEATURE mark) (marks_at image value n c h)
    ∙ by (has_property image c (property_set_of value) (property_name_of value)) (has_feature image c value)
  where
    by : (property feature : Bool) → cond (eqb (mark_of property) 0 && feature) OF_FEATURE (mark_of property) ≡ mark_by property feature
    by true feature = refl
    by false true = refl
    by false false = refl

-- Features and properties by the texts of their strings; and where no feature has a name, no component has one. Assumes nothing.
use mathlib.Core.Path.{◌≡◌, refl, sym, ap, ◌∙◌}
use mathlib.Core.Bool.{Bool, true, false}
use mathlib.Core.List.{List}
use Prim.Native.Nat.{ℕ, zero, suc, ◌+◌, ◌-◌, ◌*◌, ◌≤◌, ◌<◌, max}
use native.Mathlib.Omega.{arith}
use Rattle.syntax.specs.Text.{same}
use Rattle.std.proofs.lemmas.Bool.{cases_eq, cases_lt}
use Rattle.std.proofs.Common.{inl, inr}
use Rattle.board.specs.declared.image.Section.TheVariants.{Features}
use Rattle.board.specs.Image.{TRIPLE_SIZE, word, section_offset, text, feature_count, property_set, property_name}
use Rattle.instance.specs.Instance.{some, features_end, feature_is, has_feature}
use Rattle.instance.specs.Places.{feature_is_at}
use Rattle.instance.proofs.PlaceLaws.{feature_placed}
use Rattle.marks.specs.Marks.{is_named, NoneBefore}

-- a feature by the string that was read at its place
pub feature_named : (image name : List ℕ) (feature string : ℕ) {first : ℕ} {r : Bool} → first ≡ section_offset image Features → string ≡ word image (first + TRIPLE_SIZE * feature)
    → r ≡ same (text image string) name → feature_is image name feature ≡ r
unfolding feature_is_at
feature_named image name feature string f e h = sym (feature_placed image name f feature) ∙ ap (λ (s : ℕ). same (text image s) name) (sym e) ∙ sym h

-- a property by the texts of its set and its name
module _ (image set name : List ℕ) (property : ℕ) where
  pub named : same (text image (property_set image property)) set ≡ true → same (text image (property_name image property)) name ≡ true → is_named image set name property ≡ true
  unfolding is_named
  named s n = rw (s, n)

  pub other_set : same (text image (property_set image property)) set ≡ false → is_named image set name property ≡ false
  unfolding is_named
  other_set s = rw s

  pub other_name : same (text image (property_set image property)) set ≡ true → same (text image (property_name image property)) name ≡ false → is_named image set name property ≡ false
  unfolding is_named
  other_name s n = rw (s, n)

-- ---- features before one do not have the name

-- where the first k of some records do not pass, the others say whether some do
some_past : (p : ℕ → Bool) (n k m : ℕ) → ((j : ℕ) → j < n + k → p j ≡ false) → some p n (k + m) ≡ some p (n + k) m
unfolding some
some_past p n zero m f = let none : 0 + m ≡ m = omega arith in let here : n + 0 ≡ n = omega arith in rw (none, here)
some_past p n (suc k) m f =
    let one : suc k + m ≡ suc (k + m) = omega arith in
    let next : n + suc k ≡ suc n + k = omega arith in
    rw (one, f n (omega arith), next) (some_past p (suc n) k m (λ j h. f j (omega (arith, h))))

some_none_of : (p : ℕ → Bool) (n m : ℕ) → ((k : ℕ) → n ≤ k → k < n + m → p k ≡ false) → some p n m ≡ false
unfolding some
some_none_of p n zero f = refl
some_none_of p n (suc m) f = rw (f n (omega arith) (omega arith)) (some_none_of p (suc n) m (λ k h l. f k (omega arith) (omega arith)))

-- one more was asked
pub none_next : (image name : List ℕ) {n : ℕ} → NoneBefore image name n → feature_is image name n ≡ false → NoneBefore image name (n + 1)
none_next image name {n} f e k h = elim (cases_eq k n) [ inl here ↦ ap (feature_is image name) here ∙ e | inr past ↦ f k (omega (arith, h, past)) ]

-- where no feature has the name, no component has one
pub none_has : (image name : List ℕ) → NoneBefore image name (feature_count image) → (c : ℕ) → has_feature image c name ≡ false
unfolding has_feature features_end
none_has image name f c = some_none_of (feature_is image name) _ _ (λ k g l. f k (omega (arith, g, l)))

-- a component's features are looked at from the place on before which none has the name
pub past_none : (image name : List ℕ) {before start : ℕ} → NoneBefore image name before → (first end : ℕ) → start ≡ max first before
    → some (feature_is image name) start (end - start) ≡ some (feature_is image name) first (end - first)
unfolding some
past_none image name {before} {start} f first end e = elim (cases_lt first before) [
  | inr low ↦ let here : start ≡ first = omega (arith, low, e) in rw here
  | inl high ↦ elim (cases_lt before end) [
    | inr short ↦
        let over : end - start ≡ 0 = omega (arith, short, e) in
        rw over (sym (some_none_of (feature_is image name) first (end - first) (λ k g l. f k (omega (arith, g, l, short, high)))))
    | inl long ↦
        let parts : end - first ≡ (start - first) + (end - start) = omega (arith, high, long, e) in
        let there : first + (start - first) ≡ start = omega (arith, high, e) in
        rw parts (sym (some_past (feature_is image name) first (start - first) (end - start) (λ j h. f j (omega (arith, h, high, e))) ∙ rw there))
  ]
]

-- Records by the places of their bytes: the numbers there are those of the records, and a loop goes over the records from place to
-- place. Assumes nothing.
use mathlib.Core.Path.{◌≡◌, sym, subst, ◌∙◌}
use mathlib.Core.Bool.{Bool, true, false, cond, ◌||◌, or-false, or_self}
use mathlib.Core.List.{List}
use Prim.Native.Nat.{ℕ, zero, suc, ◌+◌, ◌*◌, ◌-◌, ◌≤◌, ◌<◌}
use native.Mathlib.Nat.{add-zero, sub-zero}
use native.Mathlib.Numerals.{add-one}
use native.Mathlib.Omega.{arith}
use borrow.Author.Tests.{eq-eqb, ne_eqb, le-leb}
use lib.Dec.{eqb, eqb-suc-zero, eqb-suc-suc}
use lib.ListN.{length, take, length-take}
use lib.Seq.{get_or-take}
use Rattle.board.specs.Image.{NUMBER_SIZE, COMPONENT_SIZE, TRIPLE_SIZE, little_endian, word, field, section_offset, record_count, connection_count, property_count, wired, owner}
use Rattle.board.specs.declared.image.Section.{Section}
use Rattle.board.specs.declared.image.Section.TheVariants.{Components, Connections, Features, Properties}
use Rattle.instance.specs.Instance.{some, joins, owner_unwired, is_property, has_property, feature_is}
use Rattle.instance.specs.Places.{FIFTH, other_owner, joins_at, is_property_at, feature_is_at, Skipped, IsOwned, record_passes}
use Rattle.instance.proofs.InstanceLaws.{Searching, searching_hit, searching_miss, searching_done}

-- a number that lies in an image's front is the image's
word_front : (image : List ℕ) (end at : ℕ) → at + NUMBER_SIZE ≤ length (take end image) → word (take end image) at ≡ word image at
unfolding word little_endian
word_front image end at h =
    let k : at + NUMBER_SIZE ≤ end = omega (arith, length-take end image) in
    let l : at + NUMBER_SIZE ≤ length image = omega (arith, length-take end image) in
    rw (
      le-leb (at + NUMBER_SIZE) (length (take end image)) h,
      le-leb (at + NUMBER_SIZE) (length image) l,
      get_or-take end image at 0 (omega arith),
      get_or-take end image (at + 1) 0 (omega arith),
      get_or-take end image (at + 2) 0 (omega arith),
      get_or-take end image (at + 3) 0 (omega arith),
    )

-- the two that may own a connection, by the parent's number plus 1 or by its number
owners : (owner component p : ℕ) → (eqb owner component || eqb (owner + 1) p) ≡ (eqb owner component || eqb owner (cond (eqb p 0) component (p - 1)))
owners owner component zero =
    rw (ne_eqb (owner + 1) 0 (λ h. omega arith)) (or-false (eqb owner component) ∙ sym (or_self (eqb owner component)))
owners owner component (suc p) =
    let before : suc p - 1 ≡ p = omega arith in
    rw (add-one owner, eqb-suc-zero p, eqb-suc-suc owner p, before)

-- a record and what stands at its place
connection_placed : (image : List ℕ) (component : ℕ) {other : ℕ} (name : List ℕ) → other ≡ other_owner image component
    → (n : ℕ) → joins image component name n ≡ record_passes (joins_at image component other name) image Connections n
unfolding joins joins_at other_owner field
connection_placed image component name f n = rw (f, add-zero (section_offset image Connections + TRIPLE_SIZE * n), owners)

property_placed : (image : List ℕ) (component : ℕ) (set name : List ℕ)
    → (n : ℕ) → is_property image component set name n ≡ record_passes (is_property_at image component set name) image Properties n
unfolding is_property is_property_at field
property_placed image component set name n = rw (add-zero (section_offset image Properties + TRIPLE_SIZE * n))

-- so what is said of the places is said of the records
pub connections_placed : (image : List ℕ) (component : ℕ) {other : ℕ} (name : List ℕ) {r : Bool} → other ≡ other_owner image component
    → r ≡ some (record_passes (joins_at image component other name) image Connections) 0 (record_count image Connections)
    → r ≡ some (joins image component name) 0 (connection_count image)
connections_placed image component name f e =
    e ∙ sym (λ j. some (λ n. connection_placed image component name f n j) 0 (connection_count image))

pub properties_whole : (image : List ℕ) (component : ℕ) (set name : List ℕ) {r : Bool}
    → r ≡ some (record_passes (is_property_at image component set name) image Properties) 0 (record_count image Properties)
    → r ≡ has_property image component set name
unfolding has_property
properties_whole image component set name e =
    e ∙ sym (λ j. some (λ n. property_placed image component set name n j) 0 (property_count image))

module _ (image : List ℕ) {first : ℕ} where
  pub feature_placed : (name : List ℕ) → first ≡ section_offset image Features
      → (n : ℕ) → feature_is_at image name (first + TRIPLE_SIZE * n) ≡ feature_is image name n
  unfolding feature_is feature_is_at field
  feature_placed name e n = rw (e, add-zero (section_offset image Features + TRIPLE_SIZE * n))

-- the owner of a connection, whose mark was read at its place
module _ (image : List ℕ) {connections components : ℕ} (e : connections ≡ section_offset image Connections) (f : components ≡ section_offset image Components) (n : ℕ)
    {o w : ℕ} (g : o ≡ word image (connections + TRIPLE_SIZE * n)) (k : w ≡ word image (components + COMPONENT_SIZE * o + FIFTH)) where
  owner_mark : w ≡ wired image (owner image n)
  unfolding field
  owner_mark = k ∙ rw (g, f, e, add-zero (section_offset image Connections + TRIPLE_SIZE * n))

  pub owner_wired : w ≡ 1 → owner_unwired image n ≡ false
  owner_wired h = rw (← owner_mark, eq-eqb w 1 h)

  pub owner_unwired_lem : (w ≡ 1 → ⊥) → owner_unwired image n ≡ true
  owner_unwired_lem h = rw (← owner_mark, ne_eqb w 1 h)

-- a connection that is neither of two components', and a property of another one
module _ (image : List ℕ) (component other : ℕ) (name : List ℕ) (at : ℕ) where
  pub joins_foreign : {o : ℕ} → o ≡ word image at → (o ≡ component → ⊥) → (o ≡ other → ⊥) → false ≡ joins_at image component other name at
  unfolding joins_at
  joins_foreign {o} e h k = rw (← e, ne_eqb o component h, ne_eqb o other k)

module _ (image : List ℕ) (component : ℕ) (set name : List ℕ) (at : ℕ) {x : ℕ} (e : x ≡ word image at) where
  pub property_elsewhere : (x ≡ component → ⊥) → false ≡ is_property_at image component set name at
  unfolding is_property_at
  property_elsewhere h = rw (← e, ne_eqb x component h)

-- the records of a section are passed over up to the one at a place
pub record Walking (passes : ℕ → Bool) (first count at : ℕ) (whole : Bool) : Type 0 where
  pub n : ℕ
  pub place : at ≡ first + TRIPLE_SIZE * n
  pub rest : Searching (λ n. passes (first + TRIPLE_SIZE * n)) count n whole

pub walking_start : (p : ℕ → Bool) (image : List ℕ) (section : Section) {first count : ℕ} → first ≡ section_offset image section
    → count ≡ record_count image section → Walking p first count first (some (record_passes p image section) 0 (record_count image section))
walking_start p image section {first} {count} e f =
    record { n = 0; place = sym (add-zero first); rest = record { rest = rw (e, f, sub-zero (record_count image section)) } }

module _ {passes : ℕ → Bool} {first count at : ℕ} {whole : Bool} (w : Walking passes first count at whole) where
  -- the record at a place before the section's end
  within : at < first + TRIPLE_SIZE * count → w.n < count
  within h = omega (arith, w.place)

  pub walking_hit : at < first + TRIPLE_SIZE * count → passes at ≡ true → true ≡ whole
  walking_hit h e = searching_hit w.rest (within h) (subst (λ (k : ℕ). passes k ≡ true) w.place e)

  pub walking_miss : at < first + TRIPLE_SIZE * count → passes at ≡ false → Walking passes first count (at + TRIPLE_SIZE) whole
  walking_miss h e =
      record {
        n = w.n + 1;
        place = omega (arith, w.place);
        rest = searching_miss w.rest (within h) (subst (λ (k : ℕ). passes k ≡ false) w.place e);
      }

  pub walking_done : first + TRIPLE_SIZE * count ≤ at → false ≡ whole
  walking_done h = searching_done w.rest (omega (arith, w.place))

pub skipped_onward : {records : List ℕ} {one other from at : ℕ} → Skipped records one other from at → from ≤ at
skipped_onward Skipped.none = omega arith
skipped_onward (Skipped.past s h a b) = omega (arith, skipped_onward s)

-- records whose first number says that they do not pass are skipped
pub record Passing (passes : ℕ → Bool) (first count : ℕ) (records : List ℕ) (one other : ℕ) : Type 0 where
  pub inside : (at : ℕ) → at + NUMBER_SIZE ≤ length records → at < first + TRIPLE_SIZE * count
  pub unlike : (at : ℕ) → at + NUMBER_SIZE ≤ length records → (word records at ≡ one → ⊥) → (word records at ≡ other → ⊥) → passes at ≡ false

pub walking_over : {passes : ℕ → Bool} {first count from : ℕ} {records : List ℕ} {one other : ℕ} {at : ℕ} {whole : Bool} → Passing passes first count records one other
    → Walking passes first count from whole → Skipped records one other from at → Walking passes first count at whole
walking_over p w Skipped.none = w
walking_over p w (Skipped.past {at} s h a b) = walking_miss (walking_over p w s) (p.inside at h) (p.unlike at h a b)

-- a place in the front of an image that ends with a section is before the section's end
front_inside : (image : List ℕ) (end at : ℕ) → at + NUMBER_SIZE ≤ length (take end image) → at < end
front_inside image end at h = omega (arith, length-take end image)

pub owned_passing : {p : ℕ → Bool} (image : List ℕ) {records : List ℕ} {one other first count : ℕ} → IsOwned p image one other
    → records ≡ take (first + TRIPLE_SIZE * count) image → Passing p first count records one other
owned_passing {p} image {records} {one} {other} {first} {count} o e =
    let end : ℕ = first + TRIPLE_SIZE * count in
    rw e (record {
      inside = front_inside image end;
      unlike = λ at h a b. o at (omega (arith, length-take end image)) (λ d. a (word_front image end at h ∙ d)) (λ d. b (word_front image end at h ∙ d));
    })

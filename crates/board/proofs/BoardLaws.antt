-- An image that `check_image` passes is well formed, and the collection table has room. Assumes nothing.
use mathlib.Core.Path.{◌≡◌, refl, sym, ap, subst, ◌∙◌}
use mathlib.Core.Bool.{Bool, true, false, cond, not, ◌&&◌}
use mathlib.Core.List.{List}
use Prim.Native.Nat.{ℕ, zero, suc, ◌+◌, ◌-◌, ◌*◌, ◌/◌, ◌%◌, ◌≤◌, ◌<◌}
use native.Mathlib.Decide.{dec_lt}
use native.Mathlib.Nat.{mul-suc, mul-le-mul_left}
use native.Mathlib.Numerals.{add-one}
use native.Mathlib.Omega.{arith}
use lib.Dec.{eqb, ltb, leb}
use lib.ListN.{length, take, drop, length-drop}
use lib.Seq.{take-take, drop-drop, take-add, drop_at, length-take-le}
use borrow.Author.Tests.{eq-eqb, eqb-true, leb-true, ltb-true, ltb-false, le-leb}
use Rattle.syntax.specs.Utf8.{utf8, is_ascii}
use Rattle.syntax.proofs.BoolLaws.{both, neither}
use Rattle.syntax.proofs.Utf8Laws.{ascii_utf8, ascii_take, ascii_drop}
use Rattle.std.specs.Prelude.{Ok, Err}
use Rattle.syntax.specs.Refusal.{Check}
use Rattle.syntax.specs.declared.refusal.Refusal.{Refusal}
use Rattle.syntax.specs.declared.refusal.Refusal.TheVariants.{ImageBadSections, ImageBadStrings, ImageBadRecords, CollectionTooShort}
use Rattle.board.specs.declared.image.Section.{Section}
use Rattle.board.specs.declared.image.Section.TheVariants.{Letters, Strings, Components, Features, Connections, Properties, Diagnostics}
use Rattle.board.specs.Image.{NUMBER_SIZE, little_endian, word, SECTIONS, section_number, pair_offset, pair_length, section_offset, section_length, record_size, record_count, field, text, text_offset, string_count, string_offset, string_length, component_count, category, parent, first_feature, owned_features, wired, feature_count, feature_name, feature_kind, direction, connection_count, owner, source, target, property_count, property_component, property_set, property_name, diagnostic_count, analysis, severity, message}
use Rattle.board.specs.Check.{laid, each, PAIRS_SIZE, MAX_IMAGE, CATEGORIES, WIRED_MARKS, FEATURE_KINDS, DIRECTIONS, SEVERITIES, COLLECTION_ROW, whole_records, all_whole_records, sections_laid, sections_fit, strings_laid, strings_utf8, strings_fit, component_fits, features_laid, components_fit, feature_fits, features_fit, connection_fits, connections_fit, property_fits, properties_fit, diagnostic_fits, diagnostics_fit, records_fit, collection_short, check_image}
use Rattle.board.specs.WellFormed.{total, EndToEnd, letters, WellFormed, Room}

-- all of three tests
three : (p q r : Bool) → (p && (q && r)) ≡ true → (p ≡ true) × (q ≡ true) × (r ≡ true)
three p q r h =
    let a = both p (q && r) h in
    let b = both q r a.1 in
    (a.0, b.0, b.1)

-- what holds at a number and at each after it holds from it on
from_on : (P : ℕ → Type 0) {n k : ℕ} → n ≤ k → P n → (n < k → P k) → P k
from_on P {n} {k} a here later = go (dec_lt n k)
  where
    go : Dec (n < k) → P k
    go (yes l) = later l
    go (no l) = let same : n ≡ k = omega arith in subst P same here

-- what each of m records from n on passes, one of them passes
each_at : (passes : ℕ → Bool) (n m : ℕ) → each passes n m ≡ true → (k : ℕ) → n ≤ k → k < n + m → passes k ≡ true
unfolding each
each_at passes n zero h k a b = absurd (omega arith)
each_at passes n (suc m) h k a b =
    let parts = both (passes n) (each passes (suc n) m) h in
    from_on (λ j. passes j ≡ true) a parts.0 (λ l. each_at passes (suc n) m parts.1 k l (omega arith))

passes_at : (passes : ℕ → Bool) (count : ℕ) → each passes 0 count ≡ true → (n : ℕ) → n < count → passes n ≡ true
passes_at passes count h n l = each_at passes 0 count h n (omega arith) (omega arith)

-- and what each one passes, all of them pass
each_all : (passes : ℕ → Bool) (n m : ℕ) → ((k : ℕ) → n ≤ k → k < n + m → passes k ≡ true) → each passes n m ≡ true
unfolding each
each_all passes n zero h = refl
each_all passes n (suc m) h = rw (h n (omega arith) (omega arith)) (each_all passes (suc n) m (λ k a b. h k (omega arith) (omega arith)))

module _ (offset long : ℕ → ℕ) where
  -- m pairs from n on, end to end from `at`
  record Onward (n m at end : ℕ) : Type 0 where
    first : 0 < m → offset n ≡ at
    next : (k : ℕ) → n ≤ k → k + 1 < n + m → offset (k + 1) ≡ offset k + long k
    last : (k : ℕ) → n ≤ k → k + 1 ≡ n + m → offset k + long k ≡ end
    empty : m ≡ 0 → at ≡ end
    within : (k : ℕ) → n ≤ k → k < n + m → offset k + long k ≤ end
    whole : at + total long n m ≡ end

  onward_none : (n at end : ℕ) → at ≡ end → Onward n 0 at end
  unfolding total
  onward_none n at end e =
      record {
        first = λ l. absurd (omega arith);
        next = λ k a b. absurd (omega arith);
        last = λ k a b. absurd (omega arith);
        empty = λ z. e;
        within = λ k a b. absurd (omega arith);
        whole = omega arith;
      }

  onward_one : (n m at end : ℕ) → offset n ≡ at → Onward (suc n) m (at + long n) end → Onward n (suc m) at end
  unfolding total
  onward_one n m at end here rest =
      record {
        first = λ l. here;
        next =
            λ k a.
            from_on (λ j. j + 1 < n + suc m → offset (j + 1) ≡ offset j + long j) a (λ b. rw (here, add-one) (rest.first (omega arith)))
            (λ l b. rest.next k l (omega arith));
        last = λ k a. from_on (λ j. j + 1 ≡ n + suc m → offset j + long j ≡ end) a (λ b. rw here (rest.empty (omega arith))) (λ l b. rest.last k l (omega arith));
        empty = λ e. absurd (omega arith);
        within = λ k a. from_on (λ j. j < n + suc m → offset j + long j ≤ end) a (λ b. omega (arith, rest.whole, here)) (λ l b. rest.within k l (omega arith));
        whole = omega (arith, rest.whole);
      }

  onward : (n m at end : ℕ) → laid offset long n m at end ≡ true → Onward n m at end
  unfolding laid
  onward n zero at end h = onward_none n at end (eqb-true at end h)
  onward n (suc m) at end h =
      let parts = both (eqb (offset n) at) (laid offset long (suc n) m (at + long n) end) h in
      onward_one n m at end (eqb-true (offset n) at parts.0) (onward (suc n) m (at + long n) end parts.1)

  pub laid_end_to_end : (count from end : ℕ) → laid offset long 0 count from end ≡ true → EndToEnd offset long count from end
  laid_end_to_end count from end h =
      let all = onward 0 count from end h in
      record {
        first = all.first;
        next = λ n l. all.next n (omega arith) (omega arith);
        last = λ n e. all.last n (omega arith) (omega arith);
        empty = all.empty;
        within = λ n l. all.within n (omega arith) (omega arith);
        whole = all.whole;
      }

-- a part of a part is a part of the whole
part_of_part : (xs : List ℕ) (o size s n : ℕ) → s + n ≤ size → o + s ≤ length xs → take n (drop s (take size (drop o xs))) ≡ take n (drop (o + s) xs)
part_of_part xs o size s n h l =
    let split : size ≡ s + (size - s) = omega arith in
    let room : s ≤ length (drop o xs) = omega (arith, length-drop o xs) in
    ap (λ (m : ℕ). take n (drop s (take m (drop o xs)))) split
    ∙ ap (λ (ys : List ℕ). take n (drop s ys)) (take-add s (size - s) (drop o xs))
    ∙ ap (take n) (drop_at (take s (drop o xs)) (take (size - s) (drop s (drop o xs))) s (length-take-le s (drop o xs) room))
    ∙ take-take n (size - s) (drop s (drop o xs)) (omega arith)
    ∙ ap (take n) (drop-drop s o xs)

section_number_lem : (s : Section) → section_number s < SECTIONS
section_number_lem Letters = omega arith
section_number_lem Strings = omega arith
section_number_lem Components = omega arith
section_number_lem Features = omega arith
section_number_lem Connections = omega arith
section_number_lem Properties = omega arith
section_number_lem Diagnostics = omega arith

-- refusal 5 does not come
record Sections (image : List ℕ) : Type 0 where
  least : PAIRS_SIZE ≤ length image
  most : length image ≤ MAX_IMAGE
  sections : EndToEnd (pair_offset image) (pair_length image) SECTIONS PAIRS_SIZE (length image)
  whole : (s : Section) → whole_records image s ≡ true

whole_at : (image : List ℕ) → all_whole_records image ≡ true → (s : Section) → whole_records image s ≡ true
unfolding all_whole_records
whole_at image h s =
    let a = both (whole_records image Strings) _ h in
    let b = both (whole_records image Components) _ a.1 in
    let c = both (whole_records image Features) _ b.1 in
    let d = both (whole_records image Connections) _ c.1 in
    let e = both (whole_records image Properties) (whole_records image Diagnostics) d.1 in
    elim s as (λ (k : Section). whole_records image k ≡ true) [
      | Letters ↦ eq-eqb (section_length image Letters % 1) 0 (omega arith)
      | Strings ↦ a.0
      | Components ↦ b.0
      | Features ↦ c.0
      | Connections ↦ d.0
      | Properties ↦ e.0
      | Diagnostics ↦ e.1
    ]

sections_of : (image : List ℕ) → sections_fit image ≡ true → Sections image
unfolding sections_fit sections_laid
sections_of image h =
    let a = three (leb PAIRS_SIZE (length image)) (leb (length image) MAX_IMAGE) (sections_laid image && all_whole_records image) h in
    let b = both (sections_laid image) (all_whole_records image) a.2 in
    record {
      least = leb-true PAIRS_SIZE (length image) a.0;
      most = leb-true (length image) MAX_IMAGE a.1;
      sections = laid_end_to_end (pair_offset image) (pair_length image) SECTIONS PAIRS_SIZE (length image) b.0;
      whole = whole_at image b.1;
    }

section_records_lem : (image : List ℕ) → ((s : Section) → whole_records image s ≡ true) → (s : Section) → record_size s * record_count image s ≡ section_length image s
unfolding record_count
section_records_lem image h Letters = omega arith
section_records_lem image h Strings = omega (arith, eqb-true (section_length image Strings % 8) 0 (h Strings))
section_records_lem image h Components = omega (arith, eqb-true (section_length image Components % 20) 0 (h Components))
section_records_lem image h Features = omega (arith, eqb-true (section_length image Features % 12) 0 (h Features))
section_records_lem image h Connections = omega (arith, eqb-true (section_length image Connections % 12) 0 (h Connections))
section_records_lem image h Properties = omega (arith, eqb-true (section_length image Properties % 12) 0 (h Properties))
section_records_lem image h Diagnostics = omega (arith, eqb-true (section_length image Diagnostics % 12) 0 (h Diagnostics))

record_within_lem : (image : List ℕ) (s : Section) (n : ℕ) → record_size s * record_count image s ≡ section_length image s → section_offset image s + section_length image s ≤ length image → n < record_count image s → section_offset image s + record_size s * n + record_size s ≤ length image
record_within_lem image s n e w l = omega (arith, mul-suc (record_size s) n, mul-le-mul_left (record_size s) l)

-- each section lies in the image, and its records fill it
module _ (image : List ℕ) (h : sections_fit image ≡ true) (s : Section) where
  pub section_within_lem : section_offset image s + section_length image s ≤ length image
  section_within_lem = (sections_of image h).sections.within (section_number s) (section_number_lem s)

  pub section_filled : record_size s * record_count image s ≡ section_length image s
  section_filled = section_records_lem image (sections_of image h).whole s

  pub record_in : (n : ℕ) → n < record_count image s → section_offset image s + record_size s * n + record_size s ≤ length image
  record_in n l = record_within_lem image s n section_filled section_within_lem l

pub few_strings : (image : List ℕ) → sections_fit image ≡ true → string_count image ≤ MAX_IMAGE
few_strings image h = omega (arith, (sections_of image h).most, section_within_lem image h Strings, section_filled image h Strings)

-- refusal 6 does not come
strings_end_to_end : (image : List ℕ) → strings_laid image ≡ true → EndToEnd (string_offset image) (string_length image) (string_count image) 0 (section_length image Letters)
unfolding strings_laid
strings_end_to_end image = laid_end_to_end (string_offset image) (string_length image) (string_count image) 0 (section_length image Letters)

strings_laid_lem : (image : List ℕ) → strings_fit image ≡ true → strings_laid image ≡ true
unfolding strings_fit
strings_laid_lem image h = (both (strings_laid image) (strings_utf8 image) h).0

texts_of : (image : List ℕ) → strings_fit image ≡ true → (n : ℕ) → n < string_count image → utf8 (text image n) ≡ true
unfolding strings_fit strings_utf8
texts_of image h = passes_at (λ n. utf8 (text image n)) (string_count image) (both (strings_laid image) (strings_utf8 image) h).1

-- a text that lies in the image
module _ (image : List ℕ) (n : ℕ) (h : text_offset image n + string_length image n ≤ length image) where
  text_part : text image n ≡ take (string_length image n) (drop (text_offset image n) image)
  unfolding text
  text_part = rw (le-leb (text_offset image n + string_length image n) (length image) h)

  text_length : length (text image n) ≡ string_length image n
  text_length = ap length text_part ∙ length-take-le (string_length image n) (drop (text_offset image n) image) (omega (arith, length-drop (text_offset image n) image))

-- strings that are laid lie in the letters
module _ (image : List ℕ) (h : sections_fit image ≡ true) (l : strings_laid image ≡ true) (n : ℕ) (m : n < string_count image) where
  pub text_within : text_offset image n + string_length image n ≤ length image
  text_within = omega (arith, (strings_end_to_end image l).within n m, section_within_lem image h Letters)

  text_of_letters : text image n ≡ take (string_length image n) (drop (string_offset image n) (letters image))
  text_of_letters =
      text_part image n text_within
      ∙ sym (part_of_part image (section_offset image Letters) (section_length image Letters) (string_offset image n) (string_length image n) ((strings_end_to_end image l).within n m) (omega (arith, text_within)))

-- and are UTF-8 where the letters are ASCII alone
pub ascii_strings : (image : List ℕ) → sections_fit image ≡ true → strings_laid image ≡ true → is_ascii (letters image) ≡ true → strings_utf8 image ≡ true
unfolding strings_utf8
ascii_strings image h l a = each_all (λ n. utf8 (text image n)) 0 (string_count image) (λ n _ m. at n (omega arith))
  where
    at : (n : ℕ) → n < string_count image → utf8 (text image n) ≡ true
    at n m =
        ap utf8 (text_of_letters image h l n m)
        ∙ ascii_utf8 (take (string_length image n) (drop (string_offset image n) (letters image))) (ascii_take (string_length image n) (drop (string_offset image n) (letters image)) (ascii_drop (string_offset image n) (letters image) a))

-- refusal 7 does not come
record Records (image : List ℕ) : Type 0 where
  features : EndToEnd (first_feature image) (owned_features image) (component_count image) 0 (feature_count image)
  component : (n : ℕ) → n < component_count image → (category image n < CATEGORIES) × (parent image n < component_count image + 1) × (wired image n < WIRED_MARKS)
  feature : (n : ℕ) → n < feature_count image → (feature_name image n < string_count image) × (feature_kind image n < FEATURE_KINDS) × (direction image n < DIRECTIONS)
  connection : (n : ℕ) → n < connection_count image → (owner image n < component_count image) × (source image n < string_count image + 1) × (target image n < string_count image + 1)
  property : (n : ℕ) → n < property_count image → (property_component image n < component_count image) × (property_set image n < string_count image) × (property_name image n < string_count image)
  diagnostic : (n : ℕ) → n < diagnostic_count image → (analysis image n < string_count image) × (severity image n < SEVERITIES) × (message image n < string_count image)

-- three tests of numbers below limits
limits : (x a y b z c : ℕ) → (ltb x a && (ltb y b && ltb z c)) ≡ true → (x < a) × (y < b) × (z < c)
limits x a y b z c h =
    let t = three (ltb x a) (ltb y b) (ltb z c) h in
    (ltb-true x a t.0, ltb-true y b t.1, ltb-true z c t.2)

records_of : (image : List ℕ) → records_fit image ≡ true → Records image
unfolding records_fit components_fit features_laid features_fit connections_fit properties_fit diagnostics_fit
records_of image h =
    let a = both (components_fit image) (features_fit image && (connections_fit image && (properties_fit image && diagnostics_fit image))) h in
    let b = both (features_fit image) (connections_fit image && (properties_fit image && diagnostics_fit image)) a.1 in
    let c = three (connections_fit image) (properties_fit image) (diagnostics_fit image) b.1 in
    let d = both (features_laid image) (each (component_fits image) 0 (component_count image)) a.0 in
    record {
      features = laid_end_to_end (first_feature image) (owned_features image) (component_count image) 0 (feature_count image) d.0;
      component = λ n l. limits _ _ _ _ _ _ (passes_at (component_fits image) (component_count image) d.1 n l);
      feature = λ n l. limits _ _ _ _ _ _ (passes_at (feature_fits image) (feature_count image) b.0 n l);
      connection = λ n l. limits _ _ _ _ _ _ (passes_at (connection_fits image) (connection_count image) c.0 n l);
      property = λ n l. limits _ _ _ _ _ _ (passes_at (property_fits image) (property_count image) c.1 n l);
      diagnostic = λ n l. limits _ _ _ _ _ _ (passes_at (diagnostic_fits image) (diagnostic_count image) c.2 n l);
    }

well_formed : (image : List ℕ) → sections_fit image ≡ true → strings_fit image ≡ true → records_fit image ≡ true → WellFormed image
well_formed image h5 h6 h7 =
    let s = sections_of image h5 in
    let t = strings_laid_lem image h6 in
    let r = records_of image h7 in
    record {
      least = s.least;
      most = s.most;
      sections = s.sections;
      section_within = section_within_lem image h5;
      section_records = section_filled image h5;
      record_within = record_in image h5;
      strings = strings_end_to_end image t;
      texts = text_of_letters image h5 t;
      text_lengths = λ n l. text_length image n (text_within image h5 t n l);
      texts_utf8 = texts_of image h6;
      features = r.features;
      categories = λ n l. (r.component n l).0;
      parents = λ n l. omega (arith, (r.component n l).1);
      wired_marks = λ n l. (r.component n l).2;
      feature_names = λ n l. (r.feature n l).0;
      feature_kinds = λ n l. (r.feature n l).1;
      directions = λ n l. (r.feature n l).2;
      owners = λ n l. (r.connection n l).0;
      sources = λ n l. omega (arith, (r.connection n l).1);
      targets = λ n l. omega (arith, (r.connection n l).2);
      property_components = λ n l. (r.property n l).0;
      property_sets = λ n l. (r.property n l).1;
      property_names = λ n l. (r.property n l).2;
      analyses = λ n l. (r.diagnostic n l).0;
      severities = λ n l. (r.diagnostic n l).1;
      messages = λ n l. (r.diagnostic n l).2;
    }

-- no refusal comes
record Passes (a b c d : Bool) : Type 0 where
  sections : a ≡ true
  strings : b ≡ true
  records : c ≡ true
  collection : d ≡ false

never : {r : Refusal} → ◌≡◌ {A = Check} (Err r) (Ok tt) → ⊥
never e = let z : ◌≡◌ {A = ℕ} 0 1 = cc in omega arith

passes : (a b c d : Bool)
    → ◌≡◌ {A = Check} (cond (not a) (Err ImageBadSections) (cond (not b) (Err ImageBadStrings) (cond (not c) (Err ImageBadRecords) (cond d (Err CollectionTooShort) (Ok tt))))) (Ok tt)
    → Passes a b c d
passes true true true false e = record { sections = refl; strings = refl; records = refl; collection = refl }
passes true true true true e = absurd (never e)
passes true true false d e = absurd (never e)
passes true false c d e = absurd (never e)
passes false b c d e = absurd (never e)

module _ (image : List ℕ) (collection : ℕ) (e : check_image image collection ≡ Ok tt) where
  passed : Passes (sections_fit image) (strings_fit image) (records_fit image) (collection_short image collection)
  unfolding check_image
  passed = passes (sections_fit image) (strings_fit image) (records_fit image) (collection_short image collection) e

  -- an image that is not turned away is well formed
  pub passed_well_formed : WellFormed image
  passed_well_formed = well_formed image passed.sections passed.strings passed.records

  -- and the collection table has room for its members
  pub passed_room : Room image collection
  unfolding collection_short
  passed_room =
      let n = neither (ltb (collection / COLLECTION_ROW) (component_count image + feature_count image)) (ltb (collection / COLLECTION_ROW) (diagnostic_count image)) passed.collection in
      record {
        members = ltb-false (collection / COLLECTION_ROW) (component_count image + feature_count image) n.0;
        diagnostics = ltb-false (collection / COLLECTION_ROW) (diagnostic_count image) n.1;
      }

-- every number of its records is four bytes of the image, and no 0 for want of them
pub field_read : (image : List ℕ) → WellFormed image → (s : Section) (index number : ℕ) → index < record_count image s → NUMBER_SIZE * number + NUMBER_SIZE ≤ record_size s
    → field image s index number ≡ little_endian image (section_offset image s + record_size s * index + NUMBER_SIZE * number)
unfolding field word
field_read image w s index number l h =
    rw (le-leb (section_offset image s + record_size s * index + NUMBER_SIZE * number + NUMBER_SIZE) (length image) (omega (arith, w.record_within s index l)))

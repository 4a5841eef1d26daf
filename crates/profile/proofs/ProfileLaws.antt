-- Members with the same profile have the same truth of every node that asks for no more. Assumes nothing.
use mathlib.Core.Path.{◌≡◌, refl, sym, ap, ◌∙◌}
use mathlib.Core.Bool.{Bool, true, false, not, ◌&&◌, ◌||◌, cond, true≢false}
use mathlib.Core.List.{List}
use Prim.Native.Nat.{ℕ, ◌+◌, ◌*◌, ◌≤◌, ◌<◌}
use native.Mathlib.Omega.{arith}
use lib.Dec.{eqb, ltb}
use borrow.Author.Tests.{eqb-true, ltb-true, not-false}
use Rattle.syntax.specs.Kind.{BINARY_EXPR, UNARY_EXPR, COMPARE_EXPR, CALL_EXPR, PAREN_EXPR, IDENT_EXPR, CONTAINS_EXPR}
use Rattle.syntax.specs.Text.{ascii, same}
use Rattle.syntax.proofs.BoolLaws.{whether, both, neither, one_small, one_same}
use Rattle.trees.specs.Green.{Forest}
use Rattle.board.specs.Image.{category, feature_kind, direction, severity}
use Rattle.matching.specs.Words.{category_matches, feature_kind_matches, direction_matches, severity_matches}
use Rattle.instance.specs.Instance.{component_connected, owners_wired}
use Rattle.instance.proofs.InstanceLaws.{connected_with_owner}
use Rattle.predicate.specs.declared.atom.Member.{Member}
use Rattle.predicate.specs.declared.atom.Member.TheVariants.{Component, Feature, Diagnostic}
use Rattle.predicate.specs.Truth.{field_of, connected, has, compares, message_contains, NodeSort, binary, unary, paren, ident, call, containing, compare, other, sort_of, settle}
use Rattle.std.specs.Prelude.{Option, None, Some}
use Rattle.profile.specs.declared.Held.{Held}
use Rattle.profile.specs.Profile.{CATEGORIES, FEATURE_KINDS, DIRECTIONS, SEVERITIES, FIRST_OF_FEATURES, FIRST_OF_DIAGNOSTICS, PROFILES, held_part, numbered, of_component, of_feature, of_diagnostic, wired_in, component_profile, owned_profile, profile_of, wiring_held, asks_wiring, asks_more, asks_part, asks_of_feature, asks_field}

-- the profile of a diagnostic always holds its severity
pub diagnostic_profile : (image : List ℕ) (held : Held) (d : ℕ) {r : Option ℕ} → r ≡ of_diagnostic (severity image d) → r ≡ profile_of image held (Diagnostic d)
unfolding profile_of
diagnostic_profile image held d h = h

-- that of a feature by its owner's
pub feature_owned : (image : List ℕ) (held : Held) (c f : ℕ) {owner r : Option ℕ} → owner ≡ profile_of image held (Component c) → r ≡ owned_profile image held owner f
    → r ≡ profile_of image held (Feature c f)
unfolding profile_of
feature_owned image held c f e h = h ∙ ap (λ (o : Option ℕ). owned_profile image held o f) e

-- ---- what a number says of the fields

told : (b : Bool) (n k : ℕ) → numbered b n ≡ Some k → (b ≡ true) × (n ≡ k)
told true n k h = (refl, cc)
told false n k h =
    let z : ◌≡◌ {A = ℕ} 0 1 = cc in
    absurd (omega arith)

-- the parts of a number, by the sort of member
record ComponentIs (category : ℕ) (connected : Bool) (k : ℕ) : Type 0 where
  small : category < CATEGORIES
  is : 2 * category + cond connected 1 0 ≡ k

component_is : {category : ℕ} {connected : Bool} {k : ℕ} → of_component category connected ≡ Some k → ComponentIs category connected k
unfolding of_component
component_is {category} {connected} {k} h =
    let t = told (ltb category CATEGORIES) (2 * category + cond connected 1 0) k h in
    record { small = ltb-true category CATEGORIES t.0; is = t.1 }

record FeatureIs (owner : Option ℕ) (kind direction k : ℕ) : Type 0 where
  number : ℕ
  owner_is : owner ≡ Some number
  small : number < FIRST_OF_FEATURES
  few_kinds : kind < FEATURE_KINDS
  few_directions : direction < DIRECTIONS
  is : FIRST_OF_FEATURES + ((number * FEATURE_KINDS + kind) * DIRECTIONS + direction) ≡ k

feature_is_lem : (owner : Option ℕ) (kind direction : ℕ) {k : ℕ} → of_feature owner kind direction ≡ Some k → FeatureIs owner kind direction k
unfolding of_feature
feature_is_lem (Some n) kind direction {k} h =
    let t = told (ltb n FIRST_OF_FEATURES && (ltb kind FEATURE_KINDS && ltb direction DIRECTIONS)) (FIRST_OF_FEATURES + ((n * FEATURE_KINDS + kind) * DIRECTIONS + direction)) k h in
    let a = both (ltb n FIRST_OF_FEATURES) (ltb kind FEATURE_KINDS && ltb direction DIRECTIONS) t.0 in
    let b = both (ltb kind FEATURE_KINDS) (ltb direction DIRECTIONS) a.1 in
    record {
      number = n;
      owner_is = refl;
      small = ltb-true n FIRST_OF_FEATURES a.0;
      few_kinds = ltb-true kind FEATURE_KINDS b.0;
      few_directions = ltb-true direction DIRECTIONS b.1;
      is = t.1;
    }
feature_is_lem None kind direction h =
    let z : ◌≡◌ {A = ℕ} 0 1 = cc in
    absurd (omega arith)

record DiagnosticIs (severity k : ℕ) : Type 0 where
  small : severity < SEVERITIES
  is : FIRST_OF_DIAGNOSTICS + severity ≡ k

diagnostic_is : {severity k : ℕ} → of_diagnostic severity ≡ Some k → DiagnosticIs severity k
unfolding of_diagnostic
diagnostic_is {severity} {k} h =
    let t = told (ltb severity SEVERITIES) (FIRST_OF_DIAGNOSTICS + severity) k h in
    record { small = ltb-true severity SEVERITIES t.0; is = t.1 }

-- the numbers of each sort of member
abbrev InRange : Member → ℕ → Type 0
InRange (Component c) k = k < FIRST_OF_FEATURES
InRange (Feature c f) k = (FIRST_OF_FEATURES ≤ k) × (k < FIRST_OF_DIAGNOSTICS)
InRange (Diagnostic d) k = (FIRST_OF_DIAGNOSTICS ≤ k) × (k < PROFILES)

-- what is held of a component's category, a feature's kind and its direction
abbrev category_held : List ℕ → Held → ℕ → ℕ
category_held image held c = held_part held.category (category image c)

abbrev kind_held : List ℕ → Held → ℕ → ℕ
kind_held image held f = held_part held.kind (feature_kind image f)

abbrev direction_held : List ℕ → Held → ℕ → ℕ
direction_held image held f = held_part held.direction (direction image f)

-- members with the same number: of the same sort, with the same of what is held
pub data Alike (image : List ℕ) (held : Held) : Member → Member → Type 0 where
  components : {c d : ℕ} → category_held image held c ≡ category_held image held d → wired_in image held c ≡ wired_in image held d → Alike image held (Component c) (Component d)
  features : {c f d g : ℕ} → category_held image held c ≡ category_held image held d → wired_in image held c ≡ wired_in image held d → kind_held image held f ≡ kind_held image held g → direction_held image held f ≡ direction_held image held g
      → Alike image held (Feature c f) (Feature d g)
  diagnostics : {c d : ℕ} → severity image c ≡ severity image d → Alike image held (Diagnostic c) (Diagnostic d)

-- the same owner's number says the same of the owners
record SameOwner (image : List ℕ) (held : Held) (c d : ℕ) : Type 0 where
  sort : category_held image held c ≡ category_held image held d
  wired : wired_in image held c ≡ wired_in image held d

module _ (image : List ℕ) (held : Held) where
  feature_number : (c f : ℕ) {k : ℕ} → profile_of image held (Feature c f) ≡ Some k → FeatureIs (component_profile image held c) (kind_held image held f) (direction_held image held f) k
  unfolding profile_of owned_profile
  feature_number c f h = feature_is_lem (component_profile image held c) (kind_held image held f) (direction_held image held f) h

  in_range : (m : Member) {k : ℕ} → profile_of image held m ≡ Some k → InRange m k
  unfolding profile_of component_profile
  in_range (Component c) h = let i = component_is h in omega (arith, i.small, i.is, one_small (wired_in image held c))
  in_range (Feature c f) h =
      let i = feature_number c f h in
      (omega (arith, i.is), omega (arith, i.small, i.few_kinds, i.few_directions, i.is))
  in_range (Diagnostic d) h = let i = diagnostic_is h in (omega (arith, i.is), omega (arith, i.small, i.is))

  -- all are below how many there are
  pub profile_small : (m : Member) (k : ℕ) → profile_of image held m ≡ Some k → k < PROFILES
  profile_small (Component c) k h = omega (arith, in_range (Component c) h)
  profile_small (Feature c f) k h = omega (arith, (in_range (Feature c f) h).1)
  profile_small (Diagnostic d) k h = (in_range (Diagnostic d) h).1

  same_owner : (c d : ℕ) {k : ℕ} → component_profile image held c ≡ Some k → component_profile image held d ≡ Some k → SameOwner image held c d
  unfolding component_profile
  same_owner c d h g =
      let i = component_is h in
      let j = component_is g in
      let p = one_small (wired_in image held c) in
      let q = one_small (wired_in image held d) in
      record {
        sort = omega (arith, i.is, j.is);
        wired = one_same (wired_in image held c) (wired_in image held d) (omega (arith, i.is, j.is));
      }

  pub same_profile : (m n : Member) (k : ℕ) → profile_of image held m ≡ Some k → profile_of image held n ≡ Some k → Alike image held m n
  unfolding profile_of
  same_profile (Component c) (Component d) k h g = let o = same_owner c d h g in components {c = c} {d = d} o.sort o.wired
  same_profile (Feature c f) (Feature d e) k h g =
      let i = feature_number c f h in
      let j = feature_number d e g in
      let n : j.number ≡ i.number = omega (arith, i.is, j.is) in
      let o = same_owner c d i.owner_is (j.owner_is ∙ ap Some n) in
      features {c = c} {f = f} {d = d} {g = e} o.sort o.wired (omega (arith, i.is, j.is)) (omega (arith, i.is, j.is))
  same_profile (Diagnostic c) (Diagnostic d) k h g = diagnostics {c = c} {d = d} (omega (arith, (diagnostic_is h).is, (diagnostic_is g).is))
  same_profile (Component c) (Feature d e) k h g = absurd (omega (arith, in_range (Component c) h, (in_range (Feature d e) g).0))
  same_profile (Component c) (Diagnostic d) k h g = absurd (omega (arith, in_range (Component c) h, (in_range (Diagnostic d) g).0))
  same_profile (Feature c f) (Component d) k h g = absurd (omega (arith, (in_range (Feature c f) h).0, in_range (Component d) g))
  same_profile (Feature c f) (Diagnostic d) k h g = absurd (omega (arith, (in_range (Feature c f) h).1, (in_range (Diagnostic d) g).0))
  same_profile (Diagnostic c) (Component d) k h g = absurd (omega (arith, (in_range (Diagnostic c) h).0, in_range (Component d) g))
  same_profile (Diagnostic c) (Feature d e) k h g = absurd (omega (arith, (in_range (Diagnostic c) h).0, (in_range (Feature d e) g).1))

-- ---- their atoms, each by its kind

-- a COMPARE_EXPR asks for no more than its field
pub compare_asks : (m : Member) (held : Held) → asks_more m held COMPARE_EXPR ≡ false
unfolding asks_more asks_wiring
compare_asks (Component c) held = refl
compare_asks (Feature c f) held = refl
compare_asks (Diagnostic d) held = refl

-- a CALL_EXPR always asks for more; an IDENT_EXPR that asks for no more says that enough is held
has_asks : (held : Held) (f : Bool) → asks_wiring held f CALL_EXPR ≡ false → ⊥
unfolding asks_wiring
has_asks held f h = true≢false h

enough_held : (held : Held) (f : Bool) → asks_wiring held f IDENT_EXPR ≡ false → (held.wiring ≡ true) × (cond f held.wiring_of_features true ≡ true)
unfolding asks_wiring wiring_held
enough_held held f h = both held.wiring (cond f held.wiring_of_features true) (not-false (wiring_held held f) h)

-- whether a component is connected, where that is held
wired_is : (image : List ℕ) (held : Held) (c : ℕ) → held.wiring ≡ true → wired_in image held c ≡ component_connected image c
unfolding wired_in
wired_is image held c h = rw h

-- a field that is the same where it is held, compared with a value
field_alike : (held : Bool) (x y : ℕ) (field name : List ℕ) (matches : ℕ → Bool) → held_part held x ≡ held_part held y → asks_part held field name ≡ false
    → (same field name && matches x) ≡ (same field name && matches y)
unfolding held_part asks_part
field_alike held x y field name matches e h = go held (same field name) e h
  where
    go : (b s : Bool) → cond b x 0 ≡ cond b y 0 → not b && s ≡ false → (s && matches x) ≡ (s && matches y)
    go true s e h = ap (λ (z : ℕ). s && matches z) e
    go false true e h = absurd (true≢false h)
    go false false e h = refl

-- the same where others are looked at if it is not the one
else_alike : (s p q r t : Bool) → (s && p) ≡ (s && q) → r ≡ t → cond s p r ≡ cond s q t
else_alike true p q r t e f = e
else_alike false p q r t e f = f

module _ {image : List ℕ} {held : Held} where
  connected_alike : {m n : Member} → (held.wiring_of_features ≡ true → owners_wired image ≡ true) → Alike image held m n → asks_more m held IDENT_EXPR ≡ false
      → connected image m ≡ connected image n
  unfolding connected asks_more
  connected_alike w (components {c} {d} e o) h =
      let t = (enough_held held false h).0 in
      sym (wired_is image held c t) ∙ o ∙ wired_is image held d t
  connected_alike w (features {c} {f} {d} {g} e o k l) h =
      let t = enough_held held true h in
      connected_with_owner image (w t.1) c f ∙ sym (wired_is image held c t.0) ∙ o ∙ wired_is image held d t.0 ∙ sym (connected_with_owner image (w t.1) d g)
  connected_alike w (diagnostics e) h = refl

  has_alike : {m n : Member} (value : List ℕ) → Alike image held m n → asks_more m held CALL_EXPR ≡ false → has image m value ≡ has image n value
  unfolding has asks_more
  has_alike value (components e o) h = absurd (has_asks held false h)
  has_alike value (features e o k l) h = absurd (has_asks held true h)
  has_alike value (diagnostics e) h = refl

  contains_alike : {m n : Member} (value : List ℕ) → Alike image held m n → asks_more m held CONTAINS_EXPR ≡ false
      → message_contains image m value ≡ message_contains image n value
  unfolding message_contains asks_more
  contains_alike value (components e o) h = refl
  contains_alike value (features e o k l) h = refl
  contains_alike value (diagnostics e) h = absurd (true≢false h)

  compares_alike : {m n : Member} (field value : List ℕ) → Alike image held m n → asks_field m held field ≡ false → compares image m field value ≡ compares image n field value
  unfolding compares asks_field asks_of_feature
  compares_alike field value (components {c} {d} e o) h =
      field_alike held.category (category image c) (category image d) field (ascii "category") (λ (x : ℕ). category_matches x value) e h
  compares_alike field value (features {c} {f} {d} {g} e o k l) h =
      let a = neither (asks_part held.kind field (ascii "kind")) (asks_part held.direction field (ascii "direction") || asks_part held.category field (ascii "category")) h in
      let b = neither (asks_part held.direction field (ascii "direction")) (asks_part held.category field (ascii "category")) a.1 in
      else_alike (same field (ascii "kind")) _ _ _ _
      (field_alike held.kind (feature_kind image f) (feature_kind image g) field (ascii "kind") (λ (x : ℕ). feature_kind_matches x value) k a.0)
      (else_alike (same field (ascii "direction")) _ _ _ _
      (field_alike held.direction (direction image f) (direction image g) field (ascii "direction") (λ (x : ℕ). direction_matches x value) l b.0)
      (field_alike held.category (category image c) (category image d) field (ascii "category") (λ (x : ℕ). category_matches x value) e b.1))
  compares_alike field value (diagnostics e) h = ap (λ (x : ℕ). same field (ascii "severity") && severity_matches x value) e

-- the kind of an atom that may ask for more, by its sort
abbrev OfSort : NodeSort → ℕ → Type 0
OfSort binary k = Unit {0}
OfSort unary k = Unit {0}
OfSort paren k = Unit {0}
OfSort ident k = k ≡ IDENT_EXPR
OfSort call k = k ≡ CALL_EXPR
OfSort containing k = k ≡ CONTAINS_EXPR
OfSort compare k = k ≡ COMPARE_EXPR
OfSort other k = Unit {0}

of_sort : (k : ℕ) → OfSort (sort_of k) k
unfolding sort_of
of_sort k =
    whether (eqb k BINARY_EXPR) (λ e. rw e tt)
    (λ b. whether (eqb k UNARY_EXPR) (λ e. rw (b, e) tt)
    (λ u. whether (eqb k PAREN_EXPR) (λ e. rw (b, u, e) tt)
    (λ p. whether (eqb k IDENT_EXPR) (λ e. rw (b, u, p, e) (eqb-true k IDENT_EXPR e))
    (λ i. whether (eqb k CALL_EXPR) (λ e. rw (b, u, p, i, e) (eqb-true k CALL_EXPR e))
    (λ c. whether (eqb k CONTAINS_EXPR) (λ e. rw (b, u, p, i, c, e) (eqb-true k CONTAINS_EXPR e))
    (λ n. whether (eqb k COMPARE_EXPR) (λ e. rw (b, u, p, i, c, n, e) (eqb-true k COMPARE_EXPR e)) (λ q. rw (b, u, p, i, c, n, q) tt)))))))

-- members that are alike have the same truth of a node that asks for no more
pub settle_alike : {image : List ℕ} {held : Held} {m n : Member} → (held.wiring_of_features ≡ true → owners_wired image ≡ true) → Alike image held m n
    → (k : ℕ) (f : Forest) (truths : List Bool) → (k ≡ COMPARE_EXPR → asks_field m held (field_of f) ≡ false) → asks_more m held k ≡ false
    → settle image m (sort_of k) f truths ≡ settle image n (sort_of k) f truths
unfolding settle
settle_alike {image} {held} {m} {n} w a k f truths q h = go (sort_of k) (of_sort k)
  where
    go : (s : NodeSort) → OfSort s k → settle image m s f truths ≡ settle image n s f truths
    go binary o = refl
    go unary o = refl
    go paren o = refl
    go ident o = connected_alike w a (sym (ap (asks_more m held) o) ∙ h)
    go call o = has_alike _ a (sym (ap (asks_more m held) o) ∙ h)
    go containing o = contains_alike _ a (sym (ap (asks_more m held) o) ∙ h)
    go compare o = compares_alike _ _ a (q o)
    go other o = refl

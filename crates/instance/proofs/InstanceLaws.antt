-- What the numbers and texts read from an image say of its parts, and how far a loop has come in search of a record that passes a
-- test: what is left decides as the whole does. Assumes nothing.
use mathlib.Core.Path.{◌≡◌, refl, sym, ◌∙◌}
use mathlib.Core.Bool.{Bool, true, false, not, or-true, true≢false}
use mathlib.Core.List.{List}
use Prim.Native.Nat.{ℕ, zero, suc, ◌+◌, ◌-◌, ◌≤◌, ◌<◌}
use native.Mathlib.Nat.{sub-zero}
use native.Mathlib.Numerals.{add-one}
use native.Mathlib.Omega.{arith}
use borrow.Author.Tests.{ne_eqb, eqb-true, not-true, not-false}
use lib.Dec.{eqb}
use Rattle.syntax.proofs.BoolLaws.{whether, neither}
use Rattle.board.specs.Image.{text, parent, first_feature, feature_name, connection_count, owner}
use Rattle.instance.specs.Instance.{some, is_wired, component_connected, joins, feature_connected, owner_unwired, owners_wired, features_end, feature_is, has_feature}

-- records are passed over up to n and none passes: whether some does is for those from n to `end` to say
pub record Searching (passes : ℕ → Bool) (end n : ℕ) (whole : Bool) : Type 0 where
  pub rest : some passes n (end - n) ≡ whole

module _ {passes : ℕ → Bool} {end n : ℕ} {whole : Bool} (s : Searching passes end n whole) where
  -- one more is left than after the next
  one_more : n < end → end - n ≡ suc (end - (n + 1))
  one_more h = omega arith

  pub searching_hit : n < end → passes n ≡ true → true ≡ whole
  unfolding some
  searching_hit h e = sym (rw (one_more h, e)) ∙ s.rest

  pub searching_miss : n < end → passes n ≡ false → Searching passes end (n + 1) whole
  unfolding some
  searching_miss h e = record { rest = sym (rw (one_more h, e, add-one n)) ∙ s.rest }

  pub searching_done : end ≤ n → false ≡ whole
  unfolding some
  searching_done h = let none : end - n ≡ 0 = omega arith in sym (rw none) ∙ s.rest

-- the connections are searched where the component is not connected
module _ (image : List ℕ) (component feature : ℕ) where
  pub feature_whole : {r : Bool} → r ≡ component_connected image component → r ≡ true → true ≡ feature_connected image component feature
  unfolding feature_connected
  feature_whole e h = rw (sym e ∙ h)

  pub connections_whole : {r : Bool} {f : ℕ} {t : List ℕ} → r ≡ component_connected image component → r ≡ false
      → f ≡ feature_name image feature → t ≡ text image f
      → some (joins image component t) 0 (connection_count image) ≡ feature_connected image component feature
  unfolding feature_connected
  connections_whole e h d g = rw (sym e ∙ h, ← d, ← g)

-- ---- the owners of connections

-- where no record passes one test, none passes a harder one
some_none : (p q : ℕ → Bool) → ((n : ℕ) → p n ≡ false → q n ≡ false) → (n m : ℕ) → some p n m ≡ false → some q n m ≡ false
unfolding some
some_none p q harder n zero h = refl
some_none p q harder n (suc m) h =
    let t = neither (p n) (some p (suc n) m) h in
    rw (harder n t.0) (some_none p q harder (suc n) m t.1)

module _ (image : List ℕ) where
  -- the connections are searched for one whose owner is not wired
  pub owners_start : {count : ℕ} → count ≡ connection_count image → Searching (owner_unwired image) count 0 (not (owners_wired image))
  unfolding owners_wired
  owners_start {count} e = record { rest = rw (← e, sub-zero count) (twice (some (owner_unwired image) 0 count)) }
    where
      twice : (t : Bool) → t ≡ not (not t)
      twice true = refl
      twice false = refl

  -- where its owner is wired, a connection joins no feature of a component that is not connected
  none_joins : (component : ℕ) (name : List ℕ) → component_connected image component ≡ false
      → (n : ℕ) → owner_unwired image n ≡ false → joins image component name n ≡ false
  unfolding joins component_connected
  none_joins component name away n h =
      whether (eqb (owner image n) component) (λ e. absurd (true≢false (sym (self (eqb-true (owner image n) component e)) ∙ away)))
      (λ d. rw d (whether (eqb (owner image n + 1) (parent image component)) (λ e. absurd (true≢false (sym (above (eqb-true (owner image n + 1) (parent image component) e)) ∙ away))) (λ e. rw e)))
    where
      is_wired_lem : is_wired image (owner image n) ≡ true
      is_wired_lem = not-false (is_wired image (owner image n)) h

      self : owner image n ≡ component → component_connected image component ≡ true
      self e = rw (← e, is_wired_lem)

      above : owner image n + 1 ≡ parent image component → component_connected image component ≡ true
      above e =
          let before : owner image n + 1 - 1 ≡ owner image n = omega arith in
          rw (← e, ne_eqb (owner image n + 1) 0 (λ z. omega arith), before, is_wired_lem) (or-true (is_wired image component))

  -- where the owner of every connection is wired, a feature is connected only with its component
  pub connected_with_owner : owners_wired image ≡ true → (component feature : ℕ) → feature_connected image component feature ≡ component_connected image component
  unfolding owners_wired feature_connected
  connected_with_owner h component feature =
      whether (component_connected image component) (λ e. rw e)
      (λ e. rw (e, some_none (owner_unwired image) (joins image component (text image (feature_name image feature))) (none_joins component (text image (feature_name image feature)) e) 0 (connection_count image) (not-true (some (owner_unwired image) 0 (connection_count image)) h)))

pub features_start : (image : List ℕ) (component : ℕ) (name : List ℕ) {end n : ℕ} → end ≡ features_end image component → n ≡ first_feature image component
    → Searching (feature_is image name) end n (has_feature image component name)
unfolding has_feature
features_start image component name e f = record { rest = λ j. some (feature_is image name) (f j) (e j - f j) }

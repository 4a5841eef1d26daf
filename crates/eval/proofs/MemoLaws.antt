-- Notes made and read, and notes that say nothing. Assumes nothing.
use mathlib.Core.Path.{◌≡◌, refl, sym, ap, ◌∙◌}
use mathlib.Core.Bool.{Bool, true, false, cond}
use mathlib.Core.List.{List, [], ◌∷◌}
use Prim.Native.Nat.{ℕ, zero, suc, ◌+◌, ◌*◌, ◌≤◌, ◌<◌}
use native.Mathlib.Nat.{zero-add}
use native.Mathlib.Omega.{arith}
use borrow.Author.Tests.{lt-ltb, le-ltb, eqb-true, eqb-false, ltb-true, ltb-false}
use Rattle.std.specs.Prelude.{Option, Some, None, IfSome}
use lib.Dec.{eqb, ltb}
use lib.ListN.{length, get_or, set, replicate, get_or-eq_default}
use lib.Seq.{get_or-set_same, get_or-set_other}
use Rattle.syntax.proofs.BoolLaws.{whether}
use Rattle.instance.specs.Instance.{owners_wired}
use Rattle.predicate.specs.declared.atom.Member.{Member}
use Rattle.predicate.specs.Truth.{truth}
use Rattle.predicate.specs.Rows.{children_at}
use Rattle.profile.specs.Profile.{PROFILES, profile_of}
use Rattle.profile.proofs.ProfileLaws.{profile_small}
use Rattle.eval.specs.declared.marked.Marked.{Marked}
use Rattle.eval.specs.declared.marked.Sorts.{Sorts}
use Rattle.eval.specs.declared.memo.Note.{Note}
use Rattle.eval.specs.declared.memo.Note.TheVariants.{NotKnown, NotToKnow}
use Rattle.eval.specs.declared.ready.Call.{Call as PlacedCall}
use Rattle.eval.specs.Marked.{bits_by, bits_of, Marks, TellsBelow}
use Rattle.eval.specs.Memo.{NOTED_CALLS, WAY_NOTES, NOTES, told, note_for, args_of, place_by, place_of, note_in, told_in, Sound}
use Rattle.eval.proofs.MarkedLaws.{alike_has, told_rows, bits_small, bits_there}

-- ---- what is noted at a place

module _ (notes : List Note) (i place : ℕ) where
  pub note_later : NOTED_CALLS ≤ i → NotToKnow ≡ note_in notes i place
  unfolding note_in
  note_later h = rw (le-ltb i NOTED_CALLS h)

  pub note_at : i < NOTED_CALLS → get_or notes (place + PROFILES * i) NotToKnow ≡ note_in notes i place
  unfolding note_in
  note_at h = rw (lt-ltb i NOTED_CALLS h)

  -- there is room where nothing is known yet
  pub room : NotKnown ≡ note_in notes i place → (i < NOTED_CALLS) × (place + PROFILES * i < length notes)
  room e =
      whether (ltb i NOTED_CALLS)
      (λ t. (ltb-true i NOTED_CALLS t, whether (ltb (place + PROFILES * i) (length notes)) (λ l. ltb-true (place + PROFILES * i) (length notes) l) (λ l. absurd (outside (ltb-true i NOTED_CALLS t) (ltb-false (place + PROFILES * i) (length notes) l)))))
      (λ t. absurd (differ (e ∙ sym (note_later (ltb-false i NOTED_CALLS t)))))
    where
      differ : NotKnown ≡ NotToKnow → ⊥
      differ e = cc

      outside : i < NOTED_CALLS → length notes ≤ place + PROFILES * i → ⊥
      outside h l = differ (e ∙ sym (note_at h) ∙ get_or-eq_default notes NotToKnow l)

-- ---- the place of a member

-- the profile and the bits that a place tells
record PlaceIs (p bits : Option ℕ) (place : ℕ) : Type 0 where
  number : ℕ
  way : ℕ
  profile_is : p ≡ Some number
  bits_are : bits ≡ Some way
  is : WAY_NOTES * way + number ≡ place

place_is : (p bits : Option ℕ) {place : ℕ} → place_by p bits ≡ Some place → PlaceIs p bits place
place_is (Some k) (Some b) e = record { number = k; way = b; profile_is = refl; bits_are = refl; is = cc }
place_is (Some k) None e = absurd cc
place_is None b e = absurd cc

-- two calls with the same note are one
same_call : (a b k l i j : ℕ) → k < PROFILES → l < PROFILES → i < NOTED_CALLS → j < NOTED_CALLS
    → WAY_NOTES * a + k + PROFILES * i ≡ WAY_NOTES * b + l + PROFILES * j → i ≡ j
same_call a b k l i j x y s u e =
    let rows : NOTED_CALLS * a + i ≡ NOTED_CALLS * b + j = omega arith in
    omega arith

-- as it is found: by the profile alone where nothing is marked, else by the bits too
module _ (image : List ℕ) (sorts : Sorts) (m : Member) {p : Option ℕ} (e : p ≡ profile_of image sorts.held m) where
  pub placed_plain : length sorts.marked.now ≡ 0 → p ≡ place_of image sorts m
  unfolding place_of
  placed_plain h = alone p ∙ λ j. place_by (e j) (bits sorts.marked.now h j)
    where
      alone : (p : Option ℕ) → p ≡ place_by p (Some 0)
      alone (Some k) = ap Some (sym (zero-add k))
      alone None = refl

      bits : (marked : List Marked) → length marked ≡ 0 → Some 0 ≡ bits_of image marked m
      bits [] h = refl
      bits (row ∷ rows) h = absurd (omega arith)

  pub profile_few : IfSome p (λ k. k < NOTES)
  profile_few = go p e
    where
      go : (p : Option ℕ) → p ≡ profile_of image sorts.held m → IfSome p (λ k. k < NOTES)
      go (Some k) e = omega (arith, profile_small image sorts.held m k (sym e))
      go None e = tt

  module _ (h : 0 < length sorts.marked.now) {bits : Option ℕ} (b : bits ≡ bits_by image sorts.marked.now m) where
    pub placed_marked : place_by p bits ≡ place_of image sorts m
    unfolding place_of
    placed_marked = λ j. place_by (e j) ((b ∙ bits_there image sorts.marked.now m h) j)

    pub place_small : {k way : ℕ} → p ≡ Some k → bits ≡ Some way → WAY_NOTES * way + k < NOTES
    place_small {k} {way} f g = omega (arith, profile_small image sorts.held m k (sym e ∙ f), bits_small image sorts.marked.now m (sym b ∙ g))

-- ---- notes that say nothing

get_none : (n i : ℕ) → told (get_or (replicate n NotKnown) i NotToKnow) ≡ None
get_none zero i = refl
get_none (suc n) zero = refl
get_none (suc n) (suc i) = get_none n i

nothing_told : (n i place : ℕ) → told_in (replicate n NotKnown) i place ≡ None
unfolding note_in
nothing_told n i place = go (ltb i NOTED_CALLS)
  where
    go : (b : Bool) → told (cond b (get_or (replicate n NotKnown) (place + PROFILES * i) NotToKnow) NotToKnow) ≡ None
    go true = get_none n (place + PROFILES * i)
    go false = refl

pub sound_begun : {rule image tree : List ℕ} (calls : List PlacedCall) (sorts : Sorts) (n : ℕ) → Marks rule image tree sorts.marked.now
    → (sorts.held.wiring_of_features ≡ true → owners_wired image ≡ true) → Sound rule image tree calls sorts (replicate n NotKnown)
sound_begun calls sorts n marks wired =
    record {
      marks = marks;
      wired = wired;
      noted = λ i place m value p e.
          let none = nothing_told n i place in
          cc;
    }

-- ---- a note made

-- what is noted elsewhere stays
note_kept : (notes : List Note) (at : ℕ) (v : Note) (i place : ℕ) → (place + PROFILES * i ≡ at → ⊥) → note_in (set notes at v) i place ≡ note_in notes i place
unfolding note_in
note_kept notes at v i place h = rw (get_or-set_other notes at (place + PROFILES * i) v NotToKnow h)

-- a note that makes a truth known says that the predicate asks for no more, and the truth
note_says : (more r value : Bool) → told (note_for more r) ≡ Some value → (more ≡ false) × (r ≡ value)
note_says true r value e = absurd cc
note_says false true value e = (refl, cc)
note_says false false value e = (refl, cc)

module _ {rule image tree : List ℕ} {calls : List PlacedCall} {sorts : Sorts} {notes : List Note} (n : Sound rule image tree calls sorts notes)
    (i place : ℕ) (m : Member) (r more : Bool) (p : place_of image sorts m ≡ Some place) (s : i < NOTED_CALLS) (h : place + PROFILES * i < length notes)
    (value : r ≡ truth image m (children_at rule tree (args_of calls i))) (below : TellsBelow rule tree (args_of calls i) m sorts more) where
  abbrev at : ℕ
  at = place + PROFILES * i

  abbrev noted : List Note
  noted = set notes at (note_for more r)

  where_is : (o : Member) {place : ℕ} → place_of image sorts o ≡ Some place → PlaceIs (profile_of image sorts.held o) (bits_of image sorts.marked.now o) place
  unfolding place_of
  where_is o e = place_is (profile_of image sorts.held o) (bits_of image sorts.marked.now o) e

  -- the note itself is that of any member of this place
  same_noted : (o : Member) (there j : ℕ) (v : Bool) → place_of image sorts o ≡ Some there → j < NOTED_CALLS → there + PROFILES * j ≡ at → told_in noted j there ≡ Some v
      → truth image o (children_at rule tree (args_of calls j)) ≡ v
  same_noted o there j v q u e t =
      let x = where_is m p in
      let y = where_is o q in
      let few = profile_small image sorts.held m x.number x.profile_is in
      let many = profile_small image sorts.held o y.number y.profile_is in
      let call : j ≡ i = same_call y.way x.way y.number x.number j i many few u s (omega arith) in
      let number : y.number ≡ x.number = omega arith in
      let way : y.way ≡ x.way = omega arith in
      let new : told (note_for more r) ≡ Some v =
      ap told (sym (get_or-set_same notes at (note_for more r) NotToKnow h) ∙ ap (λ (x : ℕ). get_or noted x NotToKnow) (sym e) ∙ note_at noted j there u) ∙ t in
      let w = note_says more r v new in
      ap (λ (x : ℕ). truth image o (children_at rule tree (args_of calls x))) call
      ∙ sym (alike_has sorts n.marks n.wired m o x.number x.way (children_at rule tree (args_of calls i)) x.profile_is (y.profile_is ∙ ap Some number) x.bits_are (y.bits_are ∙ ap Some way)
      (told_rows rule tree sorts m (args_of calls i) (below.told w.0)))
      ∙ sym value
      ∙ w.1

  pub sound_noted : Sound rule image tree calls sorts noted
  sound_noted =
      record {
        marks = n.marks;
        wired = n.wired;
        noted = λ j there o v q t.
            whether (eqb (there + PROFILES * j) at)
            (λ e.
            whether (ltb j NOTED_CALLS)
            (λ u. same_noted o there j v q (ltb-true j NOTED_CALLS u) (eqb-true (there + PROFILES * j) at e) t)
            (λ u.
            let none = note_later noted j there (ltb-false j NOTED_CALLS u) in
            absurd (nothing (ap told none ∙ t))))
            (λ e. n.noted j there o v q (ap told (sym (note_kept notes at (note_for more r) j there (eqb-false (there + PROFILES * j) at e))) ∙ t));
      }
    where
      nothing : {v : Bool} → None ≡ Some v → ⊥
      nothing e = cc

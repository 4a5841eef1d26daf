-- Members through the calls one at a time: the plan and what arrives settle what the calls give, members may be fed one by one, and those
-- that arrive have their rows in the collection table. Assumes nothing.
use Rattle.std.specs.Prelude.{Ok, Err}
use mathlib.Core.Path.{◌≡◌, refl, sym, ap, ap₂, ◌∙◌, subst}
use mathlib.Core.Bool.{Bool, true, false, false≢true}
use mathlib.Core.List.{List, [], ◌∷◌, ◌++◌, append_assoc, append-nil, map}
use mathlib.Core.Option.{Option, none, some}
use Prim.Native.Nat.{ℕ, zero, suc, ◌+◌, ◌-◌, ◌*◌, ◌/◌, ◌≤◌, ◌<◌}
use native.Mathlib.Nat.{sub-zero}
use native.Mathlib.Numerals.{add-one}
use native.Mathlib.Omega.{arith}
use lib.Dec.{eqb}
use lib.ListN.{length, length-append, length-map}
use borrow.Author.Tests.{ne_eqb}
use Rattle.syntax.specs.declared.refusal.Refusal.{Refusal}
use Rattle.syntax.proofs.BoolLaws.{whether, both}
use Rattle.trees.specs.Green.{Forest}
use Rattle.board.specs.Image.{component_count, first_feature, owned_features, feature_count, diagnostic_count}
use Rattle.board.specs.Check.{COLLECTION_ROW}
use Rattle.board.specs.WellFormed.{total, WellFormed, Room}
use Rattle.instance.specs.Instance.{features_end}
use Rattle.predicate.specs.declared.atom.Member.{Member}
use Rattle.predicate.specs.declared.atom.Member.TheVariants.{Component, Feature, Diagnostic}
use Rattle.meaning.specs.declared.ValueKind.{ValueKind}
use Rattle.meaning.specs.Value.{Sort, components, features, diagnostics, Outcome, collection, boolean, refused, sort_kind, row_of, rows_of, whole_rows}
use Rattle.meaning.specs.declared.Method.{Method}
use Rattle.meaning.specs.declared.Method.TheVariants.{Where, All, Any, None, Count, Features, Diagnostics}
use Rattle.meaning.specs.Calls.{Entry, quantifier, gives, kept, every, is_empty, up_from, features_of, fan_out, Call, true_for, on_members, by_entry, call_gives, calls_give, how_many}
use Rattle.meaning.specs.Pipeline.{all_components, is_of_analysis, diagnostics_of}
use Rattle.meaning.specs.Walk.{entries_after, plan_of, is_quantifier, is_last, arrive_by, arrivals, last_call, last_method, last_test, settled}
use Rattle.meaning.proofs.MemberLaws.{kept_le, some_count, none_count, every_count}

-- ---- what the calls give is settled by the plan and by what arrives

-- the last call by the kind that a plan comes to: a collection has none, a boolean has a quantifier, a count has `count`
abbrev pub Ends : ValueKind → Option Call → Type 0
Ends ValueKind.Components last = last ≡ none
Ends ValueKind.Features last = last ≡ none
Ends ValueKind.Diagnostics last = last ≡ none
Ends ValueKind.Boolean last = (call : Call) × (last ≡ some call) × (is_quantifier call.method ≡ true)
Ends ValueKind.Count last = (call : Call) × (last ≡ some call) × (call.method ≡ Count)

-- an outcome is what a plan makes of members, by a value for each kind, and the last call is as the plan's kind has it
abbrev Planned : Entry → (value : ValueKind → Outcome) → Option Call → Outcome → Type 0
Planned (Ok kind) value last o = (o ≡ value kind) × Ends kind last
Planned (Err r) value last o = o ≡ refused r

-- a refusal stays
module _ (image : List ℕ) (value : ValueKind → Outcome) (last : Option Call) where
  after_refusal : (calls : List Call) (r : Refusal) → Planned (entries_after calls (Err r)) value last (calls_give image calls (refused r))
  unfolding calls_give call_gives
  after_refusal [] r = refl
  after_refusal (call ∷ calls) r = after_refusal calls r

-- no call follows a boolean or a count
none_follows : (method : Method) (P : Entry → Entry → Type 0) → ((r : Refusal) → P (Err r) (Err r)) → P (gives method ValueKind.Boolean) (gives method ValueKind.Count)
unfolding gives
none_follows Where P h = h _
none_follows All P h = h _
none_follows Any P h = h _
none_follows None P h = h _
none_follows Count P h = h _
none_follows Features P h = h _
none_follows Diagnostics P h = h _

module _ (image : List ℕ) (value : ValueKind → Outcome) (last : Option Call) where
  after_boolean : (calls : List Call) (b w : Bool) → Planned (Ok ValueKind.Boolean) value last (boolean b w)
      → Planned (plan_of ValueKind.Boolean calls) value last (calls_give image calls (boolean b w))
  unfolding calls_give call_gives
  after_boolean [] b w h = h
  after_boolean (call ∷ calls) b w h =
      none_follows call.method (λ e _. Planned (entries_after calls e) value last (calls_give image calls (by_entry e (boolean b w))))
      (after_refusal image value last calls)

  after_count : (calls : List Call) (n : ℕ) → Planned (Ok ValueKind.Count) value last (Outcome.count n)
      → Planned (plan_of ValueKind.Count calls) value last (calls_give image calls (Outcome.count n))
  unfolding calls_give call_gives
  after_count [] n h = h
  after_count (call ∷ calls) n h =
      none_follows call.method (λ _ e. Planned (entries_after calls e) value last (calls_give image calls (by_entry e (Outcome.count n))))
      (after_refusal image value last calls)

  -- a quantifier and `count` follow every collection
  quantified : (calls : List Call) (sort : Sort) (b w : Bool) → Planned (Ok ValueKind.Boolean) value last (boolean b w)
      → Planned (entries_after calls (quantifier (sort_kind sort))) value last (calls_give image calls (by_entry (quantifier (sort_kind sort)) (boolean b w)))
  quantified calls components b w h = after_boolean calls b w h
  quantified calls features b w h = after_boolean calls b w h
  quantified calls diagnostics b w h = after_boolean calls b w h

  counted : (calls : List Call) (sort : Sort) (n : ℕ) → Planned (Ok ValueKind.Count) value last (Outcome.count n)
      → Planned (entries_after calls (gives Count (sort_kind sort))) value last (calls_give image calls (by_entry (gives Count (sort_kind sort)) (Outcome.count n)))
  unfolding gives
  counted calls components n h = after_count calls n h
  counted calls features n h = after_count calls n h
  counted calls diagnostics n h = after_count calls n h

-- the value: what arrives, settled
abbrev settled_by : (image : List ℕ) → List Call → List Member → ValueKind → Outcome
settled_by image calls members kind =
    let arrived : List Member = arrivals image calls members in
    settled kind (last_method calls) (length arrived) (how_many (last_test image calls) arrived) arrived

abbrev Walked : (image : List ℕ) → List Call → Sort → List Member → Type 0
Walked image calls sort members =
    Planned (plan_of (sort_kind sort) calls) (settled_by image calls members) (last_call calls) (calls_give image calls (collection sort members))

empty_zero : (ms : List Member) → is_empty ms ≡ eqb (length ms) 0
empty_zero [] = refl
empty_zero (m ∷ ms) = sym (ne_eqb (suc (length ms)) 0 (λ e. omega arith))

-- at a call, if the calls after it are so settled
module _ (image : List ℕ) (args : Forest) (calls : List Call) (later : (sort : Sort) (members : List Member) → Walked image calls sort members) where
  abbrev by : Method → Call
  by method = record { method = method; args = args }

  walked_call : (method : Method) (sort : Sort) (members : List Member) → Walked image (by method ∷ calls) sort members
  unfolding calls_give call_gives gives on_members arrivals arrive_by last_method last_test last_call how_many settled
  walked_call Where components members = later components _
  walked_call Where features members = later features _
  walked_call Where diagnostics members = later diagnostics _
  walked_call All sort members =
      quantified image _ _ calls sort _ _ (ap₂ boolean (every_count (true_for image args) members) (empty_zero members), (by All, refl, refl))
  walked_call Any sort members =
      quantified image _ _ calls sort _ _ (ap (λ (b : Bool). boolean b false) (some_count (true_for image args) members), (by Any, refl, refl))
  walked_call None sort members =
      quantified image _ _ calls sort _ _ (ap₂ boolean (none_count (true_for image args) members) (empty_zero members), (by None, refl, refl))
  walked_call Count sort members = counted image _ _ calls sort _ (refl, (by Count, refl, refl))
  walked_call Features components members = later features _
  walked_call Features features members = after_refusal image _ _ calls _
  walked_call Features diagnostics members = after_refusal image _ _ calls _
  walked_call Diagnostics components members = after_refusal image _ _ calls _
  walked_call Diagnostics features members = after_refusal image _ _ calls _
  walked_call Diagnostics diagnostics members = later diagnostics _

walked : (image : List ℕ) (calls : List Call) (sort : Sort) (members : List Member) → Walked image calls sort members
unfolding calls_give arrivals last_call settled
walked image [] components members = (refl, refl)
walked image [] features members = (refl, refl)
walked image [] diagnostics members = (refl, refl)
walked image (call ∷ calls) sort members = walked_call image call.args calls (walked image calls) call.method sort members

-- by what the plan is
planned : (image : List ℕ) (calls : List Call) (sort : Sort) (members : List Member) (entry : Entry) → plan_of (sort_kind sort) calls ≡ entry
    → Planned entry (settled_by image calls members) (last_call calls) (calls_give image calls (collection sort members))
planned image calls sort members entry e =
    subst (λ (p : Entry). Planned p (settled_by image calls members) (last_call calls) (calls_give image calls (collection sort members))) e
    (walked image calls sort members)

-- a refusal of the plan is that of the calls, whatever the members
pub calls_refused : (image : List ℕ) (calls : List Call) (sort : Sort) (members : List Member) (r : Refusal)
    → plan_of (sort_kind sort) calls ≡ Err r → calls_give image calls (collection sort members) ≡ refused r
calls_refused image calls sort members r e = planned image calls sort members (Err r) e

-- and where it comes to a kind, what arrives settles the outcome
pub calls_settled : (image : List ℕ) (calls : List Call) (sort : Sort) (members : List Member) (kind : ValueKind)
    → plan_of (sort_kind sort) calls ≡ Ok kind
    → let arrived : List Member = arrivals image calls members in
    calls_give image calls (collection sort members) ≡ settled kind (last_method calls) (length arrived) (how_many (last_test image calls) arrived) arrived
calls_settled image calls sort members kind e = (planned image calls sort members (Ok kind) e).0

-- the last call of such a plan
pub plan_ends : (calls : List Call) (sort : Sort) (kind : ValueKind) → plan_of (sort_kind sort) calls ≡ Ok kind → Ends kind (last_call calls)
plan_ends calls sort kind e = (planned [] calls sort [] (Ok kind) e).1

-- ---- members one by one

pub kept_append : (passes : Member → Bool) (xs ys : List Member) → kept passes (xs ++ ys) ≡ kept passes xs ++ kept passes ys
unfolding kept
kept_append passes [] ys = refl
kept_append passes (x ∷ xs) ys =
    whether (passes x) (λ e. rw (e, kept_append passes xs ys)) (λ e. rw (e, kept_append passes xs ys))

pub fan_append : (image : List ℕ) (xs ys : List Member) → fan_out image (xs ++ ys) ≡ fan_out image xs ++ fan_out image ys
unfolding fan_out
fan_append image [] ys = refl
fan_append image (Component c ∷ xs) ys = rw (fan_append image xs ys) (sym (append_assoc (features_of image c) (fan_out image xs) (fan_out image ys)))
fan_append image (Feature c f ∷ xs) ys = fan_append image xs ys
fan_append image (Diagnostic d ∷ xs) ys = fan_append image xs ys

-- a call on no members, and on two lists of them, if the later calls do so
module _ (image : List ℕ) (isTrue : Member → Bool) (later : List Member → List Member) where
  by_none : later [] ≡ [] → (method : Method) → arrive_by image method isTrue later [] ≡ []
  unfolding arrive_by kept fan_out
  by_none h Where = h
  by_none h All = refl
  by_none h Any = refl
  by_none h None = refl
  by_none h Count = refl
  by_none h Features = h
  by_none h Diagnostics = h

  by_append : ((xs ys : List Member) → later (xs ++ ys) ≡ later xs ++ later ys) → (method : Method) (xs ys : List Member)
      → arrive_by image method isTrue later (xs ++ ys) ≡ arrive_by image method isTrue later xs ++ arrive_by image method isTrue later ys
  unfolding arrive_by
  by_append h Where xs ys = ap later (kept_append isTrue xs ys) ∙ h (kept isTrue xs) (kept isTrue ys)
  by_append h All xs ys = refl
  by_append h Any xs ys = refl
  by_append h None xs ys = refl
  by_append h Count xs ys = refl
  by_append h Features xs ys = ap later (fan_append image xs ys) ∙ h (fan_out image xs) (fan_out image ys)
  by_append h Diagnostics xs ys = h xs ys

  by_last : (method : Method) (ms : List Member) → is_last method ≡ true → arrive_by image method isTrue later ms ≡ ms
  unfolding arrive_by
  by_last Where ms e = absurd (false≢true e)
  by_last All ms e = refl
  by_last Any ms e = refl
  by_last None ms e = refl
  by_last Count ms e = refl
  by_last Features ms e = absurd (false≢true e)
  by_last Diagnostics ms e = absurd (false≢true e)

pub arrivals_none : (image : List ℕ) (calls : List Call) → arrivals image calls [] ≡ []
unfolding arrivals
arrivals_none image [] = refl
arrivals_none image (call ∷ calls) = by_none image (true_for image call.args) (arrivals image calls) (arrivals_none image calls) call.method

pub arrivals_append : (image : List ℕ) (calls : List Call) (xs ys : List Member)
    → arrivals image calls (xs ++ ys) ≡ arrivals image calls xs ++ arrivals image calls ys
unfolding arrivals
arrivals_append image [] xs ys = refl
arrivals_append image (call ∷ calls) xs ys =
    by_append image (true_for image call.args) (arrivals image calls) (arrivals_append image calls) call.method xs ys

-- with no call a member arrives, and so do others
pub arrive_end : (image : List ℕ) (ms : List Member) → arrivals image [] ms ≡ ms
unfolding arrivals
arrive_end image ms = refl

-- one member at a call
module _ (image : List ℕ) (call : Call) (calls : List Call) (m : Member) where
  pub arrive_kept : call.method ≡ Where → true_for image call.args m ≡ true → arrivals image (call ∷ calls) (m ∷ []) ≡ arrivals image calls (m ∷ [])
  unfolding arrivals arrive_by kept
  arrive_kept e t = rw (e, t)

  pub arrive_dropped : call.method ≡ Where → true_for image call.args m ≡ false → arrivals image (call ∷ calls) (m ∷ []) ≡ []
  unfolding arrivals arrive_by kept
  arrive_dropped e t = rw (e, t) (arrivals_none image calls)

  pub arrive_passed : call.method ≡ Diagnostics → arrivals image (call ∷ calls) (m ∷ []) ≡ arrivals image calls (m ∷ [])
  unfolding arrivals arrive_by
  arrive_passed e = rw e

  pub arrive_fanned : call.method ≡ Features → arrivals image (call ∷ calls) (m ∷ []) ≡ arrivals image calls (fan_out image (m ∷ []))
  unfolding arrivals arrive_by
  arrive_fanned e = rw e

  pub arrive_last : is_last call.method ≡ true → arrivals image (call ∷ calls) (m ∷ []) ≡ m ∷ []
  unfolding arrivals
  arrive_last e = by_last image (true_for image call.args) (arrivals image calls) call.method (m ∷ []) e

-- `features` on one member: those of a component, and none of another member
module _ (image : List ℕ) (call : Call) (calls : List Call) (h : call.method ≡ Features) where
  pub arrive_component : (c : ℕ) → arrivals image (call ∷ calls) (Component c ∷ []) ≡ arrivals image calls (features_of image c)
  unfolding fan_out
  arrive_component c = arrive_fanned image call calls (Component c) h ∙ ap (arrivals image calls) (append-nil (features_of image c))

  pub arrive_feature : (c f : ℕ) → arrivals image (call ∷ calls) (Feature c f ∷ []) ≡ []
  unfolding fan_out
  arrive_feature c f = arrive_fanned image call calls (Feature c f) h ∙ arrivals_none image calls

  pub arrive_diagnostic : (d : ℕ) → arrivals image (call ∷ calls) (Diagnostic d ∷ []) ≡ []
  unfolding fan_out
  arrive_diagnostic d = arrive_fanned image call calls (Diagnostic d) h ∙ arrivals_none image calls

-- ---- the last call, found one call at a time

pub last_here : (call : Call) (calls : List Call) → is_last call.method ≡ true → last_call (call ∷ calls) ≡ some call
unfolding last_call
last_here call calls e = rw e

pub last_later : (call : Call) (calls : List Call) → is_last call.method ≡ false → last_call (call ∷ calls) ≡ last_call calls
unfolding last_call
last_later call calls e = rw e

-- ---- numbers and rows, one member after the other

pub how_many_append : (passes : Member → Bool) (xs ys : List Member) → how_many passes (xs ++ ys) ≡ how_many passes xs + how_many passes ys
unfolding how_many
how_many_append passes xs ys = ap length (kept_append passes xs ys) ∙ length-append (kept passes xs) (kept passes ys)

pub how_many_most : (passes : Member → Bool) (ms : List Member) → how_many passes ms ≤ length ms
unfolding how_many
how_many_most passes ms = kept_le passes ms

pub rows_append : (xs ys : List Member) → rows_of (xs ++ ys) ≡ rows_of xs ++ rows_of ys
unfolding rows_of
rows_append [] ys = refl
rows_append (x ∷ xs) ys = rw (rows_append xs ys) (sym (append_assoc (row_of x) (rows_of xs) (rows_of ys)))

row_length : (m : Member) → length (row_of m) ≡ COLLECTION_ROW
unfolding row_of
row_length (Component c) = refl
row_length (Feature c f) = refl
row_length (Diagnostic d) = refl

pub rows_length : (ms : List Member) → length (rows_of ms) ≡ COLLECTION_ROW * length ms
unfolding rows_of
rows_length [] = refl
rows_length (m ∷ ms) = omega (arith, length-append (row_of m) (rows_of ms), row_length m, rows_length ms)

-- ---- members made of the numbers from one up to an end, each in its turn

abbrev pub up_to : ℕ → ℕ → List ℕ
up_to first end = up_from first (end - first)

pub up_turn : (first end : ℕ) → first < end → up_to first end ≡ first ∷ up_to (first + 1) end
unfolding up_from
up_turn first end h = let one : suc (end - (first + 1)) ≡ end - first = omega arith in rw (← one) (rw add-one)

pub up_over : (first end : ℕ) → end ≤ first → up_to first end ≡ []
unfolding up_from
up_over first end h = let none_left : end - first ≡ 0 = omega arith in ap (up_from first) none_left

-- the numbers of a source, and of a component's features
pub up_all : (n : ℕ) → up_from 0 n ≡ up_to 0 n
up_all n = ap (up_from 0) (sym (sub-zero n))

pub features_made : (image : List ℕ) (c : ℕ) → features_of image c ≡ map (Feature c) (up_to (first_feature image c) (features_end image c))
unfolding features_of
features_made image c = refl

-- members made of them, in their turn
module _ (make : ℕ → Member) (first end : ℕ) where
  pub made_next : first < end → map make (up_to first end) ≡ make first ∷ map make (up_to (first + 1) end)
  made_next h = ap (map make) (up_turn first end h)

  pub made_none : end ≤ first → map make (up_to first end) ≡ []
  made_none h = ap (map make) (up_over first end h)

-- those of them that pass a test
module _ (passes : Member → Bool) (make : ℕ → Member) (first end : ℕ) where
  pub kept_next : passes (make first) ≡ true → first < end → kept passes (map make (up_to first end)) ≡ make first ∷ kept passes (map make (up_to (first + 1) end))
  unfolding kept
  kept_next t h = rw (up_turn first end h, t)

  pub kept_past : passes (make first) ≡ false → first < end → kept passes (map make (up_to first end)) ≡ kept passes (map make (up_to (first + 1) end))
  unfolding kept
  kept_past t h = rw (up_turn first end h, t)

  pub kept_none : end ≤ first → kept passes (map make (up_to first end)) ≡ []
  unfolding kept
  kept_none h = ap (kept passes) (made_none make first end h)

-- ---- how many arrive

-- `features` on features gives none
features_once : (image : List ℕ) (ms : List Member) → fan_out image (fan_out image ms) ≡ []
unfolding fan_out
features_once image [] = refl
features_once image (Component c ∷ ms) =
    fan_append image (features_of image c) (fan_out image ms)
    ∙ rw (features_once image ms) (append-nil (fan_out image (features_of image c)) ∙ ap (fan_out image) (features_made image c) ∙ none_made (up_to (first_feature image c) (features_end image c)))
  where
    none_made : (ns : List ℕ) → fan_out image (map (Feature c) ns) ≡ []
    none_made [] = refl
    none_made (n ∷ ns) = none_made ns
features_once image (Feature c f ∷ ms) = features_once image ms
features_once image (Diagnostic d ∷ ms) = features_once image ms

-- fewer members have fewer features
fan_length : (image : List ℕ) (m : Member) (ms : List Member) → length (fan_out image (m ∷ ms)) ≡ length (fan_out image (m ∷ [])) + length (fan_out image ms)
fan_length image m ms = ap length (fan_append image (m ∷ []) ms) ∙ length-append (fan_out image (m ∷ [])) (fan_out image ms)

fan_kept : (image : List ℕ) (passes : Member → Bool) (ms : List Member) → length (fan_out image (kept passes ms)) ≤ length (fan_out image ms)
unfolding kept
fan_kept image passes [] = omega arith
fan_kept image passes (m ∷ ms) =
    let ih = fan_kept image passes ms in
    let all = fan_length image m ms in
    whether (passes m) (λ e. rw e (omega (arith, ih, all, fan_length image m (kept passes ms)))) (λ e. rw e (omega (arith, ih, all)))

-- no more than the members and their features
pub arrivals_most : (image : List ℕ) (calls : List Call) (ms : List Member) → length (arrivals image calls ms) ≤ length ms + length (fan_out image ms)
unfolding arrivals arrive_by
arrivals_most image [] ms = omega arith
arrivals_most image (call ∷ calls) ms = go call.method (arrivals_most image calls)
  where
    go : (method : Method) → ((xs : List Member) → length (arrivals image calls xs) ≤ length xs + length (fan_out image xs))
        → length (arrive_by image method (true_for image call.args) (arrivals image calls) ms) ≤ length ms + length (fan_out image ms)
    go Where h =
        omega (arith, h (kept (true_for image call.args) ms), kept_le (true_for image call.args) ms, fan_kept image (true_for image call.args) ms)
    go All h = omega arith
    go Any h = omega arith
    go None h = omega arith
    go Count h = omega arith
    go Features h = omega (arith, h (fan_out image ms), ap length (features_once image ms))
    go Diagnostics h = h ms

up_length : (first n : ℕ) → length (up_from first n) ≡ n
unfolding up_from
up_length first zero = refl
up_length first (suc n) = ap suc (up_length (suc first) n)

pub made_length : (make : ℕ → Member) (first n : ℕ) → length (map make (up_from first n)) ≡ n
made_length make first n = length-map (up_from first n) make ∙ up_length first n

-- the features of components are those of the board, at most
features_few : (image : List ℕ) (c : ℕ) → length (features_of image c) ≤ owned_features image c
unfolding features_of features_end
features_few image c = omega (arith, made_length (Feature c) (first_feature image c) (features_end image c - first_feature image c))

components_features : (image : List ℕ) (first n : ℕ) → length (fan_out image (map Component (up_from first n))) ≤ total (owned_features image) first n
unfolding up_from fan_out total
components_features image first zero = omega arith
components_features image first (suc n) =
    let parts = length-append (features_of image first) (fan_out image (map Component (up_from (suc first) n))) in
    omega (arith, parts, features_few image first, components_features image (suc first) n)

-- what arrives of all components has a row for each, and so has what arrives of diagnostics
pub components_fit_lem : (image : List ℕ) (calls : List Call) → WellFormed image
    → length (arrivals image calls (map Component (up_from 0 (component_count image)))) ≤ component_count image + feature_count image
components_fit_lem image calls w =
    let ms = map Component (up_from 0 (component_count image)) in
    omega (arith, arrivals_most image calls ms, made_length Component 0 (component_count image), components_features image 0 (component_count image), w.features.whole)

diagnostics_fan : (image ns : List ℕ) → fan_out image (map Diagnostic ns) ≡ []
unfolding fan_out
diagnostics_fan image [] = refl
diagnostics_fan image (n ∷ ns) = diagnostics_fan image ns

pub diagnostics_fit_lem : (image : List ℕ) (calls : List Call) (passes : Member → Bool)
    → length (arrivals image calls (kept passes (map Diagnostic (up_from 0 (diagnostic_count image))))) ≤ diagnostic_count image
diagnostics_fit_lem image calls passes =
    let ns = up_from 0 (diagnostic_count image) in
    let ms = map Diagnostic ns in
    let most = arrivals_most image calls (kept passes ms) in
    omega (arith, most, kept_le passes ms, fan_kept image passes ms, made_length Diagnostic 0 (diagnostic_count image), ap length (diagnostics_fan image ns))

-- so they lie in the whole rows of the table
pub rows_fit : (ms : List Member) (table : List ℕ) → length ms ≤ length table / COLLECTION_ROW → length (rows_of ms) ≤ whole_rows table
rows_fit ms table h = omega (arith, rows_length ms)

pub whole_within : (table : List ℕ) → whole_rows table ≤ length table
whole_within table = omega arith

pub components_rows : (image : List ℕ) (calls : List Call) (table : List ℕ) → WellFormed image → Room image (length table)
    → length (rows_of (arrivals image calls (map Component (up_from 0 (component_count image))))) ≤ whole_rows table
components_rows image calls table w r = rows_fit _ table (omega (arith, components_fit_lem image calls w))

pub diagnostics_rows : (image : List ℕ) (calls : List Call) (passes : Member → Bool) (table : List ℕ) → Room image (length table)
    → length (rows_of (arrivals image calls (kept passes (map Diagnostic (up_from 0 (diagnostic_count image)))))) ≤ whole_rows table
diagnostics_rows image calls passes table r = rows_fit _ table (omega (arith, diagnostics_fit_lem image calls passes))

-- ---- the sort of what arrives

every_append : (passes : Member → Bool) (xs ys : List Member) → every passes xs ≡ true → every passes ys ≡ true → every passes (xs ++ ys) ≡ true
unfolding every
every_append passes [] ys p q = q
every_append passes (x ∷ xs) ys p q =
    let a = both (passes x) (every passes xs) p in
    rw (a.0) (every_append passes xs ys a.1 q)

every_kept : (passes chosen : Member → Bool) (ms : List Member) → every passes ms ≡ true → every passes (kept chosen ms) ≡ true
unfolding every kept
every_kept passes chosen [] e = refl
every_kept passes chosen (m ∷ ms) e =
    let a = both (passes m) (every passes ms) e in
    let ih = every_kept passes chosen ms a.1 in
    whether (chosen m) (λ c. rw (c, every, a.0) ih) (λ c. rw c ih)

-- whether a member is of a sort
abbrev pub is_of : Sort → Member → Bool
is_of components (Component c) = true
is_of components (Feature c f) = false
is_of components (Diagnostic d) = false
is_of features (Component c) = false
is_of features (Feature c f) = true
is_of features (Diagnostic d) = false
is_of diagnostics (Component c) = false
is_of diagnostics (Feature c f) = false
is_of diagnostics (Diagnostic d) = true

-- what is made of numbers, and what `features` gives
every_made : (sort : Sort) (make : ℕ → Member) → ((n : ℕ) → is_of sort (make n) ≡ true) → (ns : List ℕ) → every (is_of sort) (map make ns) ≡ true
unfolding every
every_made sort make h [] = refl
every_made sort make h (n ∷ ns) = rw (h n) (every_made sort make h ns)

every_fan : (image : List ℕ) (ms : List Member) → every (is_of features) (fan_out image ms) ≡ true
unfolding every fan_out features_of
every_fan image [] = refl
every_fan image (Component c ∷ ms) =
    every_append (is_of features) (features_of image c) (fan_out image ms)
    (every_made features (Feature c) (λ n. refl) (up_to (first_feature image c) (features_end image c))) (every_fan image ms)
every_fan image (Feature c f ∷ ms) = every_fan image ms
every_fan image (Diagnostic d ∷ ms) = every_fan image ms

-- a collection has members of its sort only: a call on such gives such
abbrev pub Sorted : Outcome → Type 0
Sorted (collection sort members) = every (is_of sort) members ≡ true
Sorted (boolean value warned) = Unit
Sorted (Outcome.count n) = Unit
Sorted (refused r) = Unit

entry_sorted : (entry : Entry) (o : Outcome) → Sorted o → Sorted (by_entry entry o)
entry_sorted (Ok kind) o h = h
entry_sorted (Err r) o h = tt

members_sorted : (image : List ℕ) (method : Method) (isTrue : Member → Bool) (sort : Sort) (members : List Member)
    → every (is_of sort) members ≡ true → Sorted (on_members image method isTrue sort members)
unfolding on_members
members_sorted image Where isTrue sort members h = every_kept (is_of sort) isTrue members h
members_sorted image All isTrue sort members h = tt
members_sorted image Any isTrue sort members h = tt
members_sorted image None isTrue sort members h = tt
members_sorted image Count isTrue sort members h = tt
members_sorted image Features isTrue sort members h = every_fan image members
members_sorted image Diagnostics isTrue sort members h = h

call_sorted : (image : List ℕ) (call : Call) (o : Outcome) → Sorted o → Sorted (call_gives image call o)
unfolding call_gives
call_sorted image call (collection sort members) h =
    entry_sorted (gives call.method (sort_kind sort)) _ (members_sorted image call.method (true_for image call.args) sort members h)
call_sorted image call (boolean value warned) h = entry_sorted (gives call.method ValueKind.Boolean) _ tt
call_sorted image call (Outcome.count n) h = entry_sorted (gives call.method ValueKind.Count) _ tt
call_sorted image call (refused r) h = tt

pub calls_sorted : (image : List ℕ) (calls : List Call) (o : Outcome) → Sorted o → Sorted (calls_give image calls o)
unfolding calls_give
calls_sorted image [] o h = h
calls_sorted image (call ∷ calls) o h = calls_sorted image calls (call_gives image call o) (call_sorted image call o h)

-- the sources give such
pub components_sorted : (image : List ℕ) → Sorted (all_components image)
unfolding all_components
components_sorted image = every_made components Component (λ n. refl) (up_from 0 (component_count image))

pub diagnostics_sorted : (image name : List ℕ) → Sorted (diagnostics_of image name)
unfolding diagnostics_of
diagnostics_sorted image name =
    every_kept (is_of diagnostics) (is_of_analysis image name) (map Diagnostic (up_from 0 (diagnostic_count image)))
    (every_made diagnostics Diagnostic (λ n. refl) (up_from 0 (diagnostic_count image)))

-- so where the plan comes to a collection of a sort, members of that sort arrive
pub arrivals_sorted : (image : List ℕ) (calls : List Call) (sort sort' : Sort) (members : List Member) → plan_of (sort_kind sort) calls ≡ Ok (sort_kind sort')
    → every (is_of sort) members ≡ true → every (is_of sort') (arrivals image calls members) ≡ true
unfolding settled
arrivals_sorted image calls sort sort' members e h =
    go sort' (subst Sorted (calls_settled image calls sort members (sort_kind sort') e) (calls_sorted image calls (collection sort members) h))
  where
    go : (s : Sort)
        → Sorted (settled (sort_kind s) (last_method calls) (length (arrivals image calls members)) (how_many (last_test image calls) (arrivals image calls members)) (arrivals image calls members))
        → every (is_of s) (arrivals image calls members) ≡ true
    go components k = k
    go features k = k
    go diagnostics k = k

-- Members listed or counted where no predicate is asked: row after row, and what that comes to by the calls. Assumes nothing.
use mathlib.Core.Path.{◌≡◌, refl, sym, ap, ◌∙◌, subst}
use mathlib.Core.Bool.{Bool, true, false}
use mathlib.Core.List.{List, [], ◌∷◌, ◌++◌, map, append-nil}
use Prim.Native.Nat.{ℕ, ◌+◌, ◌-◌, ◌*◌, ◌≤◌, ◌<◌}
use native.Mathlib.Nat.{zero-add}
use native.Mathlib.Omega.{arith}
use lib.ListN.{length, length-append}
use lib.Seq.{sets, length-sets}
use Rattle.syntax.specs.Text.{same}
use Rattle.syntax.proofs.TableLaws.{sets_append}
use Rattle.board.specs.Check.{COLLECTION_ROW}
use Rattle.board.specs.Image.{text, component_count, diagnostic_count, first_feature, analysis}
use Rattle.instance.specs.Instance.{features_end}
use Rattle.predicate.specs.declared.atom.Member.{Member}
use Rattle.predicate.specs.declared.atom.Member.TheVariants.{Component, Feature, Diagnostic}
use Rattle.meaning.specs.Value.{row_of, rows_of}
use Rattle.meaning.specs.declared.Method.{Method}
use Rattle.meaning.specs.declared.Method.TheVariants.{Count, Features}
use Rattle.meaning.specs.Calls.{Call, kept, features_of, fan_out, how_many}
use Rattle.meaning.specs.Pipeline.{is_of_analysis}
use Rattle.meaning.specs.Walk.{arrivals, arrive_by, last_call}
use Rattle.meaning.proofs.WalkLaws.{up_to, made_length, up_all, made_next, made_none, kept_next, kept_past, kept_none, features_made, rows_append, rows_length}
use Rattle.eval.specs.declared.ready.Call.{Call as PlacedCall}
use Rattle.eval.specs.declared.walk.Tally.{Tally}
use Rattle.std.specs.Prelude.{Option, Some}
use Rattle.eval.specs.Ready.{call_in, nth, CallAt, IsCall, calls_from}
use Rattle.eval.specs.Feed.{state_of, begin, arrive, fed, Fits}
use Rattle.eval.specs.Listed.{every_component, every_feature, Lists}
use Rattle.eval.specs.Walk.{every_of_analysis}
use Rattle.eval.proofs.ReadyLaws.{calls_at, calls_over}
use Rattle.eval.proofs.FeedLaws.{state, state_is}

-- ---- rows written one after the other: what is left comes to the whole

pub record Listing (all : List Member) (first : ℕ) (before : List ℕ) (rest : List Member) (row : ℕ) (table : List ℕ) : Type 0 where
  pub number : row + length rest ≡ first + length all
  pub same : sets table (COLLECTION_ROW * row) (rows_of rest) ≡ sets before (COLLECTION_ROW * first) (rows_of all)
  pub long : length table ≡ length before

pub listing_start : (all : List Member) (first : ℕ) (before : List ℕ) {rest : List Member} → all ≡ rest → Listing all first before rest first before
listing_start all first before e =
    subst (λ (rest : List Member). Listing all first before rest first before) e (record { number = refl; same = refl; long = refl })

module _ {all : List Member} {first : ℕ} {before : List ℕ} {rest : List Member} {row : ℕ} {table : List ℕ} (l : Listing all first before rest row table) where
  -- some are written
  pub listing_on : (xs : List Member) {ys : List Member} {r : ℕ} {after : List ℕ} → rest ≡ xs ++ ys → Lists xs row table after r → Listing all first before ys r after
  listing_on xs {ys} {r} {after} e w =
      record {
        number = omega (arith, w.row, l.number, ap length e, length-append xs ys);
        same =
            ap (λ (t : List ℕ). sets t (COLLECTION_ROW * r) (rows_of ys)) w.table
            ∙ ap (λ (i : ℕ). sets (sets table (COLLECTION_ROW * row) (rows_of xs)) i (rows_of ys)) place
            ∙ sym (sets_append (rows_of xs) (rows_of ys) table (COLLECTION_ROW * row))
            ∙ ap (sets table (COLLECTION_ROW * row)) (sym (ap rows_of e ∙ rows_append xs ys))
            ∙ l.same;
        long = ap length w.table ∙ length-sets table (COLLECTION_ROW * row) (rows_of xs) ∙ l.long;
      }
    where
      place : COLLECTION_ROW * r ≡ COLLECTION_ROW * row + length (rows_of xs)
      place = omega (arith, w.row, rows_length xs)

  -- one is passed over
  pub listing_skip : {others : List Member} {r : ℕ} {after : List ℕ} → rest ≡ others → r ≡ row → after ≡ table → Listing all first before others r after
  unfolding rows_of
  listing_skip {others} e h t = listing_on [] e (record { row = omega (arith, h); table = t })

  -- all are
  pub listing_end : rest ≡ [] → Lists all first before table row
  unfolding rows_of
  listing_end e =
      record {
        row = omega (arith, l.number, ap length e);
        table = sym (ap (λ (ms : List Member). sets table (COLLECTION_ROW * row) (rows_of ms)) e) ∙ l.same;
      }

  -- there is room for some more
  pub listing_room : (xs ys : List Member) → rest ≡ xs ++ ys → COLLECTION_ROW * (first + length all) ≤ length before → COLLECTION_ROW * (row + length xs) ≤ length table
  listing_room xs ys e h = omega (arith, l.number, ap length e, length-append xs ys, l.long)

-- one row
pub lists_one : (m : Member) (row : ℕ) (before : List ℕ) {after : List ℕ} → after ≡ sets before (COLLECTION_ROW * row) (row_of m) → Lists (m ∷ []) row before after (row + 1)
unfolding rows_of
lists_one m row before e = record { row = refl; table = e ∙ ap (sets before (COLLECTION_ROW * row)) (sym (append-nil (row_of m))) }

-- ---- members in their turn

pub every_made : (image : List ℕ) {count : ℕ} → count ≡ component_count image → every_component image ≡ map Component (up_to 0 count)
every_made image e = ap (map Component) (up_all (component_count image) ∙ ap (up_to 0) (sym e))

pub features_are : (image : List ℕ) (c : ℕ) {first end : ℕ} → end ≡ features_end image c → first ≡ first_feature image c → features_of image c ≡ map (Feature c) (up_to first end)
features_are image c e f = features_made image c ∙ λ i. map (Feature c) (up_to (sym f i) (sym e i))

-- the diagnostics of an analysis from one on
abbrev pub diagnostics_from : (image name : List ℕ) → (diagnostic count : ℕ) → List Member
diagnostics_from image name diagnostic count = kept (is_of_analysis image name) (map Diagnostic (up_to diagnostic count))

pub diagnostics_made : (image name : List ℕ) {count : ℕ} → count ≡ diagnostic_count image → every_of_analysis image name ≡ diagnostics_from image name 0 count
diagnostics_made image name e = ap (λ (ns : List ℕ). kept (is_of_analysis image name) (map Diagnostic ns)) (up_all (diagnostic_count image) ∙ ap (up_to 0) (sym e))

-- the first of them is of the analysis by its text, or is not; or there is none
module _ (image name : List ℕ) (diagnostic count : ℕ) where
  pub diagnostic_next : same (text image (analysis image diagnostic)) name ≡ true → diagnostic < count → diagnostics_from image name diagnostic count ≡ Diagnostic diagnostic ∷ diagnostics_from image name (diagnostic + 1) count
  unfolding is_of_analysis
  diagnostic_next = kept_next (is_of_analysis image name) Diagnostic diagnostic count

  pub diagnostic_past : same (text image (analysis image diagnostic)) name ≡ false → diagnostic < count → diagnostics_from image name diagnostic count ≡ diagnostics_from image name (diagnostic + 1) count
  unfolding is_of_analysis
  diagnostic_past = kept_past (is_of_analysis image name) Diagnostic diagnostic count

  pub diagnostics_none : count ≤ diagnostic → diagnostics_from image name diagnostic count ≡ []
  diagnostics_none = kept_none (is_of_analysis image name) Diagnostic diagnostic count

-- how many a component has
pub features_number : (image : List ℕ) (c : ℕ) {first end : ℕ} → end ≡ features_end image c → first ≡ first_feature image c → end - first ≡ length (features_of image c)
features_number image c {first} {end} e f = sym (ap length (features_are image c e f) ∙ made_length (Feature c) first (end - first))

-- the features of all from a component on
abbrev pub features_from : List ℕ → ℕ → ℕ → List Member
features_from image component count = fan_out image (map Component (up_to component count))

module _ (image : List ℕ) (component count : ℕ) where
  pub owned_next : component < count → features_from image component count ≡ features_of image component ++ features_from image (component + 1) count
  unfolding fan_out
  owned_next h = ap (fan_out image) (made_next Component component count h)

  pub owned_none : count ≤ component → features_from image component count ≡ []
  unfolding fan_out
  owned_none h = ap (fan_out image) (made_none Component component count h)

pub owned_made : (image : List ℕ) {count : ℕ} → count ≡ component_count image → every_feature image ≡ features_from image 0 count
owned_made image e = ap (fan_out image) (every_made image e)

-- ---- counting them: no more than a number for each component

pub record Counting (image : List ℕ) (component count features : ℕ) : Type 0 where
  pub number : features + length (features_from image component count) ≡ length (every_feature image)
  pub most : features ≤ 4294967295 * component
  pub within : component ≤ count

pub counting_start : (image : List ℕ) {count : ℕ} → count ≡ component_count image → Counting image 0 count 0
counting_start image {count} e = record { number = zero-add (length (features_from image 0 count)) ∙ sym (ap length (owned_made image e)); most = omega arith; within = omega arith }

module _ {image : List ℕ} {component count features : ℕ} (k : Counting image component count features) where
  pub counting_on : {n : ℕ} → component < count → n ≡ length (features_of image component) → n ≤ 4294967295 → Counting image (component + 1) count (features + n)
  counting_on {n} h e s =
      record {
        number = omega (arith, k.number, e, ap length (owned_next image component count h), length-append (features_of image component) (features_from image (component + 1) count));
        most = omega (arith, k.most);
        within = omega arith;
      }

  pub counting_end : count ≤ component → features ≡ length (every_feature image)
  counting_end h = omega (arith, k.number, ap length (owned_none image component count h))

-- ---- counting the diagnostics of an analysis: no more than there are diagnostics

pub record CountingThese (all rest : List Member) (diagnostic counted : ℕ) : Type 0 where
  pub number : counted + length rest ≡ length all
  pub most : counted ≤ diagnostic

pub these_start : {all rest : List Member} → all ≡ rest → CountingThese all rest 0 0
these_start {all} {rest} e = record { number = zero-add (length rest) ∙ sym (ap length e); most = omega arith }

module _ {all rest : List Member} {diagnostic counted : ℕ} (k : CountingThese all rest diagnostic counted) where
  pub these_on : {m : Member} {others : List Member} {n : ℕ} → rest ≡ m ∷ others → n ≡ counted + 1 → CountingThese all others (diagnostic + 1) n
  these_on e h = record { number = omega (arith, k.number, ap length e, h); most = omega (arith, k.most, h) }

  pub these_skip : {others : List Member} {n : ℕ} → rest ≡ others → n ≡ counted → CountingThese all others (diagnostic + 1) n
  these_skip e h = record { number = omega (arith, k.number, ap length e, h); most = omega (arith, k.most, h) }

  pub these_end : rest ≡ [] → counted ≡ length all
  these_end e = omega (arith, k.number, ap length e)

-- ---- what that comes to by the calls

none_passes : (passes : Member → Bool) → ((m : Member) → passes m ≡ false) → (ms : List Member) → how_many passes ms ≡ 0
unfolding how_many kept
none_passes passes h [] = refl
none_passes passes h (m ∷ ms) = rw (h m) (none_passes passes h ms)

fed_listed : (image : List ℕ) (ms : List Member) {before after : List ℕ} {r : ℕ} → Lists ms 0 before after r → state r 0 after ≡ fed image [] ms (begin before)
unfolding fed arrive arrivals last_call
fed_listed image ms w = state_is w.row (sym (zero-add (how_many (λ m. false) ms) ∙ none_passes (λ m. false) (λ m. refl) ms)) w.table

fed_counted : (image : List ℕ) (call : Call) (calls : List Call) (ms : List Member) (table : List ℕ) → call.method ≡ Count
    → state (length ms) 0 table ≡ fed image (call ∷ calls) ms (begin table)
unfolding fed arrive arrivals arrive_by last_call rows_of how_many
fed_counted image call calls ms table e =
    rw e (state_is (sym (zero-add (length ms))) (sym (zero-add (how_many (λ m. false) ms) ∙ none_passes (λ m. false) (λ m. refl) ms)) refl)

-- `features` first: their features by the other calls
arrive_owned : (image : List ℕ) (call : Call) (calls : List Call) (ms : List Member) → call.method ≡ Features
    → arrivals image (call ∷ calls) ms ≡ arrivals image calls (fan_out image ms)
unfolding arrivals arrive_by
arrive_owned image call calls ms e = rw e

fed_owned : (image : List ℕ) (call : Call) (calls : List Call) (ms : List Member) (table : List ℕ) → call.method ≡ Features
    → fed image calls (fan_out image ms) (begin table) ≡ fed image (call ∷ calls) ms (begin table)
unfolding fed last_call
fed_owned image call calls ms table e = sym (rw (arrive_owned image call calls ms e, e))

-- nobody passed
pub tallied : {t : Tally} {n : ℕ} (table : List ℕ) → t ≡ record { arrived = n; passed = 0 } → state_of t table ≡ state n 0 table
tallied table e = ap (λ (t : Tally). state_of t table) e

-- a call that was found
pub is_call : {calls : List PlacedCall} {i : ℕ} {found : Option PlacedCall} {call : PlacedCall} (m : Method) → CallAt calls i found → found ≡ Some call
    → call.method ≡ m → IsCall calls i m
is_call {calls} {i} m at e h =
    let here = subst (CallAt calls i) e at in
    record { there = here.0; is = ap (λ (c : PlacedCall). c.method) (sym here.1) ∙ h }

-- by the calls of the table
module _ (rule image tree : List ℕ) (rows : List PlacedCall) where
  abbrev call_at : ℕ → Call
  call_at i = call_in rule tree (nth rows i)

  abbrev from : ℕ → List Call
  from i = calls_from rule tree rows i

  -- no call
  module _ (h : length rows ≤ 0) where
    pub listed_room : {last : Method} (ms : List Member) {table : List ℕ} → Fits last image (from 0) ms (begin table) → COLLECTION_ROW * length ms ≤ length table
    unfolding arrivals
    listed_room {last} ms {table} f =
        let n = ap (λ (calls : List Call). length (arrivals image calls ms)) (calls_over rule tree rows 0 h) in
        omega (arith, f.room, n)

    pub listed_all : (ms : List Member) {before after : List ℕ} {r : ℕ} → Lists ms 0 before after r → state r 0 after ≡ fed image (from 0) ms (begin before)
    listed_all ms {before} w = fed_listed image ms w ∙ ap (λ (calls : List Call). fed image calls ms (begin before)) (sym (calls_over rule tree rows 0 h))

  -- `count` first
  pub counted_these : (ms : List Member) {n : ℕ} (table : List ℕ) → IsCall rows 0 Count → n ≡ length ms → state n 0 table ≡ fed image (from 0) ms (begin table)
  counted_these ms table c e =
      state_is e refl refl
      ∙ fed_counted image (call_at 0) (from 1) ms table c.is
      ∙ ap (λ (calls : List Call). fed image calls ms (begin table)) (sym (calls_at rule tree rows 0 c.there))

  pub counted_all : {n : ℕ} (table : List ℕ) → IsCall rows 0 Count → n ≡ component_count image → state n 0 table ≡ fed image (from 0) (every_component image) (begin table)
  counted_all table c e = counted_these (every_component image) table c (e ∙ sym (made_length Component 0 (component_count image)))

  -- `features` first
  module _ (f : IsCall rows 0 Features) where
    owned : (table : List ℕ) → fed image (from 1) (every_feature image) (begin table) ≡ fed image (from 0) (every_component image) (begin table)
    owned table =
        fed_owned image (call_at 0) (from 1) (every_component image) table f.is
        ∙ ap (λ (calls : List Call). fed image calls (every_component image) (begin table)) (sym (calls_at rule tree rows 0 f.there))

    owned_arrivals : arrivals image (from 0) (every_component image) ≡ arrivals image (from 1) (every_feature image)
    owned_arrivals =
        ap (λ (calls : List Call). arrivals image calls (every_component image)) (calls_at rule tree rows 0 f.there)
        ∙ arrive_owned image (call_at 0) (from 1) (every_component image) f.is

    -- and no other call
    module _ (o : length rows ≤ 1) where
      pub owned_room : {last : Method} {table : List ℕ} → Fits last image (from 0) (every_component image) (begin table) → COLLECTION_ROW * length (every_feature image) ≤ length table
      unfolding arrivals
      owned_room {last} {table} f =
          let n = ap length (owned_arrivals ∙ ap (λ (calls : List Call). arrivals image calls (every_feature image)) (calls_over rule tree rows 1 o)) in
          omega (arith, f.room, n)

      pub owned_listed : {before after : List ℕ} {r : ℕ} → Lists (every_feature image) 0 before after r → state r 0 after ≡ fed image (from 0) (every_component image) (begin before)
      owned_listed {before} w =
          fed_listed image (every_feature image) w
          ∙ ap (λ (calls : List Call). fed image calls (every_feature image) (begin before)) (sym (calls_over rule tree rows 1 o))
          ∙ owned before

    -- and then `count`
    pub owned_counted : {n : ℕ} (table : List ℕ) → IsCall rows 1 Count → n ≡ length (every_feature image)
        → state n 0 table ≡ fed image (from 0) (every_component image) (begin table)
    owned_counted table c n =
        state_is n refl refl
        ∙ fed_counted image (call_at 1) (from 2) (every_feature image) table c.is
        ∙ ap (λ (calls : List Call). fed image calls (every_feature image) (begin table)) (sym (calls_at rule tree rows 1 c.there))
        ∙ owned table

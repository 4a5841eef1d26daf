-- Members sent one after the other, and what is kept of each. Assumes nothing.
use mathlib.Core.Path.{◌≡◌, refl, sym, ap, ◌∙◌, subst}
use mathlib.Core.Bool.{Bool, true, false, ◌&&◌, cond, false≢true}
use mathlib.Core.List.{List, [], ◌∷◌, ◌++◌, append-nil}
use mathlib.Core.Option.{Option, none, some}
use Prim.Native.Nat.{ℕ, ◌+◌, ◌*◌, ◌≤◌, ◌<◌}
use native.Mathlib.Nat.{add-zero}
use native.Mathlib.Omega.{arith}
use lib.ListN.{length, length-append}
use lib.Seq.{sets, length-sets}
use borrow.Author.Tests.{ltb-true, lt-ltb}
use Rattle.syntax.proofs.TableLaws.{sets_append}
use Rattle.board.specs.Check.{COLLECTION_ROW}
use Rattle.predicate.specs.declared.atom.Member.{Member}
use Rattle.predicate.specs.declared.atom.Member.TheVariants.{Component, Feature, Diagnostic}
use Rattle.meaning.specs.Value.{row_of, rows_of}
use Rattle.meaning.specs.declared.Method.{Method}
use Rattle.meaning.specs.declared.Method.TheVariants.{Where, All, Any, None, Count, Features, Diagnostics}
use Rattle.meaning.specs.Calls.{Call, keep, kept, true_for, features_of, how_many}
use Rattle.meaning.specs.Walk.{is_quantifier, is_last, arrivals, last_call, test_in}
use Rattle.meaning.proofs.WalkLaws.{arrive_end, arrive_kept, arrive_dropped, arrive_passed, arrive_component, arrive_feature, arrive_diagnostic, arrive_last, last_here, last_later, how_many_append, how_many_most, rows_append, rows_length, arrivals_append, arrivals_none}
use Rattle.predicate.specs.Truth.{truth}
use Rattle.predicate.specs.Rows.{children_at}
use Rattle.eval.specs.declared.ready.Call.{Call as PlacedCall}
use Rattle.eval.specs.Ready.{call_in, nth, calls_from}
use Rattle.eval.specs.Feed.{State, listed, arrive, fed, decided, Fits, Stands}
use Rattle.eval.proofs.ReadyLaws.{calls_at, calls_over}

-- a state by its parts
abbrev pub state : (arrived passed : ℕ) → List ℕ → State
state arrived passed table = record { arrived = arrived; passed = passed; table = table }

pub state_is : {a b c d : ℕ} {t u : List ℕ} → a ≡ b → c ≡ d → t ≡ u → state a c t ≡ state b d u
state_is p q r = λ i. state (p i) (q i) (r i)

-- ---- members arrive: none, and some after others

pub arrive_nothing : (image : List ℕ) (last : Option Call) (s : State) → arrive image last [] s ≡ s
unfolding arrive rows_of how_many kept
arrive_nothing image none s = state_is (add-zero s.arrived) (add-zero s.passed) refl
arrive_nothing image (some call) s = state_is (add-zero s.arrived) (add-zero s.passed) refl

pub arrive_append : (image : List ℕ) (last : Option Call) (xs ys : List Member) (s : State)
    → arrive image last (xs ++ ys) s ≡ arrive image last ys (arrive image last xs s)
unfolding arrive
arrive_append image last xs ys s =
    let parts = length-append xs ys in
    state_is (omega (arith, parts)) (omega (arith, how_many_append (test_in image last) xs ys)) (rows last)
  where
    rows : (last : Option Call)
        → sets s.table (COLLECTION_ROW * s.arrived) (rows_of (listed last (xs ++ ys)))
        ≡ sets (sets s.table (COLLECTION_ROW * s.arrived) (rows_of (listed last xs))) (COLLECTION_ROW * (s.arrived + length xs)) (rows_of (listed last ys))
    rows none =
        let place : COLLECTION_ROW * s.arrived + length (rows_of xs) ≡ COLLECTION_ROW * (s.arrived + length xs) = omega (arith, rows_length xs) in
        ap (sets s.table (COLLECTION_ROW * s.arrived)) (rows_append xs ys)
        ∙ sets_append (rows_of xs) (rows_of ys) s.table (COLLECTION_ROW * s.arrived)
        ∙ ap (λ (i : ℕ). sets (sets s.table (COLLECTION_ROW * s.arrived) (rows_of xs)) i (rows_of ys)) place
    rows (some call) = refl

-- ---- members are sent

-- what arrives of members is what arrives of others, by calls with the same last one
pub record Alike (image : List ℕ) (calls : List Call) (members : List Member) (later : List Call) (others : List Member) : Type 0 where
  pub arrivals : arrivals image calls members ≡ arrivals image later others
  pub last : last_call calls ≡ last_call later

-- it is what arrives of some and then of others
pub record Parts (image : List ℕ) (calls : List Call) (members first others : List Member) : Type 0 where
  pub arrivals : arrivals image calls members ≡ arrivals image calls first ++ arrivals image calls others

-- nothing arrives of members
pub record Lost (image : List ℕ) (calls : List Call) (members : List Member) : Type 0 where
  pub arrivals : arrivals image calls members ≡ []

-- so it is of members that are the same as others, that are some and then others, or none
module _ {image : List ℕ} {calls : List Call} {members : List Member} where
  pub alike_are : {others : List Member} → members ≡ others → Alike image calls members calls others
  alike_are e = record { arrivals = ap (arrivals image calls) e; last = refl }

  pub parts_are : (first : List Member) {others : List Member} → members ≡ first ++ others → Parts image calls members first others
  parts_are first {others} e = record { arrivals = ap (arrivals image calls) e ∙ arrivals_append image calls first others }

  pub lost_none : members ≡ [] → Lost image calls members
  lost_none e = record { arrivals = ap (arrivals image calls) e ∙ arrivals_none image calls }

pub fed_alike : {image : List ℕ} {calls later : List Call} {members others : List Member} (s : State)
    → Alike image calls members later others → fed image later others s ≡ fed image calls members s
unfolding fed
fed_alike s a = rw (a.arrivals, a.last)

pub fed_lost : {image : List ℕ} {calls : List Call} {members : List Member} (s : State) → Lost image calls members → s ≡ fed image calls members s
unfolding fed
fed_lost {image} {calls} s l = sym (rw l.arrivals (arrive_nothing image (last_call calls) s))

pub fed_parts : {image : List ℕ} {calls : List Call} {members first others : List Member} (s : State) → Parts image calls members first others
    → fed image calls members s ≡ fed image calls others (fed image calls first s)
unfolding fed
fed_parts {image} {calls} {members} {first} {others} s p =
    ap (λ (ms : List Member). arrive image (last_call calls) ms s) p.arrivals
    ∙ arrive_append image (last_call calls) (arrivals image calls first) (arrivals image calls others) s

-- ---- one member at a call

module _ (image : List ℕ) (call : Call) (calls : List Call) (m : Member) where
  pub at_kept : call.method ≡ Where → true_for image call.args m ≡ true → Alike image (call ∷ calls) (m ∷ []) calls (m ∷ [])
  at_kept e t = record { arrivals = arrive_kept image call calls m e t; last = last_later call calls (rw e) }

  pub at_dropped : call.method ≡ Where → true_for image call.args m ≡ false → Lost image (call ∷ calls) (m ∷ [])
  at_dropped e t = record { arrivals = arrive_dropped image call calls m e t }

  pub at_passed : call.method ≡ Diagnostics → Alike image (call ∷ calls) (m ∷ []) calls (m ∷ [])
  at_passed e = record { arrivals = arrive_passed image call calls m e; last = last_later call calls (rw e) }

  -- the last call: it is counted, and tested by a quantifier
  pub fed_last : (s : State) (b : Bool) → is_last call.method ≡ true → (is_quantifier call.method && true_for image call.args m) ≡ b
      → state (s.arrived + 1) (s.passed + cond b 1 0) s.table ≡ fed image (call ∷ calls) (m ∷ []) s
  unfolding fed arrive how_many kept rows_of
  fed_last s b l e = rw (arrive_last image call calls m l, last_here call calls l, e) (go b)
    where
      go : (b : Bool) → state (s.arrived + 1) (s.passed + cond b 1 0) s.table ≡ state (s.arrived + 1) (s.passed + length (keep b m [])) s.table
      go true = refl
      go false = refl

-- `features`
module _ (image : List ℕ) (call : Call) (calls : List Call) (h : call.method ≡ Features) where
  pub at_features : (c : ℕ) → Alike image (call ∷ calls) (Component c ∷ []) calls (features_of image c)
  at_features c = record { arrivals = arrive_component image call calls h c; last = last_later call calls (rw h) }

  pub at_feature : (c f : ℕ) → Lost image (call ∷ calls) (Feature c f ∷ [])
  at_feature c f = record { arrivals = arrive_feature image call calls h c f }

  pub at_diagnostic : (d : ℕ) → Lost image (call ∷ calls) (Diagnostic d ∷ [])
  at_diagnostic d = record { arrivals = arrive_diagnostic image call calls h d }

-- no call is left: its row is written
pub fed_end : (image : List ℕ) (m : Member) (s : State)
    → state (s.arrived + 1) s.passed (sets s.table (COLLECTION_ROW * s.arrived) (row_of m)) ≡ fed image [] (m ∷ []) s
unfolding fed arrive how_many kept rows_of arrivals last_call
fed_end image m s = state_is refl (sym (add-zero s.passed)) (ap (sets s.table (COLLECTION_ROW * s.arrived)) (sym (append-nil (row_of m))))

-- ---- room for members

-- no more pass than arrive
fewer_more : (image : List ℕ) (calls : List Call) (members : List Member) (s : State) → s.passed ≤ s.arrived
    → (fed image calls members s).passed ≤ (fed image calls members s).arrived
unfolding fed arrive
fewer_more image calls members s h = omega (arith, how_many_most (test_in image (last_call calls)) (arrivals image calls members))

module _ {last : Method} {image : List ℕ} {calls : List Call} {members first others : List Member} {s : State} (p : Parts image calls members first others)
    (f : Fits last image calls members s) where
  size : length (arrivals image calls members) ≡ length (arrivals image calls first) + length (arrivals image calls others)
  size = ap length p.arrivals ∙ length-append (arrivals image calls first) (arrivals image calls others)

  pub fits_first : Fits last image calls first s
  fits_first = record { room = omega (arith, f.room, size); fewer = f.fewer; decides = f.decides }

  pub fits_others : Fits last image calls others (fed image calls first s)
  unfolding fed arrive
  fits_others =
      record {
        room = omega (arith, f.room, size, length-sets s.table (COLLECTION_ROW * s.arrived) (rows_of (listed (last_call calls) (arrivals image calls first))));
        fewer = fewer_more image calls first s f.fewer;
        decides = f.decides;
      }

-- the same room for what arrives alike
pub fits_alike : {last : Method} {image : List ℕ} {calls later : List Call} {members others : List Member} {s : State}
    → Alike image calls members later others → Fits last image calls members s → Fits last image later others s
fits_alike {s = s} a f =
    record {
      room = subst (λ (ms : List Member). COLLECTION_ROW * (s.arrived + length ms) ≤ length s.table) a.arrivals f.room;
      fewer = f.fewer;
      decides = record { unlisted = λ q ms. ap (λ (call : Option Call). listed call ms) (sym a.last) ∙ f.decides.unlisted q ms };
    }

-- room for one member more, at the end of the calls or at the last
pub fits_one : {last : Method} {image : List ℕ} {calls : List Call} {m : Member} {s : State} → arrivals image calls (m ∷ []) ≡ m ∷ [] → Fits last image calls (m ∷ []) s
    → COLLECTION_ROW * (s.arrived + 1) ≤ length s.table
fits_one {s = s} e f = subst (λ (ms : List Member). COLLECTION_ROW * (s.arrived + length ms) ≤ length s.table) e f.room

-- ---- a quantifier that is decided

-- it stays decided
decided_more : (last : Method) (arrived passed more of : ℕ) → of ≤ more → decided last arrived passed ≡ true → decided last (arrived + more) (passed + of) ≡ true
decided_more Where arrived passed more of h d = absurd (false≢true d)
decided_more All arrived passed more of h d = lt-ltb (passed + of) (arrived + more) (omega (arith, ltb-true passed arrived d))
decided_more Any arrived passed more of h d = lt-ltb 0 (passed + of) (omega (arith, ltb-true 0 passed d))
decided_more None arrived passed more of h d = lt-ltb 0 (passed + of) (omega (arith, ltb-true 0 passed d))
decided_more Count arrived passed more of h d = absurd (false≢true d)
decided_more Features arrived passed more of h d = absurd (false≢true d)
decided_more Diagnostics arrived passed more of h d = absurd (false≢true d)

decided_quantifier : (last : Method) (arrived passed : ℕ) → decided last arrived passed ≡ true → is_quantifier last ≡ true
decided_quantifier Where arrived passed d = absurd (false≢true d)
decided_quantifier All arrived passed d = refl
decided_quantifier Any arrived passed d = refl
decided_quantifier None arrived passed d = refl
decided_quantifier Count arrived passed d = absurd (false≢true d)
decided_quantifier Features arrived passed d = absurd (false≢true d)
decided_quantifier Diagnostics arrived passed d = absurd (false≢true d)

-- whether it is decided in a state
abbrev decided_in : Method → State → Bool
decided_in last s = decided last s.arrived s.passed

-- a state stands for itself, and for what follows once it is decided
stands_equal : {last : Method} {s t : State} → s.passed ≤ s.arrived → s ≡ t → Stands last s t
stands_equal {last} h e =
    record {
      table = ap (λ (s : State). s.table) e;
      fewer = h;
      same = λ d. e;
      done = λ d. subst (λ (s : State). decided_in last s ≡ true) e d;
    }

stands_then : {last : Method} {s t u : State} → Stands last s t → Stands last t u → Stands last s u
stands_then {last} {s} {t} {u} a b =
    record {
      table = a.table ∙ b.table;
      fewer = a.fewer;
      same = λ d. a.same d ∙ b.same (subst (λ (s : State). decided_in last s ≡ false) (a.same d) d);
      done = λ d. b.done (a.done d);
    }

stands_on : {last : Method} {image : List ℕ} {calls : List Call} {members : List Member} {s : State} → Fits last image calls members s
    → decided_in last s ≡ true → Stands last s (fed image calls members s)
unfolding fed arrive rows_of
stands_on {last} {image} {calls} {members} {s} f d =
    record {
      table =
          sym (ap (λ (ms : List Member). sets s.table (COLLECTION_ROW * s.arrived) (rows_of ms))
          (f.decides.unlisted (decided_quantifier last s.arrived s.passed d) (arrivals image calls members)));
      fewer = f.fewer;
      same = λ e. absurd (false≢true (sym e ∙ d));
      done = decided_more last s.arrived s.passed (length (arrivals image calls members)) (how_many (test_in image (last_call calls)) (arrivals image calls members)) (how_many_most (test_in image (last_call calls)) (arrivals image calls members));
    }

pub stands_is : {last : Method} {s t u : State} → Stands last s t → t ≡ u → Stands last s u
stands_is {last} {s} w e = subst (Stands last s) e w

-- what is sent whole stands for it
pub stands_fed : {last : Method} {image : List ℕ} {calls : List Call} {members : List Member} {s t : State} → Fits last image calls members s
    → t ≡ fed image calls members s → Stands last t (fed image calls members s)
stands_fed {image = image} {calls = calls} {members = members} {s = s} f e =
    stands_equal (subst (λ (t : State). t.passed ≤ t.arrived) (sym e) (fewer_more image calls members s f.fewer)) e

pub stands_alike : {last : Method} {image : List ℕ} {calls later : List Call} {members others : List Member} (s : State) {t : State}
    → Alike image calls members later others → Stands last t (fed image later others s) → Stands last t (fed image calls members s)
stands_alike s a w = stands_is w (fed_alike s a)

-- ---- a loop over members

-- what is left to send comes to what all come to from the start, and has room
pub record Feeding (last : Method) (image : List ℕ) (calls : List Call) (all : List Member) (start : State) (rest : List Member) (s : State) : Type 0 where
  pub same : fed image calls rest s ≡ fed image calls all start
  pub fits : Fits last image calls rest s

pub feeding_start : {last : Method} {image : List ℕ} {calls : List Call} {all : List Member} {start : State} → Fits last image calls all start
    → Feeding last image calls all start all start
feeding_start f = record { same = refl; fits = f }

module _ {last : Method} {image : List ℕ} {calls : List Call} {all : List Member} {start : State} {rest : List Member} {s : State}
    (p : Feeding last image calls all start rest s) where
  module _ {first others : List Member} {t : State} (q : Parts image calls rest first others) (w : Stands last t (fed image calls first s)) where
    -- some are sent, and the quantifier is not decided
    pub feeding_on : decided_in last t ≡ false → Feeding last image calls all start others t
    feeding_on d =
        subst (Feeding last image calls all start others) (sym (w.same d))
        (record { same = sym (fed_parts s q) ∙ p.same; fits = fits_others q p.fits })

    -- or it is decided
    pub feeding_stop : decided_in last t ≡ true → Stands last t (fed image calls all start)
    feeding_stop d =
        stands_then w
        (stands_is (stands_on (fits_others q p.fits) (w.done d)) (sym (fed_parts s q) ∙ p.same))

  -- some are passed over
  pub feeding_skip : {others : List Member} → Alike image calls rest calls others → Feeding last image calls all start others s
  feeding_skip a = record { same = fed_alike s a ∙ p.same; fits = fits_alike a p.fits }

  -- none is left
  pub feeding_end : Lost image calls rest → Stands last s (fed image calls all start)
  feeding_end l = stands_equal p.fits.fewer (fed_lost s l ∙ p.same)

-- ---- one member at a call of the table

module _ (rule image tree : List ℕ) (rows : List PlacedCall) (i : ℕ) where
  -- the calls from this one on, and from the next
  abbrev calls : List Call
  calls = calls_from rule tree rows i

  abbrev later : List Call
  later = calls_from rule tree rows (i + 1)

  abbrev method : Method
  method = (nth rows i).method

  abbrev args : ℕ
  args = (nth rows i).args

  module _ (h : i < length rows) where
    abbrev call : Call
    call = call_in rule tree (nth rows i)

    here : (P : List Call → Type 0) → P (call ∷ later) → P calls
    here P p = subst P (sym (calls_at rule tree rows i h)) p

    pub here_kept : (m : Member) → method ≡ Where → truth image m (children_at rule tree args) ≡ true → Alike image calls (m ∷ []) later (m ∷ [])
    here_kept m e t = here (λ cs. Alike image cs (m ∷ []) later (m ∷ [])) (at_kept image call later m e t)

    pub here_dropped : (m : Member) → method ≡ Where → truth image m (children_at rule tree args) ≡ false → Lost image calls (m ∷ [])
    here_dropped m e t = here (λ cs. Lost image cs (m ∷ [])) (at_dropped image call later m e t)

    pub here_passed : (m : Member) → method ≡ Diagnostics → Alike image calls (m ∷ []) later (m ∷ [])
    here_passed m l = here (λ cs. Alike image cs (m ∷ []) later (m ∷ [])) (at_passed image call later m l)

    pub here_features : (m : Member) (c : ℕ) → method ≡ Features → m ≡ Component c → Alike image calls (m ∷ []) later (features_of image c)
    here_features m c e q = here (λ cs. Alike image cs (m ∷ []) later (features_of image c)) (subst (λ (m : Member). Alike image (call ∷ later) (m ∷ []) later (features_of image c)) (sym q) (at_features image call later e c))

    pub here_feature : (m : Member) (c f : ℕ) → method ≡ Features → m ≡ Feature c f → Lost image calls (m ∷ [])
    here_feature m c f e q = here (λ cs. Lost image cs (m ∷ [])) (subst (λ (m : Member). Lost image (call ∷ later) (m ∷ [])) (sym q) (at_feature image call later e c f))

    pub here_diagnostic : (m : Member) (d : ℕ) → method ≡ Features → m ≡ Diagnostic d → Lost image calls (m ∷ [])
    here_diagnostic m d e q = here (λ cs. Lost image cs (m ∷ [])) (subst (λ (m : Member). Lost image (call ∷ later) (m ∷ [])) (sym q) (at_diagnostic image call later e d))

    pub here_arrives : (m : Member) (s : State) → is_last method ≡ true
        → state (s.arrived + 1) (s.passed + cond (is_quantifier method && truth image m (children_at rule tree args)) 1 0) s.table ≡ fed image calls (m ∷ []) s
    here_arrives m s l =
        here (λ cs. state (s.arrived + 1) (s.passed + cond (is_quantifier method && truth image m (children_at rule tree args)) 1 0) s.table ≡ fed image cs (m ∷ []) s)
        (fed_last image call later m s (is_quantifier method && truth image m (children_at rule tree args)) l refl)

    -- it arrives
    pub here_one : (m : Member) → is_last method ≡ true → arrivals image calls (m ∷ []) ≡ m ∷ []
    here_one m l = here (λ cs. arrivals image cs (m ∷ []) ≡ m ∷ []) (arrive_last image call later m l)

  -- no call is left
  module _ (h : length rows ≤ i) where
    over_end : (P : List Call → Type 0) → P [] → P calls
    over_end P p = subst P (sym (calls_over rule tree rows i h)) p

    pub end_one : (m : Member) → arrivals image calls (m ∷ []) ≡ m ∷ []
    end_one m = over_end (λ cs. arrivals image cs (m ∷ []) ≡ m ∷ []) (arrive_end image (m ∷ []))

    pub end_room : {last : Method} (m : Member) (s : State) → Fits last image calls (m ∷ []) s → COLLECTION_ROW * (s.arrived + 1) ≤ length s.table
    end_room m s f = fits_one (end_one m) f

    pub end_put : (m : Member) (s : State) {after : List ℕ} → after ≡ sets s.table (COLLECTION_ROW * s.arrived) (row_of m)
        → state (s.arrived + 1) s.passed after ≡ fed image calls (m ∷ []) s
    end_put m s e =
        state_is refl refl e
        ∙ over_end (λ cs. state (s.arrived + 1) s.passed (sets s.table (COLLECTION_ROW * s.arrived) (row_of m)) ≡ fed image cs (m ∷ []) s) (fed_end image m s)

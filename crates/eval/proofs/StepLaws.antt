-- What the notes tell of a member on its way through the calls, call by call. Assumes nothing.
use mathlib.Core.Path.{◌≡◌, refl, sym, ap, ◌∙◌, subst}
use mathlib.Core.Bool.{Bool, true, false, ◌&&◌, cond, false≢true}
use mathlib.Core.List.{List, [], ◌∷◌}
use Prim.Native.Nat.{ℕ, ◌+◌, ◌*◌, ◌≤◌, ◌<◌}
use lib.ListN.{length}
use Rattle.board.specs.Check.{COLLECTION_ROW}
use Rattle.predicate.specs.declared.atom.Member.{Member}
use Rattle.predicate.specs.Truth.{truth}
use Rattle.predicate.specs.Rows.{children_at}
use Rattle.meaning.specs.declared.Method.{Method}
use Rattle.meaning.specs.declared.Method.TheVariants.{Where, Count, Diagnostics}
use Rattle.meaning.specs.Calls.{Call}
use Rattle.meaning.specs.Walk.{is_quantifier, is_last}
use Rattle.eval.specs.declared.step.Step.{Step}
use Rattle.eval.specs.declared.step.Step.TheVariants.{Dropped, Listed, Counted}
use Rattle.std.specs.Prelude.{Some}
use Rattle.eval.specs.declared.ready.Call.{Call as PlacedCall}
use Rattle.eval.specs.Ready.{nth, calls_from}
use Rattle.eval.specs.declared.marked.Sorts.{Sorts}
use Rattle.eval.specs.declared.memo.Note.{Note}
use Rattle.eval.specs.Memo.{args_of, place_of, told_in, Sound}
use Rattle.eval.specs.Feed.{State, Fits}
use Rattle.eval.specs.Step.{arrives, StepIs, Steps}
use Rattle.eval.proofs.ReadyLaws.{quantifier_last}
use Rattle.eval.proofs.FeedLaws.{state, Alike, fed_alike, fed_lost, fits_one, here_kept, here_dropped, here_passed, here_arrives, here_one, end_one, end_put}

-- a step at later calls, of a member that passes those before
step_alike : {image : List ℕ} {calls later : List Call} {m : Member} {r : Step} → Alike image calls (m ∷ []) later (m ∷ []) → StepIs image later m r → StepIs image calls m r
step_alike a t = record { same = λ s. t.same s ∙ fed_alike s a; one = λ h. a.arrivals ∙ t.one h }

-- members whose notes begin at a place pass the calls from one up to another
pub record Passing (rows : List PlacedCall) (from place : ℕ) (notes : List Note) (i : ℕ) : Type 0 where
  pub so : (rule image tree : List ℕ) (sorts : Sorts) (m : Member) → Sound rule image tree rows sorts notes → place_of image sorts m ≡ Some place
      → Alike image (calls_from rule tree rows from) (m ∷ []) (calls_from rule tree rows i) (m ∷ [])

-- the notes tell this step
step_some : {rows : List PlacedCall} {from place : ℕ} {notes : List Note} {r : Step}
    → ((rule image tree : List ℕ) (sorts : Sorts) (m : Member) → Sound rule image tree rows sorts notes → place_of image sorts m ≡ Some place → StepIs image (calls_from rule tree rows from) m r)
    → Steps rows from place notes (Some r)
step_some {rows} {from} {place} {notes} {r} w =
    record {
      so = λ rule image tree sorts m n q step e.
          let same : r ≡ step = cc in
          subst (StepIs image (calls_from rule tree rows from) m) same (w rule image tree sorts m n q);
    }

module _ {rows : List PlacedCall} {from place : ℕ} {notes : List Note} {i : ℕ} (p : Passing rows from place notes i) where
  abbrev method : Method
  method = (nth rows i).method

  module _ (h : i < length rows) where
    -- a `where` that is true of them
    pub passing_on : method ≡ Where → told_in notes i place ≡ Some true → Passing rows from place notes (i + 1)
    passing_on e k =
        record {
          so = λ rule image tree sorts m n q.
              let a = p.so rule image tree sorts m n q in
              let b = here_kept rule image tree rows i h m e (n.noted i place m true q k) in
              record { arrivals = a.arrivals ∙ b.arrivals; last = a.last ∙ b.last };
        }

    -- `diagnostics`
    pub passing_over : method ≡ Diagnostics → Passing rows from place notes (i + 1)
    passing_over l =
        record {
          so = λ rule image tree sorts m n q.
              let a = p.so rule image tree sorts m n q in
              let b = here_passed rule image tree rows i h m l in
              record { arrivals = a.arrivals ∙ b.arrivals; last = a.last ∙ b.last };
        }

    -- a `where` that is false of them drops them
    pub step_dropped : method ≡ Where → told_in notes i place ≡ Some false → Steps rows from place notes (Some Dropped)
    step_dropped e k =
        step_some
        (λ rule image tree sorts m n q.
        step_alike (p.so rule image tree sorts m n q)
        (record {
          same = λ s. fed_lost s (here_dropped rule image tree rows i h m e (n.noted i place m false q k));
          one = λ t. absurd (false≢true t);
        }))

    -- the last call counts them, by whether they pass its test
    step_counted : (b : Bool) → is_last method ≡ true
        → ((rule image tree : List ℕ) (sorts : Sorts) (m : Member) → Sound rule image tree rows sorts notes → place_of image sorts m ≡ Some place
        → b ≡ (is_quantifier method && truth image m (children_at rule tree (args_of rows i))))
        → Steps rows from place notes (Some (Counted b))
    step_counted b l tested =
        step_some
        (λ rule image tree sorts m n q.
        step_alike (p.so rule image tree sorts m n q)
        (record {
          same = λ s.
              ap (λ (b : Bool). state (s.arrived + 1) (s.passed + cond b 1 0) s.table) (tested rule image tree sorts m n q)
              ∙ here_arrives rule image tree rows i h m s l;
          one = λ t. here_one rule image tree rows i h m l;
        }))

    pub step_count : method ≡ Count → Steps rows from place notes (Some (Counted false))
    step_count e =
        step_counted false (ap is_last e) (λ rule image tree sorts m n q. sym (rw e refl))

    -- a quantifier, whose predicate is noted
    pub step_quantified : (b : Bool) → is_quantifier method ≡ true → told_in notes i place ≡ Some b → Steps rows from place notes (Some (Counted b))
    step_quantified b t k = step_counted b (quantifier_last method t) (λ rule image tree sorts m n q. sym (rw t (n.noted i place m b q k)))

  -- no call is left: they have rows
  pub step_listed : length rows ≤ i → Steps rows from place notes (Some Listed)
  step_listed h =
      step_some
      (λ rule image tree sorts m n q.
      step_alike (p.so rule image tree sorts m n q)
      (record {
        same = λ s. end_put rule image tree rows i h m s refl;
        one = λ t. end_one rule image tree rows i h m;
      }))

-- ---- a step that is told is taken

module _ {last : Method} {image : List ℕ} {calls : List Call} {m : Member} {r : Step} {s : State} (t : StepIs image calls m r) (f : Fits last image calls (m ∷ []) s) where
  -- there is room for a member that arrives
  pub step_room : arrives r ≡ true → COLLECTION_ROW * (s.arrived + 1) ≤ length s.table
  step_room h = fits_one (t.one h) f

-- Walks on which members are sent, one after the other. Assumes nothing.
use mathlib.Core.Path.{◌≡◌, refl, sym, ap, ◌∙◌, subst}
use mathlib.Core.Bool.{Bool, true, false, ◌&&◌, cond}
use lib.ListN.{length}
use Rattle.std.specs.Prelude.{Option, Some, None}
use mathlib.Core.List.{List, [], ◌∷◌, map}
use Prim.Native.Nat.{ℕ, ◌+◌, ◌≤◌, ◌<◌}
use Rattle.predicate.specs.declared.atom.Member.{Member}
use Rattle.predicate.specs.Truth.{truth}
use Rattle.predicate.specs.Rows.{children_at}
use Rattle.predicate.specs.declared.atom.Member.TheVariants.{Component, Feature, Diagnostic}
use Rattle.meaning.specs.declared.Method.{Method}
use Rattle.meaning.specs.declared.Method.TheVariants.{Where, Count, Features, Diagnostics}
use Rattle.meaning.specs.Calls.{features_of}
use Rattle.meaning.specs.Walk.{is_last, is_quantifier}
use Rattle.meaning.proofs.WalkLaws.{up_to, made_next, made_none}
use Rattle.profile.specs.Profile.{profile_of}
use Rattle.eval.specs.declared.marked.Sorts.{Sorts}
use Rattle.eval.specs.declared.memo.Note.{Note}
use Rattle.eval.specs.declared.ready.Call.{Call as PlacedCall}
use Rattle.eval.specs.declared.step.Step.{Step}
use Rattle.eval.specs.declared.step.Step.TheVariants.{Listed}
use Rattle.eval.specs.declared.walk.Tally.{Tally}
use Rattle.eval.specs.declared.context.Pipeline.{Pipeline}
use Rattle.eval.specs.declared.walk.Walk.{Walk}
use Rattle.eval.specs.Ready.{nth, CallAt, IsCall}
use Rattle.eval.specs.declared.memo.Note.TheVariants.{NotKnown}
use Rattle.eval.specs.Marked.{TellsBelow}
use Rattle.eval.specs.Memo.{args_of, place_of, note_in}
use Rattle.eval.specs.Feed.{State, state_of, fed, counted, decided_in, Fits, Stands}
use Rattle.eval.specs.Walk.{calls_at, last_of, SoundOf, state_in, SendsAll, Begins, SameWalk, Sending, Sent, Arriving, Takes, Moved, Stays, Asking, AskedOf, NotesIt}
use Rattle.eval.specs.Step.{after, StepIs, Steps}
use Rattle.eval.proofs.StepLaws.{step_room}
use Rattle.eval.proofs.ReadyLaws.{quantifier_of}
use Rattle.eval.proofs.MemoLaws.{room, sound_noted}
use Rattle.eval.proofs.FeedLaws.{state, Alike, Parts, Lost, parts_are, lost_none, fed_lost, fits_first, fits_alike, stands_fed, stands_alike, here_kept, here_dropped, here_passed, here_features, here_feature, here_diagnostic, here_arrives, end_room, end_put, Feeding, feeding_start, feeding_on, feeding_stop, feeding_skip, feeding_end}

same_walk : (w : Walk) → SameWalk w w
same_walk w = record { pipeline = refl; collection_name = refl; sorts = refl; notes_name = refl }

same_then : {a b c : Walk} → SameWalk a b → SameWalk b c → SameWalk a c
same_then s t =
    record {
      pipeline = t.pipeline ∙ s.pipeline;
      collection_name = t.collection_name ∙ s.collection_name;
      sorts = t.sorts ∙ s.sorts;
      notes_name = t.notes_name ∙ s.notes_name;
    }

pub same_calls : {w v : Walk} → SameWalk w v → length v.pipeline.calls.now ≡ length w.pipeline.calls.now
same_calls s = ap (λ (p : Pipeline). length p.calls.now) s.pipeline

-- what notes say is so by the same
sound_same : {w v : Walk} {notes : List Note} → SameWalk w v → SoundOf w.pipeline w.sorts notes → SoundOf v.pipeline v.sorts notes
sound_same {w} {v} {notes} s n =
    subst (λ (p : Pipeline). SoundOf p v.sorts notes) (sym s.pipeline) (subst (λ (x : Sorts). SoundOf w.pipeline x notes) (sym s.sorts) n)

sound_before : {w v : Walk} {notes : List Note} → SameWalk w v → SoundOf v.pipeline v.sorts notes → SoundOf w.pipeline w.sorts notes
sound_before {w} {v} {notes} s n =
    subst (λ (p : Pipeline). SoundOf p w.sorts notes) s.pipeline (subst (λ (x : Sorts). SoundOf v.pipeline x notes) s.sorts n)

-- members who may be sent by what is looked at may be sent on a walk that has the same before it
sending_on : {w v : Walk} {i : ℕ} {members : List Member} → SameWalk w v
    → Fits (last_of w.pipeline) w.pipeline.image.now (calls_at w.pipeline i) members (state_in v) → SoundOf w.pipeline w.sorts v.notes.now → Sending v i members
sending_on {v = v} {i = i} {members = members} s f n =
    record {
      fits = subst (λ (p : Pipeline). Fits (last_of p) p.image.now (calls_at p i) members (state_in v)) (sym s.pipeline) f;
      sound = sound_same s n;
    }

-- nobody arrives of those who are sent
pub sent_lost : {w : Walk} {i : ℕ} {members : List Member} → Sending w i members → Lost w.pipeline.image.now (calls_at w.pipeline i) members → Sent w i members w
sent_lost {w} p l = record { same = same_walk w; stands = stands_fed p.fits (fed_lost (state_in w) l); sound = p.sound }

-- a step was taken with those who are sent
pub sent_moved : {w v : Walk} {i : ℕ} {members : List Member} {s : State} → Sending w i members → Moved w s v
    → s ≡ fed w.pipeline.image.now (calls_at w.pipeline i) members (state_in w) → Sent w i members v
sent_moved {w} p m e =
    record { same = m.same; stands = stands_fed p.fits (m.state ∙ e); sound = subst (SoundOf w.pipeline w.sorts) (sym m.notes) p.sound }

-- ---- a predicate is asked

module _ {w : Walk} {i args : ℕ} (p : Asking w i args) where
  -- nothing is noted of it
  pub asked_alone : {m : Member} {r : Bool} → r ≡ truth w.pipeline.image.now m (children_at w.pipeline.rule.now w.pipeline.tree.now args) → AskedOf w i m w r
  asked_alone {m} e =
      record {
        stays = record { same = same_walk w; state = refl };
        value = e ∙ ap (λ (x : ℕ). truth w.pipeline.image.now m (children_at w.pipeline.rule.now w.pipeline.tree.now x)) p.args_is;
        sound = p.sound;
      }

  module _ {m : Member} {place : ℕ} (at : place_of w.pipeline.image.now w.sorts m ≡ Some place) where
    -- it is noted now
    pub asked_there : {v : Walk} {r : Bool} → NotKnown ≡ note_in w.notes.now i place → r ≡ truth w.pipeline.image.now m (children_at w.pipeline.rule.now w.pipeline.tree.now args)
        → Stays w v → NotesIt w args m i place r v → AskedOf w i m v r
    asked_there {v} {r} e value s n =
        let here = room w.notes.now i place e in
        record {
          stays = s;
          value = told;
          sound = subst (SoundOf w.pipeline w.sorts) (sym n.is) (sound_noted p.sound i place m r n.more at here.0 here.1 told below);
        }
      where
        below : TellsBelow w.pipeline.rule.now w.pipeline.tree.now (args_of w.pipeline.calls.now i) m w.sorts n.more
        below = subst (λ (x : ℕ). TellsBelow w.pipeline.rule.now w.pipeline.tree.now x m w.sorts n.more) p.args_is n.below

        told : r ≡ truth w.pipeline.image.now m (children_at w.pipeline.rule.now w.pipeline.tree.now (args_of w.pipeline.calls.now i))
        told = value ∙ ap (λ (x : ℕ). truth w.pipeline.image.now m (children_at w.pipeline.rule.now w.pipeline.tree.now x)) p.args_is

-- ---- a member arrives at the last call

-- one more, who passes or not
abbrev more : State → Bool → State
more s passes = state (s.arrived + 1) (s.passed + cond passes 1 0) s.table

module _ {w : Walk} {i : ℕ} {m : Member} {call : PlacedCall} (p : Arriving w i (m ∷ []) call) where
  abbrev method : Method
  method = (nth w.pipeline.calls.now i).method

  abbrev asked : Bool
  asked = truth w.pipeline.image.now m (children_at w.pipeline.rule.now w.pipeline.tree.now (args_of w.pipeline.calls.now i))

  last : is_last method ≡ true
  last = subst (λ (c : PlacedCall). is_last c.method ≡ true) p.is p.last

  arrived : {b : Bool} → b ≡ (is_quantifier method && asked)
      → more (state_in w) b ≡ fed w.pipeline.image.now (calls_at w.pipeline i) (m ∷ []) (state_in w)
  arrived e =
      ap (more (state_in w)) e
      ∙ here_arrives w.pipeline.rule.now w.pipeline.image.now w.pipeline.tree.now w.pipeline.calls.now i p.there m (state_in w) last

  -- it counts, and asks nothing
  pub arrive_counted : {t : Tally} → call.method ≡ Count → t ≡ counted w.tally false
      → Sent w i (m ∷ []) (record { pipeline = w.pipeline; collection = w.collection; sorts = w.sorts; notes = w.notes; tally = t })
  arrive_counted e t =
      let count : method ≡ Count = ap (λ (c : PlacedCall). c.method) (sym p.is) ∙ e in
      record {
        same = record { pipeline = refl; collection_name = refl; sorts = refl; notes_name = refl };
        stands = stands_fed p.sending.fits (ap (λ (t : Tally). state_of t w.collection.now) t ∙ arrived {b = false} (sym (rw count refl)));
        sound = p.sending.sound;
      }

  -- or it is a quantifier, whose predicate was asked
  pub arrive_asked : {v : Walk} {r : Bool} {t : Tally} → (call.method ≡ Count → ⊥) → AskedOf w i m v r → t ≡ counted v.tally r
      → Sent w i (m ∷ []) (record { pipeline = v.pipeline; collection = v.collection; sorts = v.sorts; notes = v.notes; tally = t })
  arrive_asked {v} {r} h a t =
      let other : method ≡ Count → ⊥ = λ e. h (ap (λ (c : PlacedCall). c.method) p.is ∙ e) in
      record {
        same =
            record {
              pipeline = a.stays.same.pipeline;
              collection_name = a.stays.same.collection_name;
              sorts = a.stays.same.sorts;
              notes_name = a.stays.same.notes_name;
            };
        stands =
            stands_fed p.sending.fits
            (ap (λ (t : Tally). state_of t v.collection.now) t
            ∙ ap (λ (s : State). more s r) a.stays.state
            ∙ arrived {b = r} (a.value ∙ sym (rw (quantifier_of method last other))));
        sound = a.sound;
      }

-- ---- others in place of those who are sent, of whom the same arrive

pub alike_sending : {w : Walk} {i j : ℕ} {members others : List Member} → Alike w.pipeline.image.now (calls_at w.pipeline i) members (calls_at w.pipeline j) others
    → Sending w i members → Sending w j others
alike_sending a p = record { fits = fits_alike a p.fits; sound = p.sound }

pub alike_sent : {w v : Walk} {i j : ℕ} {members others : List Member} → Alike w.pipeline.image.now (calls_at w.pipeline i) members (calls_at w.pipeline j) others
    → Sent w j others v → Sent w i members v
alike_sent {w} a t = record { same = t.same; stands = stands_alike (state_in w) a t.stands; sound = t.sound }

-- after a predicate was asked
module _ {w v : Walk} {i : ℕ} {members : List Member} (s : Stays w v) where
  pub stays_sending : SoundOf w.pipeline w.sorts v.notes.now → Sending w i members → Sending v i members
  stays_sending n p =
      sending_on s.same
      (subst (λ (t : State). Fits (last_of w.pipeline) w.pipeline.image.now (calls_at w.pipeline i) members t) (sym s.state) p.fits) n

  pub stays_sent : {u : Walk} → Sent v i members u → Sent w i members u
  stays_sent {u} t =
      record {
        same = same_then s.same t.same;
        stands =
            subst (λ (x : State). Stands (last_of w.pipeline) (state_in u) (fed w.pipeline.image.now (calls_at w.pipeline i) members x)) s.state
            (subst (λ (p : Pipeline). Stands (last_of p) (state_in u) (fed p.image.now (calls_at p i) members (state_in v))) s.same.pipeline t.stands);
        sound = sound_before s.same t.sound;
      }

  pub stays_lost : SoundOf w.pipeline w.sorts v.notes.now → Sending w i members
      → Lost w.pipeline.image.now (calls_at w.pipeline i) members → Sent w i members v
  stays_lost n p l = record { same = s.same; stands = stands_fed p.fits (s.state ∙ fed_lost (state_in w) l); sound = n }

-- ---- a loop over members: those left come to what all come to from the start

pub record Going (start : Walk) (i : ℕ) (all rest : List Member) (w : Walk) : Type 0 where
  pub same : SameWalk start w
  pub feeding : Feeding (last_of start.pipeline) start.pipeline.image.now (calls_at start.pipeline i) all (state_in start) rest (state_in w)
  pub sound : SoundOf start.pipeline start.sorts w.notes.now

pub going_start : {w : Walk} {i : ℕ} {all rest : List Member} → Sending w i all → all ≡ rest → Going w i all rest w
going_start {w} {i} {all} p e =
    subst (λ (rest : List Member). Going w i all rest w) e (record { same = same_walk w; feeding = feeding_start p.fits; sound = p.sound })

module _ {start w : Walk} {i : ℕ} {all rest : List Member} (g : Going start i all rest w) where
  module _ {first others : List Member} (q : Parts start.pipeline.image.now (calls_at start.pipeline i) rest first others) where
    -- some may be sent, and are
    pub going_first : Sending w i first
    going_first = sending_on g.same (fits_first q g.feeding.fits) g.sound

    module _ {v : Walk} (t : Sent w i first v) where
      went : Stands (last_of start.pipeline) (state_in v) (fed start.pipeline.image.now (calls_at start.pipeline i) first (state_in w))
      went = subst (λ (p : Pipeline). Stands (last_of p) (state_in v) (fed p.image.now (calls_at p i) first (state_in w))) g.same.pipeline t.stands

      same : SameWalk start v
      same = same_then g.same t.same

      sound : SoundOf start.pipeline start.sorts v.notes.now
      sound = sound_before g.same t.sound

      decided_is : {b : Bool} → b ≡ decided_in (last_of v.pipeline) v.tally → {c : Bool} → b ≡ c → decided_in (last_of start.pipeline) v.tally ≡ c
      decided_is e h = ap (λ (p : Pipeline). decided_in (last_of p) v.tally) (sym same.pipeline) ∙ sym e ∙ h

      -- the quantifier is not decided by them
      pub going_on : {b : Bool} → b ≡ decided_in (last_of v.pipeline) v.tally → b ≡ false → Going start i all others v
      going_on e h = record { same = same; feeding = feeding_on g.feeding q went (decided_is e h); sound = sound }

      -- or it is
      pub going_stop : {b : Bool} → b ≡ decided_in (last_of v.pipeline) v.tally → b ≡ true → Sent start i all v
      going_stop e h = record { same = same; stands = feeding_stop g.feeding q went (decided_is e h); sound = sound }

  -- profiles are what they were
  pub going_profile : (m : Member) {p : Option ℕ} → p ≡ profile_of start.pipeline.image.now start.sorts.held m → p ≡ profile_of w.pipeline.image.now w.sorts.held m
  going_profile m e = e ∙ λ j. profile_of (sym g.same.pipeline j).image.now (sym g.same.sorts j).held m

  -- and so is a call
  pub going_call : {j : ℕ} {m : Method} → IsCall start.pipeline.calls.now j m → IsCall w.pipeline.calls.now j m
  going_call {j} {m} = subst (λ (p : Pipeline). IsCall p.calls.now j m) (sym g.same.pipeline)

  -- some are passed over
  pub going_skip : {others : List Member} → Alike start.pipeline.image.now (calls_at start.pipeline i) rest (calls_at start.pipeline i) others → Going start i all others w
  going_skip a = record { same = g.same; feeding = feeding_skip g.feeding a; sound = g.sound }

  -- none is left
  pub going_end : Lost start.pipeline.image.now (calls_at start.pipeline i) rest → Sent start i all w
  going_end l = record { same = g.same; stands = feeding_end g.feeding l; sound = g.sound }

-- ---- the same where those left are made of the numbers from the next up to an end

pub record GoingUp (start : Walk) (i : ℕ) (all : List Member) (make : ℕ → Member) (next end : ℕ) (w : Walk) : Type 0 where
  pub going : Going start i all (map make (up_to next end)) w

pub up_start : {w : Walk} {i : ℕ} {all : List Member} {make : ℕ → Member} {first end : ℕ} → Sending w i all → all ≡ map make (up_to first end) → GoingUp w i all make first end w
up_start p e = record { going = going_start p e }

module _ {start w : Walk} {i : ℕ} {all : List Member} {make : ℕ → Member} {next end : ℕ} (g : GoingUp start i all make next end w) where
  module _ (h : next < end) where
    parts : Parts start.pipeline.image.now (calls_at start.pipeline i) (map make (up_to next end)) (make next ∷ []) (map make (up_to (next + 1) end))
    parts = parts_are (make next ∷ []) (made_next make next end h)

    -- the next may be sent, and is
    pub up_next : Sending w i (make next ∷ [])
    up_next = going_first g.going parts

    module _ {v : Walk} (t : Sent w i (make next ∷ []) v) {b : Bool} (e : b ≡ decided_in (last_of v.pipeline) v.tally) where
      pub up_on : b ≡ false → GoingUp start i all make (next + 1) end v
      up_on d = record { going = going_on g.going parts t e d }

      pub up_stop : b ≡ true → Sent start i all v
      up_stop d = going_stop g.going parts t e d

  pub up_end : end ≤ next → Sent start i all w
  up_end h = going_end g.going (lost_none (made_none make next end h))

-- ---- a walk from its beginning

module _ {p : Pipeline} {collection : ℕ} {table : List ℕ} {sorts : Sorts} {name : ℕ} {notes : List Note} {w : Walk} (b : Begins p collection table sorts name notes w) (of : List ℕ → List Member) where
  pub begun_call : {i : ℕ} {m : Method} → IsCall p.calls.now i m → IsCall w.pipeline.calls.now i m
  begun_call {i} {m} = subst (λ (q : Pipeline). IsCall q.calls.now i m) (sym b.pipeline)

  pub begun : SendsAll p (of p.image.now) table → SoundOf p sorts notes → Sending w 0 (of w.pipeline.image.now)
  begun f n =
      record {
        fits =
            subst (λ (q : Pipeline). Fits (last_of q) q.image.now (calls_at q 0) (of q.image.now) (state_in w)) (sym b.pipeline)
            (subst (λ (s : State). Fits (last_of p) p.image.now (calls_at p 0) (of p.image.now) s) (sym b.state) f);
        sound =
            subst (λ (q : Pipeline). SoundOf q w.sorts w.notes.now) (sym b.pipeline)
            (subst (λ (x : Sorts). SoundOf p x w.notes.now) (sym b.sorts_are)
            (subst (SoundOf p sorts) (sym b.notes_are) n));
      }

-- ---- one member at the i-th call

module _ {w : Walk} {i : ℕ} {m : Member} {found : Option PlacedCall} (at : CallAt w.pipeline.calls.now i found) (p : Sending w i (m ∷ [])) where
  -- there is none: it has a row
  module _ (e : found ≡ None) where
    over : length w.pipeline.calls.now ≤ i
    over = subst (CallAt w.pipeline.calls.now i) e at

    pub end_takes : Takes w Listed
    end_takes =
        record {
          room = λ t. end_room w.pipeline.rule.now w.pipeline.image.now w.pipeline.tree.now w.pipeline.calls.now i over m (state_in w) p.fits;
          fewer = p.fits.fewer;
        }

    pub end_listed : {v : Walk} → Moved w (after Listed m (state_in w)) v → Sent w i (m ∷ []) v
    end_listed l = sent_moved p l (end_put w.pipeline.rule.now w.pipeline.image.now w.pipeline.tree.now w.pipeline.calls.now i over m (state_in w) refl)

  module _ {call : PlacedCall} (e : found ≡ Some call) where
    pub here : (i < length w.pipeline.calls.now) × (call ≡ nth w.pipeline.calls.now i)
    here = subst (CallAt w.pipeline.calls.now i) e at

    method_is : {n : Method} → call.method ≡ n → (nth w.pipeline.calls.now i).method ≡ n
    method_is h = ap (λ (c : PlacedCall). c.method) (sym here.1) ∙ h

    pub asking : Asking w i call.args
    asking = record { args_is = ap (λ (c : PlacedCall). c.args) here.1; sound = p.sound }

    -- a `where`, by what its predicate says
    module _ {v : Walk} {r : Bool} (h : call.method ≡ Where) (a : AskedOf w i m v r) where
      kept : r ≡ true → Alike w.pipeline.image.now (calls_at w.pipeline i) (m ∷ []) (calls_at w.pipeline (i + 1)) (m ∷ [])
      kept t = here_kept w.pipeline.rule.now w.pipeline.image.now w.pipeline.tree.now w.pipeline.calls.now i here.0 m (method_is h) (sym a.value ∙ t)

      pub kept_sending : r ≡ true → Sending v (i + 1) (m ∷ [])
      kept_sending t = stays_sending a.stays a.sound (alike_sending (kept t) p)

      pub kept_sent : r ≡ true → {u : Walk} → Sent v (i + 1) (m ∷ []) u → Sent w i (m ∷ []) u
      kept_sent t s = alike_sent (kept t) (stays_sent a.stays s)

      pub dropped_sent : r ≡ false → Sent w i (m ∷ []) v
      dropped_sent t =
          stays_lost a.stays a.sound p
          (here_dropped w.pipeline.rule.now w.pipeline.image.now w.pipeline.tree.now w.pipeline.calls.now i here.0 m (method_is h) (sym a.value ∙ t))

    -- `features`
    module _ (h : call.method ≡ Features) where
      owned : {c : ℕ} → m ≡ Component c → Alike w.pipeline.image.now (calls_at w.pipeline i) (m ∷ []) (calls_at w.pipeline (i + 1)) (features_of w.pipeline.image.now c)
      owned {c} q = here_features w.pipeline.rule.now w.pipeline.image.now w.pipeline.tree.now w.pipeline.calls.now i here.0 m c (method_is h) q

      pub owned_sending : {c : ℕ} → m ≡ Component c → Sending w (i + 1) (features_of w.pipeline.image.now c)
      owned_sending q = alike_sending (owned q) p

      pub owned_sent : {c : ℕ} {v : Walk} → m ≡ Component c → Sent w (i + 1) (features_of w.pipeline.image.now c) v → Sent w i (m ∷ []) v
      owned_sent q s = alike_sent (owned q) s

      -- no other member has any
      pub owned_none : ((c : ℕ) → m ≡ Component c → ⊥) → Sent w i (m ∷ []) w
      owned_none none = sent_lost p (lost m refl)
        where
          lost : (n : Member) → m ≡ n → Lost w.pipeline.image.now (calls_at w.pipeline i) (m ∷ [])
          lost (Component c) q = absurd (none c q)
          lost (Feature c f) q = here_feature w.pipeline.rule.now w.pipeline.image.now w.pipeline.tree.now w.pipeline.calls.now i here.0 m c f (method_is h) q
          lost (Diagnostic d) q = here_diagnostic w.pipeline.rule.now w.pipeline.image.now w.pipeline.tree.now w.pipeline.calls.now i here.0 m d (method_is h) q

    -- `diagnostics`
    module _ (h : call.method ≡ Diagnostics) where
      passed : Alike w.pipeline.image.now (calls_at w.pipeline i) (m ∷ []) (calls_at w.pipeline (i + 1)) (m ∷ [])
      passed =
          here_passed w.pipeline.rule.now w.pipeline.image.now w.pipeline.tree.now w.pipeline.calls.now i here.0 m (method_is h)

      pub passed_sending : Sending w (i + 1) (m ∷ [])
      passed_sending = alike_sending passed p

      pub passed_sent : {v : Walk} → Sent w (i + 1) (m ∷ []) v → Sent w i (m ∷ []) v
      passed_sent s = alike_sent passed s

    -- a last call
    pub arriving : is_last call.method ≡ true → Arriving w i (m ∷ []) call
    arriving l = record { sending = p; there = here.0; is = here.1; last = l }

-- `features` as the first call
features_first : (w : Walk) (c : ℕ) → IsCall w.pipeline.calls.now 0 Features
    → Alike w.pipeline.image.now (calls_at w.pipeline 0) (Component c ∷ []) (calls_at w.pipeline 1) (features_of w.pipeline.image.now c)
features_first w c first = here_features w.pipeline.rule.now w.pipeline.image.now w.pipeline.tree.now w.pipeline.calls.now 0 first.there (Component c) c first.is refl

pub first_sending : {w : Walk} {c : ℕ} → IsCall w.pipeline.calls.now 0 Features → Sending w 0 (Component c ∷ []) → Sending w 1 (features_of w.pipeline.image.now c)
first_sending {w} {c} first p = alike_sending (features_first w c first) p

pub first_sent : {w v : Walk} {c : ℕ} → IsCall w.pipeline.calls.now 0 Features → Sent w 1 (features_of w.pipeline.image.now c) v → Sent w 0 (Component c ∷ []) v
first_sent {w} {c = c} first s = alike_sent (features_first w c first) s

-- the step of a member whose notes begin at a place, as they tell it
pub told_step : {w : Walk} {i place : ℕ} {m : Member} {found : Option Step} → Sending w i (m ∷ []) → place_of w.pipeline.image.now w.sorts m ≡ Some place
    → Steps w.pipeline.calls.now i place w.notes.now found → {step : Step} → found ≡ Some step → StepIs w.pipeline.image.now (calls_at w.pipeline i) m step
told_step {w} {m = m} p at s {step} e = s.so w.pipeline.rule.now w.pipeline.image.now w.pipeline.tree.now w.sorts m p.sound at step e

-- a step is taken
module _ {w : Walk} {i : ℕ} {m : Member} {step : Step} (p : Sending w i (m ∷ [])) (t : StepIs w.pipeline.image.now (calls_at w.pipeline i) m step) where
  pub step_takes : Takes w step
  step_takes = record { room = step_room t p.fits; fewer = p.fits.fewer }

  pub step_sent : {v : Walk} → Moved w (after step m (state_in w)) v → Sent w i (m ∷ []) v
  step_sent l = sent_moved p l (t.same (state_in w))

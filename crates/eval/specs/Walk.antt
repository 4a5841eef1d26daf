-- A walk through the calls of a pipeline: who may be sent on it, and how it is left. Assumes nothing: these are definitions.
use Rattle.std.specs.Prelude.{ℕ, ◌+◌, ◌*◌, ◌≤◌, ◌<◌, Bool, true, List, map, ◌≡◌, length, set}
use Rattle.board.specs.Check.{COLLECTION_ROW}
use Rattle.board.specs.Image.{diagnostic_count}
use Rattle.board.specs.WellFormed.{WellFormed, Room}
use Rattle.predicate.specs.declared.atom.Member.{Member}
use Rattle.predicate.specs.declared.atom.Member.TheVariants.{Diagnostic}
use Rattle.predicate.specs.Truth.{truth}
use Rattle.predicate.specs.Rows.{kind_at, children_at}
use Rattle.profile.specs.Profile.{PROFILES}
use Rattle.meaning.specs.declared.Method.{Method}
use Rattle.meaning.specs.Calls.{Call, kept, up_from}
use Rattle.meaning.specs.Pipeline.{is_of_analysis}
use Rattle.meaning.specs.Walk.{is_last}
use Rattle.eval.specs.declared.ready.Call.{Call as PlacedCall}
use Rattle.eval.specs.declared.step.Step.{Step}
use Rattle.eval.specs.declared.walk.Tally.{Tally}
use Rattle.eval.specs.declared.context.Pipeline.{Pipeline}
use Rattle.eval.specs.declared.walk.Walk.{Walk}
use Rattle.eval.specs.declared.marked.Sorts.{Sorts}
use Rattle.eval.specs.declared.memo.Note.{Note}
use Rattle.eval.specs.Ready.{nth, calls_in, calls_from, source_members}
use Rattle.eval.specs.Marked.{TellsBelow}
use Rattle.eval.specs.Memo.{note_for, args_of, Sound}
use Rattle.eval.specs.Feed.{State, state_of, begin, fed, walked, Decides, Fits, Stands}
use Rattle.eval.specs.Step.{arrives}

-- the calls of a pipeline from the i-th on
abbrev pub calls_at : Pipeline → ℕ → List Call
calls_at p i = calls_from p.rule.now p.tree.now p.calls.now i

-- its last call
abbrev pub last_of : Pipeline → Method
last_of p = p.last

-- what notes say of it is so
abbrev pub SoundOf : Pipeline → Sorts → List Note → Type 0
SoundOf p sorts notes = Sound p.rule.now p.image.now p.tree.now p.calls.now sorts notes

-- how far a walk is
abbrev pub state_in : Walk → State
state_in w = state_of w.tally w.collection.now

-- the diagnostics of the analysis with a name
abbrev pub every_of_analysis : (image name : List ℕ) → List Member
every_of_analysis image name = kept (is_of_analysis image name) (map Diagnostic (up_from 0 (diagnostic_count image)))

-- members may be sent through all calls of a pipeline into a table, and were
abbrev pub SendsAll : Pipeline → List Member → List ℕ → Type 0
SendsAll p members table = Fits (last_of p) p.image.now (calls_at p 0) members (begin table)

abbrev pub SentAll : Pipeline → List Member → (before after : List ℕ) → Tally → Type 0
SentAll p members before after t = Stands (last_of p) (state_of t after) (fed p.image.now (calls_at p 0) members (begin before))

-- the members of the source whose row is at a place may be sent into a table with room for what is on the board, and were
pub record Walks (p : Pipeline) (source : ℕ) (table : List ℕ) : Type 0 where
  pub well : WellFormed p.image.now
  pub room : Room p.image.now (length table)
  pub decides : Decides (last_of p) (calls_in p.rule.now p.tree.now p.calls.now)

abbrev pub Walked : Pipeline → ℕ → (before after : List ℕ) → Tally → Type 0
Walked p source before after t =
    Stands (last_of p) (state_of t after)
    (walked p.image.now (calls_in p.rule.now p.tree.now p.calls.now) (source_members p.image.now (kind_at p.tree.now source) (children_at p.rule.now p.tree.now source)) before)

-- a walk that nobody was sent on, with a collection table and notes by their names and as they are
pub record Begins (p : Pipeline) (collection : ℕ) (table : List ℕ) (sorts : Sorts) (name : ℕ) (notes : List Note) (w : Walk) : Type 0 where
  pub pipeline : w.pipeline ≡ p
  pub collection_name : w.collection.ghost_name ≡ collection
  pub sorts_are : w.sorts ≡ sorts
  pub notes_name : w.notes.ghost_name ≡ name
  pub notes_are : w.notes.now ≡ notes
  pub state : state_in w ≡ begin table

-- what is looked at stays, and what members are told apart by, and the table and the notes are the same ones
pub record SameWalk (old new : Walk) : Type 0 where
  pub pipeline : new.pipeline ≡ old.pipeline
  pub collection_name : new.collection.ghost_name ≡ old.collection.ghost_name
  pub sorts : new.sorts ≡ old.sorts
  pub notes_name : new.notes.ghost_name ≡ old.notes.ghost_name

-- members may be sent through the calls from the i-th on
pub record Sending (w : Walk) (i : ℕ) (members : List Member) : Type 0 where
  pub fits : Fits (last_of w.pipeline) w.pipeline.image.now (calls_at w.pipeline i) members (state_in w)
  pub sound : SoundOf w.pipeline w.sorts w.notes.now

-- they were: what the notes say is still so
pub record Sent (old : Walk) (i : ℕ) (members : List Member) (new : Walk) : Type 0 where
  pub same : SameWalk old new
  pub stands : Stands (last_of old.pipeline) (state_in new) (fed old.pipeline.image.now (calls_at old.pipeline i) members (state_in old))
  pub sound : SoundOf old.pipeline old.sorts new.notes.now

-- members may be sent to the i-th call, which gives no collection
pub record Arriving (w : Walk) (i : ℕ) (members : List Member) (call : PlacedCall) : Type 0 where
  pub sending : Sending w i members
  pub there : i < length w.pipeline.calls.now
  pub is : call ≡ nth w.pipeline.calls.now i
  pub last : is_last call.method ≡ true

-- there is room for what a step does
pub record Takes (w : Walk) (step : Step) : Type 0 where
  pub room : arrives step ≡ true → COLLECTION_ROW * (w.tally.arrived + 1) ≤ length w.collection.now
  pub fewer : w.tally.passed ≤ w.tally.arrived

-- a walk is so far now, and nothing was noted
pub record Moved (old : Walk) (s : State) (new : Walk) : Type 0 where
  pub same : SameWalk old new
  pub state : state_in new ≡ s
  pub notes : new.notes.now ≡ old.notes.now

-- it is as far as it was
pub record Stays (old new : Walk) : Type 0 where
  pub same : SameWalk old new
  pub state : state_in new ≡ state_in old

-- the predicate of call i may be asked of a member, and was
pub record Asking (w : Walk) (i args : ℕ) : Type 0 where
  pub args_is : args ≡ args_of w.pipeline.calls.now i
  pub sound : SoundOf w.pipeline w.sorts w.notes.now

pub record AskedOf (old : Walk) (i : ℕ) (m : Member) (new : Walk) (r : Bool) : Type 0 where
  pub stays : Stays old new
  pub value : r ≡ truth old.pipeline.image.now m (children_at old.pipeline.rule.now old.pipeline.tree.now (args_of old.pipeline.calls.now i))
  pub sound : SoundOf old.pipeline old.sorts new.notes.now

-- an answer was noted, as that of a predicate that was found to ask for more or not
pub record NotesIt (old : Walk) (args : ℕ) (m : Member) (i place : ℕ) (value : Bool) (new : Walk) : Type 0 where
  pub more : Bool
  pub below : TellsBelow old.pipeline.rule.now old.pipeline.tree.now args m old.sorts more
  pub is : new.notes.now ≡ set old.notes.now (place + PROFILES * i) (note_for more value)

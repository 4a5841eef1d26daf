-- What becomes of a member on its way through calls, and what the notes tell of it. Assumes nothing: these are definitions.
use Rattle.std.specs.Prelude.{ℕ, ◌+◌, ◌*◌, Bool, true, false, cond, List, [], ◌∷◌, Option, Some, ◌≡◌}
use Rattle.std.proofs.lemmas.List.Edits.{sets}
use Rattle.board.specs.Check.{COLLECTION_ROW}
use Rattle.predicate.specs.declared.atom.Member.{Member}
use Rattle.meaning.specs.Value.{row_of}
use Rattle.meaning.specs.Calls.{Call}
use Rattle.meaning.specs.Walk.{arrivals}
use Rattle.eval.specs.declared.marked.Sorts.{Sorts}
use Rattle.eval.specs.declared.memo.Note.{Note}
use Rattle.eval.specs.declared.step.Step.{Step}
use Rattle.eval.specs.declared.step.Step.TheVariants.{Dropped, Listed, Counted}
use Rattle.eval.specs.declared.ready.Call.{Call as PlacedCall}
use Rattle.eval.specs.Ready.{calls_from}
use Rattle.eval.specs.Memo.{place_of, Sound}
use Rattle.eval.specs.Feed.{State, fed}

-- whether the member arrives where the result is settled
abbrev pub arrives : Step → Bool
arrives Dropped = false
arrives Listed = true
arrives (Counted passes) = true

-- what was so far, once it happened
abbrev pub after : Step → Member → State → State
after Dropped m s = s
after Listed m s = record { arrived = s.arrived + 1; passed = s.passed; table = sets s.table (COLLECTION_ROW * s.arrived) (row_of m) }
after (Counted passes) m s = record { arrived = s.arrived + 1; passed = s.passed + cond passes 1 0; table = s.table }

-- a step is what comes of a member by calls
pub record StepIs (image : List ℕ) (calls : List Call) (m : Member) (r : Step) : Type 0 where
  pub same : (s : State) → after r m s ≡ fed image calls (m ∷ []) s
  pub one : arrives r ≡ true → arrivals image calls (m ∷ []) ≡ m ∷ []

-- where the notes tell one, it is that of every member whose notes begin at a place
pub record Steps (calls : List PlacedCall) (from place : ℕ) (notes : List Note) (r : Option Step) : Type 0 where
  pub so : (rule image tree : List ℕ) (sorts : Sorts) (m : Member) → Sound rule image tree calls sorts notes
      → place_of image sorts m ≡ Some place → (step : Step) → r ≡ Some step → StepIs image (calls_from rule tree calls from) m step

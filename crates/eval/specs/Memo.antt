-- What is known of the calls' predicates: a note for each call, each profile and each of the ways in which the marked `has` can be true.
-- Assumes nothing: these are definitions.
use Rattle.std.specs.Prelude.{ℕ, ◌+◌, ◌*◌, Bool, true, false, cond, List, Option, Some, None, ◌≡◌, ltb, get_or}
use Rattle.instance.specs.Instance.{owners_wired}
use Rattle.predicate.specs.declared.atom.Member.{Member}
use Rattle.predicate.specs.Truth.{truth}
use Rattle.predicate.specs.Rows.{children_at}
use Rattle.profile.specs.Profile.{PROFILES, profile_of}
use Rattle.eval.specs.declared.marked.Sorts.{Sorts}
use Rattle.eval.specs.declared.memo.Note.{Note}
use Rattle.eval.specs.declared.memo.Note.TheVariants.{NotKnown, False, True, NotToKnow}
use Rattle.eval.specs.declared.ready.Call.{Call as PlacedCall}
use Rattle.eval.specs.Ready.{nth}
use Rattle.eval.specs.Marked.{bits_of, Marks}

-- the calls whose predicates are noted
abbrev pub NOTED_CALLS : ℕ
NOTED_CALLS = 4

-- the notes of one way, and of all
abbrev pub WAY_NOTES : ℕ
WAY_NOTES = 4604

abbrev pub NOTES : ℕ
NOTES = 73664

-- whether a predicate is true, if that is noted
abbrev pub told : Note → Option Bool
told NotKnown = None
told False = Some false
told True = Some true
told NotToKnow = None

-- the note for an answer, of a predicate that may ask for more
abbrev pub note_for : (more value : Bool) → Note
note_for true value = NotToKnow
note_for false value = cond value True False

-- the place of the CALL_ARGS of a call
abbrev pub args_of : List PlacedCall → ℕ → ℕ
args_of calls i = (nth calls i).args

-- where the notes of members with a profile and bits begin
abbrev pub place_by : (profile bits : Option ℕ) → Option ℕ
place_by (Some k) (Some bits) = Some (WAY_NOTES * bits + k)
place_by (Some k) None = None
place_by None bits = None

unfoldable pub place_of : List ℕ → Sorts → Member → Option ℕ
place_of image sorts m = place_by (profile_of image sorts.held m) (bits_of image sorts.marked.now m)

-- what is noted of the predicate of call i at a place; where there is no room for a note, that none is to be made
unfoldable pub note_in : List Note → ℕ → ℕ → Note
note_in notes i place = cond (ltb i NOTED_CALLS) (get_or notes (place + PROFILES * i) NotToKnow) NotToKnow

abbrev pub told_in : List Note → ℕ → ℕ → Option Bool
told_in notes i place = told (note_in notes i place)

-- what notes say is so: the marks, that the owner of every connection is wired where the wiring of features is held, and each truth that is
-- noted at a member's place
pub record Sound (rule image tree : List ℕ) (calls : List PlacedCall) (sorts : Sorts) (notes : List Note) : Type 0 where
  pub marks : Marks rule image tree sorts.marked.now
  pub wired : sorts.held.wiring_of_features ≡ true → owners_wired image ≡ true
  pub noted : (i place : ℕ) (m : Member) (value : Bool) → place_of image sorts m ≡ Some place → told_in notes i place ≡ Some value
      → truth image m (children_at rule tree (args_of calls i)) ≡ value

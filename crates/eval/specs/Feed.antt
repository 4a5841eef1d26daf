-- Members sent through calls one after the other, and what is kept of those that arrive: how many, how many of them pass the last call's
-- test, and, where the calls come to a collection, their rows. Assumes nothing: these are definitions.
use Rattle.std.specs.Prelude.{ℕ, ◌+◌, ◌*◌, ◌≤◌, List, [], Bool, true, false, cond, ◌≡◌, ltb, length}
use Rattle.std.proofs.Math.Option.{Option, none, some}
use Rattle.std.proofs.lemmas.List.Edits.{sets}
use Rattle.board.specs.Check.{COLLECTION_ROW}
use Rattle.predicate.specs.declared.atom.Member.{Member}
use Rattle.meaning.specs.Value.{rows_of, with_members}
use Rattle.meaning.specs.declared.Method.{Method}
use Rattle.meaning.specs.declared.Method.TheVariants.{Where, All, Any, None, Count, Features, Diagnostics}
use Rattle.meaning.specs.Calls.{Call, how_many}
use Rattle.meaning.specs.Walk.{is_quantifier, arrivals, last_call, test_in}
use Rattle.eval.specs.declared.walk.Tally.{Tally}

-- how far members were sent: how many arrived, how many of those passed, and the collection table
pub record State : Type 0 where
  pub arrived : ℕ
  pub passed : ℕ
  pub table : List ℕ

abbrev pub state_of : Tally → List ℕ → State
state_of tally table = record { arrived = tally.arrived; passed = tally.passed; table = table }

-- nothing was sent yet
abbrev pub begin : List ℕ → State
begin table = record { arrived = 0; passed = 0; table = table }

-- the members whose rows are written: all, or none where a last call makes no collection of them
abbrev pub listed : Option Call → List Member → List Member
listed none members = members
listed (some call) members = []

-- members arrive
unfoldable pub arrive : (image : List ℕ) → Option Call → List Member → State → State
unfolding how_many rows_of
arrive image last members s =
    record {
      arrived = s.arrived + length members;
      passed = s.passed + how_many (test_in image last) members;
      table = sets s.table (COLLECTION_ROW * s.arrived) (rows_of (listed last members));
    }

-- members are sent through calls
unfoldable pub fed : (image : List ℕ) → List Call → List Member → State → State
unfolding arrive arrivals last_call
fed image calls members s = arrive image (last_call calls) (arrivals image calls members) s

-- one more member arrived, and passed or not
abbrev pub counted : Tally → Bool → Tally
counted t passes = record { arrived = t.arrived + 1; passed = t.passed + cond passes 1 0 }

-- whether a quantifier is decided, whoever else arrives: `all` by a member that does not pass, `any` and `none` by one that does
abbrev pub decided : Method → (arrived passed : ℕ) → Bool
decided Where arrived passed = false
decided All arrived passed = ltb passed arrived
decided Any arrived passed = ltb 0 passed
decided None arrived passed = ltb 0 passed
decided Count arrived passed = false
decided Features arrived passed = false
decided Diagnostics arrived passed = false

abbrev pub decided_in : Method → Tally → Bool
decided_in last t = decided last t.arrived t.passed

-- where a quantifier may be decided, no rows are written
pub record Decides (last : Method) (calls : List Call) : Type 0 where
  pub unlisted : is_quantifier last ≡ true → (members : List Member) → listed (last_call calls) members ≡ []

-- the table has a row for each that arrives, no more passed than arrived, and a quantifier may be decided early
pub record Fits (last : Method) (image : List ℕ) (calls : List Call) (members : List Member) (s : State) : Type 0 where
  pub room : COLLECTION_ROW * (s.arrived + length (arrivals image calls members)) ≤ length s.table
  pub fewer : s.passed ≤ s.arrived
  pub decides : Decides last calls

-- s, reached by sending members until the quantifier is decided, stands for t, where all were sent: it is t, or both are decided; the table
-- is the same
pub record Stands (last : Method) (s t : State) : Type 0 where
  pub table : s.table ≡ t.table
  pub fewer : s.passed ≤ s.arrived
  pub same : decided last s.arrived s.passed ≡ false → s ≡ t
  pub done : decided last s.arrived s.passed ≡ true → decided last t.arrived t.passed ≡ true

-- all members of a source were sent, from a table that held `table`
unfoldable pub walked : (image : List ℕ) → List Call → List Member → List ℕ → State
unfolding arrivals last_call how_many with_members
walked image calls members table =
    record {
      arrived = length (arrivals image calls members);
      passed = how_many (test_in image (last_call calls)) (arrivals image calls members);
      table = with_members (listed (last_call calls) (arrivals image calls members)) table;
    }

-- What the functions of `pipeline` ask and give; no public contract needs this file. Assumes nothing: these are definitions.
use Rattle.std.specs.Prelude.{ℕ, ◌+◌, ◌*◌, ◌/◌, ◌≤◌, ◌≡◌, List, [], length, take, Option, Some, None, Ok}
use Rattle.syntax.specs.Kind.{NONE}
use Rattle.syntax.specs.Kinds.{number}
use Rattle.syntax.specs.declared.kind.Kind.{Kind}
use Rattle.lexer.specs.Read.{MAX_RULE}
use Rattle.trees.specs.Green.{dot_calls}
use Rattle.board.specs.WellFormed.{WellFormed, Room}
use Rattle.predicate.specs.declared.atom.Member.{Member}
use Rattle.predicate.specs.Rows.{kind_at as tree_kind, children_at}
use Rattle.meaning.specs.Value.{Outcome, collection_table, with_members}
use Rattle.meaning.specs.Compare.{operator_of}
use Rattle.meaning.specs.Walk.{arrivals, judged, settled}
use Rattle.calls.specs.declared.value.Value.{Value}
use Rattle.calls.specs.Answer.{Outcome as Answer, answer_of}
use Rattle.meaning.specs.declared.Method.{Method}
use Rattle.meaning.specs.declared.ValueKind.{ValueKind}
use Rattle.eval.specs.declared.walk.Tally.{Tally}
use Rattle.eval.specs.declared.ready.Call.{Call as PlacedCall}
use Rattle.eval.specs.declared.ready.Plan.{Plan}
use Rattle.eval.specs.Ready.{calls_in, source_members}

-- as many calls as the longest rule may have, one for two bytes, and one more
abbrev pub CALLS : ℕ
CALLS = MAX_RULE / 2 + 1

-- the node whose row is at a place has a call for two bytes of the longest rule at most
pub record FewCalls (rule tree : List ℕ) (at : ℕ) : Type 0 where
  pub few : 2 * dot_calls (children_at rule tree at) ≤ MAX_RULE

-- the board is well formed, and the collection table has room for what it holds
pub record Lent (image table : List ℕ) : Type 0 where
  pub well : WellFormed image
  pub room : Room image (length table)

-- an outcome of the definitions is given, and the collection table is as that outcome leaves it
pub record Evaluates (o : Outcome) (before after : List ℕ) (r : Answer) : Type 0 where
  pub outcome : r ≡ answer_of o
  pub table : after ≡ collection_table o before

-- how many members arrive by the calls that are planned, which stand at the front; all rows of the collection table are 0
pub record Counts (rule image tree : List ℕ) (plan : Plan) (rows : List PlacedCall) (before after : List ℕ) (r : ℕ) : Type 0 where
  pub members : r ≡ length (arrivals image (calls_in rule tree (take plan.calls rows)) (source_members image (tree_kind tree plan.source) (children_at rule tree plan.source)))
  pub table : after ≡ with_members [] before

-- the number of an operator's kind; that of no kind where there is none
abbrev pub number_or_none : Option Kind → ℕ
number_or_none None = NONE
number_or_none (Some kind) = number kind

-- the operator of a comparison's own tokens, which its rows say without the rule
pub record OperatorAt (tree : List ℕ) (at : ℕ) (r : Option Kind) : Type 0 where
  pub operator : (rule : List ℕ) → number_or_none r ≡ operator_of (children_at rule tree at)

-- what is settled, of as many members as arrived
pub record Gives (kind : ValueKind) (method : Method) (t : Tally) (r : Value) : Type 0 where
  pub given : (members : List Member) → length members ≡ t.arrived
      → Ok r ≡ answer_of (settled kind method t.arrived t.passed members)

pub record Judges (method : Method) (arrived passed : ℕ) (r : Value) : Type 0 where
  pub judged : Ok r ≡ answer_of (judged method arrived passed)

-- The calls of a pipeline made ready for members: each has its method, and the place of its CALL_ARGS in the tree table. Assumes nothing:
-- these are definitions.
use Rattle.std.specs.Prelude.{ℕ, ◌+◌, ◌≤◌, ◌<◌, List, map, cond, ◌≡◌, eqb, length, take, drop, get_or, Option, Some, None, unwrap_or, option_map, find, Result, Ok, Err}
use Rattle.syntax.specs.Kind.{IDENT, CALL_ARGS, IDENT_EXPR}
use Rattle.syntax.specs.declared.refusal.Refusal.{Refusal}
use Rattle.trees.specs.Green.{Forest}
use Rattle.board.specs.Image.{component_count, diagnostic_count}
use Rattle.predicate.specs.declared.atom.Member.{Member}
use Rattle.predicate.specs.declared.atom.Member.TheVariants.{Component, Diagnostic}
use Rattle.predicate.specs.Truth.{first_text, literal_of}
use Rattle.predicate.specs.Rows.{ROW, level_at, children_at, first_row, of_kind, of_node}
use Rattle.predicate.specs.Rows.{kind_at as tree_kind}
use Rattle.predicate.specs.Eval.{FoundAt}
use Rattle.meaning.specs.Value.{Sort, components, diagnostics, sort_kind, refused}
use Rattle.meaning.specs.declared.Method.{Method}
use Rattle.meaning.specs.declared.Method.TheVariants.{Where}
use Rattle.meaning.specs.declared.ValueKind.{ValueKind}
use Rattle.meaning.specs.Calls.{Call, kept, up_from}
use Rattle.meaning.specs.Pipeline.{is_of_analysis, method_of, calls_of, eval_pipeline}
use Rattle.meaning.specs.Walk.{plan_of, is_last, last_method}
use Rattle.eval.specs.declared.ready.Call.{Call as PlacedCall}
use Rattle.eval.specs.declared.ready.Plan.{Plan}

-- the call that one stands for
abbrev pub call_in : (rule tree : List ℕ) → PlacedCall → Call
call_in rule tree call = record { method = call.method; args = children_at rule tree call.args }

-- what stands where there is no such call
abbrev pub no_call : PlacedCall
no_call = record { method = Where; args = 0 }

-- the i-th, if there are so many
abbrev pub nth : List PlacedCall → ℕ → PlacedCall
nth calls i = get_or calls i no_call

abbrev pub CallAt : List PlacedCall → ℕ → Option PlacedCall → Type 0
CallAt calls i (Some call) = (i < length calls) × (call ≡ nth calls i)
CallAt calls i None = length calls ≤ i

-- the i-th is there, and is this one
pub record IsCall (calls : List PlacedCall) (i : ℕ) (method : Method) : Type 0 where
  pub there : i < length calls
  pub is : (nth calls i).method ≡ method

-- read back as calls
unfoldable pub calls_in : (rule tree : List ℕ) → List PlacedCall → List Call
calls_in rule tree calls = map (call_in rule tree) calls

-- from the i-th on
unfoldable pub calls_from : (rule tree : List ℕ) → List PlacedCall → ℕ → List Call
unfolding calls_in
calls_from rule tree calls i = calls_in rule tree (drop i calls)

-- the place of the CALL_ARGS in a DOT_CALL; where there is none, past all rows
unfoldable pub args_place : List ℕ → ℕ → ℕ
unfolding first_row
args_place tree row = unwrap_or (first_row (of_kind CALL_ARGS) tree (level_at tree row + 1) (row + ROW)) (length tree)

-- the call of a DOT_CALL of the tree
abbrev pub call_row : (rule tree : List ℕ) → ℕ → PlacedCall
call_row rule tree row = record { method = method_of (first_text IDENT (children_at rule tree row)); args = args_place tree row }

-- the calls at the front of the room are all of these
pub record Holds (rule tree : List ℕ) (all : List Call) (rows : List PlacedCall) (count : ℕ) : Type 0 where
  pub number : count ≡ length all
  pub room : count ≤ length rows
  pub calls : calls_in rule tree (take count rows) ≡ all

-- the method of the first call that gives no collection; where there is none, `where`
abbrev pub first_last : List PlacedCall → Method
first_last rows = unwrap_or (option_map (λ (call : PlacedCall). call.method) (find (λ (call : PlacedCall). is_last call.method) rows)) Where

-- the kind after all calls, or the refusal of the leftmost that may not stand where it stands. The calls say it without rule and tree
pub record KindAfter (rows : List PlacedCall) (source : ValueKind) (r : Result ValueKind Refusal) : Type 0 where
  pub next : (rule tree : List ℕ) → r ≡ plan_of source (calls_in rule tree rows)

-- the method of the last call, as the definitions have it
pub record LastMethod (rows : List PlacedCall) (r : Method) : Type 0 where
  pub method : (rule tree : List ℕ) → r ≡ last_method (calls_in rule tree rows)

-- the source by the kind of its node: its sort, and its members
abbrev pub source_sort : ℕ → Sort
source_sort kind = cond (eqb kind IDENT_EXPR) components diagnostics

unfoldable pub source_members : (image : List ℕ) → ℕ → Forest → List Member
unfolding kept is_of_analysis up_from literal_of
source_members image kind f =
    cond (eqb kind IDENT_EXPR) (map Component (up_from 0 (component_count image)))
    (kept (is_of_analysis image (literal_of f)) (map Diagnostic (up_from 0 (diagnostic_count image))))

-- what is known of the pipeline whose row is at a place: the row of its source, its calls in order and the kind that they come to
pub record Ready (rule tree : List ℕ) (at : ℕ) (rows : List PlacedCall) (plan : Plan) : Type 0 where
  pub found : FoundAt of_node tree (level_at tree at + 1) (at + ROW) plan.source
  pub holds : Holds rule tree (calls_of (children_at rule tree at)) rows plan.calls
  pub comes : plan_of (sort_kind (source_sort (tree_kind tree plan.source))) (calls_of (children_at rule tree at)) ≡ Ok plan.kind

-- or that it is refused on every board
pub record Refuses (rule tree : List ℕ) (at : ℕ) (r : Refusal) : Type 0 where
  pub refused : (image : List ℕ) → eval_pipeline image (children_at rule tree at) ≡ refused r

abbrev pub Plans : (rule tree : List ℕ) (at : ℕ) (rows : List PlacedCall) → Result Plan Refusal → Type 0
Plans rule tree at rows (Ok plan) = Ready rule tree at rows plan
Plans rule tree at rows (Err r) = Refuses rule tree at r

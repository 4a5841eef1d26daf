-- eval.rs `eval_dot_call`, `eval_where`, `eval_quantifier`: what a call gives, and a list of calls. Assumes nothing: these are definitions.
use Rattle.std.specs.Prelude.{ℕ, zero, suc, ◌-◌, Bool, true, false, not, ◌&&◌, ◌||◌, List, [], ◌∷◌, ◌++◌, map, length, Result, Ok, Err}
use Rattle.syntax.specs.declared.refusal.Refusal.{Refusal}
use Rattle.syntax.specs.declared.refusal.Refusal.TheVariants.{WhereOnNoCollection, QuantifierOnNoCollection, CountOnNoCollection, FeaturesOnNoComponents, DiagnosticsOnNoDiagnostics}
use Rattle.trees.specs.Green.{Forest}
use Rattle.board.specs.Image.{first_feature}
use Rattle.instance.specs.Instance.{features_end}
use Rattle.predicate.specs.declared.atom.Member.{Member}
use Rattle.predicate.specs.declared.atom.Member.TheVariants.{Component, Feature, Diagnostic}
use Rattle.predicate.specs.Truth.{truth}
use Rattle.meaning.specs.Value.{Sort, Outcome, collection, boolean, refused, sort_kind}
use Rattle.meaning.specs.declared.ValueKind.{ValueKind}
use Rattle.meaning.specs.declared.Method.{Method}
use Rattle.meaning.specs.declared.Method.TheVariants.{Where, All, Any, None, Count, Features, Diagnostics}

-- an entry of the table "What each call gives": the kind given, or the refusal
abbrev pub Entry : Type 0
Entry = Result ValueKind Refusal

-- a line of the table, by its columns: components, features, diagnostics, other
abbrev pub line : (c f d other : Entry) → ValueKind → Entry
line c f d other ValueKind.Components = c
line c f d other ValueKind.Features = f
line c f d other ValueKind.Diagnostics = d
line c f d other ValueKind.Boolean = other
line c f d other ValueKind.Count = other

-- the table's line of a quantifier
abbrev pub quantifier : ValueKind → Entry
quantifier = line (Ok ValueKind.Boolean) (Ok ValueKind.Boolean) (Ok ValueKind.Boolean) (Err QuantifierOnNoCollection)

-- "What each call gives"
unfoldable pub gives : Method → ValueKind → Entry
gives Where = line (Ok ValueKind.Components) (Ok ValueKind.Features) (Ok ValueKind.Diagnostics) (Err WhereOnNoCollection)
gives All = quantifier
gives Any = quantifier
gives None = quantifier
gives Count = line (Ok ValueKind.Count) (Ok ValueKind.Count) (Ok ValueKind.Count) (Err CountOnNoCollection)
gives Features =
    line (Ok ValueKind.Features) (Err FeaturesOnNoComponents) (Err FeaturesOnNoComponents) (Err FeaturesOnNoComponents)
gives Diagnostics =
    line (Err DiagnosticsOnNoDiagnostics) (Err DiagnosticsOnNoDiagnostics) (Ok ValueKind.Diagnostics) (Err DiagnosticsOnNoDiagnostics)

-- `filter`: the members that pass a test, in order
abbrev pub keep : Bool → Member → List Member → List Member
keep true m ms = m ∷ ms
keep false m ms = ms

unfoldable pub kept : (Member → Bool) → List Member → List Member
kept passes [] = []
kept passes (m ∷ ms) = keep (passes m) m (kept passes ms)

-- how many members pass a test
unfoldable pub how_many : (Member → Bool) → List Member → ℕ
unfolding kept
how_many passes members = length (kept passes members)

-- `iter.all(|v| v)`, `iter.any(|v| v)`
unfoldable pub every : (Member → Bool) → List Member → Bool
every passes [] = true
every passes (m ∷ ms) = passes m && every passes ms

unfoldable pub some : (Member → Bool) → List Member → Bool
some passes [] = false
some passes (m ∷ ms) = passes m || some passes ms

-- whether a collection, or another list, has nothing
abbrev pub is_empty : {A : Type 0} → List A → Bool
is_empty [] = true
is_empty (x ∷ xs) = false

-- n numbers that count up from a first one
unfoldable pub up_from : ℕ → ℕ → List ℕ
up_from first zero = []
up_from first (suc n) = first ∷ up_from (suc first) n

-- `features`: those of each component, in order, with the component that owns them
unfoldable pub features_of : List ℕ → ℕ → List Member
unfolding up_from
features_of image c = map (Feature c) (up_from (first_feature image c) (features_end image c - first_feature image c))

unfoldable pub fan_out : List ℕ → List Member → List Member
unfolding features_of
fan_out image [] = []
fan_out image (Component c ∷ ms) = features_of image c ++ fan_out image ms
fan_out image (Feature c f ∷ ms) = fan_out image ms
fan_out image (Diagnostic d ∷ ms) = fan_out image ms

-- a call: its method, and what stands in its brackets, of which the first node is its predicate
pub record Call : Type 0 where
  pub method : Method
  pub args : Forest

-- whether a call's predicate is true of a member
abbrev pub true_for : List ℕ → Forest → Member → Bool
true_for image args m = truth image m args

-- a call on the members of a collection that the table lets it follow, by the truth of its predicate: "`all` and `none` on an empty
-- collection give a warned true"
unfoldable pub on_members : List ℕ → Method → (Member → Bool) → Sort → List Member → Outcome
unfolding kept every some fan_out
on_members image Where isTrue sort members = collection sort (kept isTrue members)
on_members image All isTrue sort members = boolean (every isTrue members) (is_empty members)
on_members image Any isTrue sort members = boolean (some isTrue members) false
on_members image None isTrue sort members = boolean (not (some isTrue members)) (is_empty members)
on_members image Count isTrue sort members = Outcome.count (length members)
on_members image Features isTrue sort members = collection Sort.features (fan_out image members)
on_members image Diagnostics isTrue sort members = collection sort members

-- what a call gives by the table's entry: the value that it comes to there, or the refusal
abbrev pub by_entry : Entry → Outcome → Outcome
by_entry (Ok kind) value = value
by_entry (Err r) value = refused r

-- a call on what the call before it gave: the table is asked first, and lets no call follow a boolean or a count. "Among 10 to 14 the
-- leftmost call decides"
unfoldable pub call_gives : List ℕ → Call → Outcome → Outcome
unfolding gives on_members
call_gives image call (collection sort members) =
    by_entry (gives call.method (sort_kind sort)) (on_members image call.method (true_for image call.args) sort members)
call_gives image call (boolean value warned) = by_entry (gives call.method ValueKind.Boolean) (boolean value warned)
call_gives image call (Outcome.count n) = by_entry (gives call.method ValueKind.Count) (Outcome.count n)
call_gives image call (refused r) = refused r

-- "The first call takes what the source gives, each later one what the call before gave"
unfoldable pub calls_give : List ℕ → List Call → Outcome → Outcome
unfolding call_gives
calls_give image [] value = value
calls_give image (call ∷ calls) value = calls_give image calls (call_gives image call value)

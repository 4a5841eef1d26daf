-- One member at a time through a list of calls: the kind that the calls come to, the members that arrive where the result is settled, and
-- the outcome by them. WalkLaws shows that this is what the calls give, collection after collection. Assumes nothing: these are
-- definitions.
use Rattle.std.specs.Prelude.{ℕ, Bool, true, false, cond, ◌&&◌, List, [], ◌∷◌, eqb, ltb, Ok, Err}
use Rattle.std.proofs.Math.Option.{Option, none, some}
use Rattle.predicate.specs.declared.atom.Member.{Member}
use Rattle.meaning.specs.declared.ValueKind.{ValueKind}
use Rattle.meaning.specs.Value.{components, features, diagnostics, Outcome, collection, boolean}
use Rattle.meaning.specs.declared.Method.{Method}
use Rattle.meaning.specs.declared.Method.TheVariants.{Where, All, Any, None, Count, Features, Diagnostics}
use Rattle.meaning.specs.Calls.{Entry, gives, kept, fan_out, Call, true_for}

-- what the table makes of a kind, or of a refusal: the kinds of a whole list of calls are settled without a member
abbrev pub entry_after : Method → Entry → Entry
entry_after method (Ok kind) = gives method kind
entry_after method (Err r) = Err r

abbrev pub entries_after : List Call → Entry → Entry
entries_after [] entry = entry
entries_after (call ∷ calls) entry = entries_after calls (entry_after call.method entry)

-- the kinds alone: the kind after all calls, or the refusal of the leftmost call that may not stand where it stands
abbrev pub plan_of : ValueKind → List Call → Entry
plan_of kind calls = entries_after calls (Ok kind)

-- a call that gives a boolean: it tests members
abbrev pub is_quantifier : Method → Bool
is_quantifier Where = false
is_quantifier All = true
is_quantifier Any = true
is_quantifier None = true
is_quantifier Count = false
is_quantifier Features = false
is_quantifier Diagnostics = false

-- a call that gives no collection: no call may follow it
abbrev pub is_last : Method → Bool
is_last Where = false
is_last All = true
is_last Any = true
is_last None = true
is_last Count = true
is_last Features = false
is_last Diagnostics = false

-- members at a call, and what comes of them by the calls after it: `where` keeps, `features` fans out, `diagnostics` passes on, any other
-- stops
unfoldable pub arrive_by : (image : List ℕ) → Method → (isTrue : Member → Bool) → (later : List Member → List Member) → List Member → List Member
unfolding kept fan_out
arrive_by image Where isTrue later members = later (kept isTrue members)
arrive_by image All isTrue later members = members
arrive_by image Any isTrue later members = members
arrive_by image None isTrue later members = members
arrive_by image Count isTrue later members = members
arrive_by image Features isTrue later members = later (fan_out image members)
arrive_by image Diagnostics isTrue later members = later members

-- the members that come to the end of the calls, or to the first that gives no collection
unfoldable pub arrivals : (image : List ℕ) → List Call → List Member → List Member
unfolding arrive_by
arrivals image [] members = members
arrivals image (call ∷ calls) members = arrive_by image call.method (true_for image call.args) (arrivals image calls) members

-- the first call that gives no collection
unfoldable pub last_call : List Call → Option Call
last_call [] = none
last_call (call ∷ calls) = cond (is_last call.method) (some call) (last_call calls)

-- its method; without such a call the result is a collection, and the method says nothing
abbrev pub method_in : Option Call → Method
method_in none = Where
method_in (some call) = call.method

unfoldable pub last_method : List Call → Method
unfolding last_call
last_method calls = method_in (last_call calls)

-- whether its predicate is true of a member; `count` has none
abbrev pub test_in : (image : List ℕ) → Option Call → Member → Bool
test_in image none m = false
test_in image (some call) m = is_quantifier call.method && true_for image call.args m

unfoldable pub last_test : (image : List ℕ) → List Call → Member → Bool
unfolding last_call
last_test image calls m = test_in image (last_call calls) m

-- a quantifier by two numbers: "`all` and `none` on an empty collection give a warned true"
abbrev pub judged : Method → (arrived passed : ℕ) → Outcome
judged Where arrived passed = boolean false false
judged All arrived passed = boolean (eqb passed arrived) (eqb arrived 0)
judged Any arrived passed = boolean (ltb 0 passed) false
judged None arrived passed = boolean (eqb passed 0) (eqb arrived 0)
judged Count arrived passed = boolean false false
judged Features arrived passed = boolean false false
judged Diagnostics arrived passed = boolean false false

-- the outcome of calls that come to a kind, by their last call's method, how many members arrived, how many of them pass its test, and
-- the members themselves
unfoldable pub settled : ValueKind → Method → (arrived passed : ℕ) → List Member → Outcome
settled ValueKind.Components method arrived passed members = collection components members
settled ValueKind.Features method arrived passed members = collection features members
settled ValueKind.Diagnostics method arrived passed members = collection diagnostics members
settled ValueKind.Boolean method arrived passed members = judged method arrived passed
settled ValueKind.Count method arrived passed members = Outcome.count arrived

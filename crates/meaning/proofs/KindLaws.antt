-- "What each call gives": the kind of what calls give is the table's, whatever the members. Assumes nothing.
use Rattle.std.specs.Prelude.{Ok, Err}
use mathlib.Core.Path.{◌≡◌, refl, ap, ◌∙◌}
use mathlib.Core.Bool.{Bool}
use mathlib.Core.List.{List, [], ◌∷◌}
use Prim.Native.Nat.{ℕ}
use Rattle.predicate.specs.declared.atom.Member.{Member}
use Rattle.meaning.specs.declared.ValueKind.{ValueKind}
use Rattle.meaning.specs.Value.{Sort, components, features, diagnostics, Outcome, collection, boolean, refused, sort_kind}
use Rattle.meaning.specs.declared.Method.{Method}
use Rattle.meaning.specs.declared.Method.TheVariants.{Where, All, Any, None, Count, Features, Diagnostics}
use Rattle.meaning.specs.Calls.{Entry, line, quantifier, gives, Call, true_for, on_members, by_entry, call_gives, calls_give}
use Rattle.meaning.specs.Walk.{entry_after, entries_after}

-- `where`, the quantifiers and `count` follow every collection
line_alike : (e other : Entry) (sort : Sort) → line e e e other (sort_kind sort) ≡ e
line_alike e other components = refl
line_alike e other features = refl
line_alike e other diagnostics = refl

where_line : (sort : Sort) → gives Where (sort_kind sort) ≡ Ok (sort_kind sort)
unfolding gives
where_line components = refl
where_line features = refl
where_line diagnostics = refl

quantifier_line : (sort : Sort) → quantifier (sort_kind sort) ≡ Ok ValueKind.Boolean
quantifier_line sort = line_alike _ _ sort

count_line : (sort : Sort) → gives Count (sort_kind sort) ≡ Ok ValueKind.Count
unfolding gives
count_line sort = line_alike _ _ sort

-- so they give what they give on its members
pub where_taken : (sort : Sort) (o : Outcome) → by_entry (gives Where (sort_kind sort)) o ≡ o
where_taken sort o = rw (where_line sort)

pub quantifier_taken : (sort : Sort) (o : Outcome) → by_entry (quantifier (sort_kind sort)) o ≡ o
quantifier_taken sort o = rw (quantifier_line sort)

pub count_taken : (sort : Sort) (o : Outcome) → by_entry (gives Count (sort_kind sort)) o ≡ o
count_taken sort o = rw (count_line sort)

-- the kind of a value, or its refusal
abbrev pub entry_of : Outcome → Entry
entry_of (collection sort members) = Ok (sort_kind sort)
entry_of (boolean value warned) = Ok ValueKind.Boolean
entry_of (Outcome.count n) = Ok ValueKind.Count
entry_of (refused r) = Err r

-- the kind of what a call gives on members
members_kind : (image : List ℕ) (method : Method) (isTrue : Member → Bool) (sort : Sort) (members : List Member)
    → entry_of (by_entry (gives method (sort_kind sort)) (on_members image method isTrue sort members)) ≡ gives method (sort_kind sort)
unfolding gives on_members
members_kind image Where isTrue sort members = rw (where_line sort)
members_kind image All isTrue sort members = rw (quantifier_line sort)
members_kind image Any isTrue sort members = rw (quantifier_line sort)
members_kind image None isTrue sort members = rw (quantifier_line sort)
members_kind image Count isTrue sort members = rw (count_line sort)
members_kind image Features isTrue components members = refl
members_kind image Features isTrue features members = refl
members_kind image Features isTrue diagnostics members = refl
members_kind image Diagnostics isTrue components members = refl
members_kind image Diagnostics isTrue features members = refl
members_kind image Diagnostics isTrue diagnostics members = refl

-- on a boolean or a count: none follows it
other_kind : (method : Method) (o : Outcome) → entry_of (by_entry (gives method ValueKind.Boolean) o) ≡ gives method ValueKind.Boolean
unfolding gives
other_kind Where o = refl
other_kind All o = refl
other_kind Any o = refl
other_kind None o = refl
other_kind Count o = refl
other_kind Features o = refl
other_kind Diagnostics o = refl

other_alike : (method : Method) → gives method ValueKind.Count ≡ gives method ValueKind.Boolean
unfolding gives
other_alike Where = refl
other_alike All = refl
other_alike Any = refl
other_alike None = refl
other_alike Count = refl
other_alike Features = refl
other_alike Diagnostics = refl

-- the kind of what a call gives is the table's entry, and so it is of what calls give
pub call_kind : (image : List ℕ) (call : Call) (o : Outcome) → entry_of (call_gives image call o) ≡ entry_after call.method (entry_of o)
unfolding call_gives
call_kind image call (collection sort members) = members_kind image call.method (true_for image call.args) sort members
call_kind image call (boolean value warned) = other_kind call.method (boolean value warned)
call_kind image call (Outcome.count n) = rw (other_alike call.method) (other_kind call.method (Outcome.count n))
call_kind image call (refused r) = refl

pub calls_kind : (image : List ℕ) (calls : List Call) (o : Outcome) → entry_of (calls_give image calls o) ≡ entries_after calls (entry_of o)
unfolding calls_give
calls_kind image [] o = refl
calls_kind image (call ∷ calls) o =
    calls_kind image calls (call_gives image call o) ∙ ap (entries_after calls) (call_kind image call o)

-- What a rule comes to and the verdict on it, as the code's types. Assumes nothing: these are definitions.
use Rattle.std.specs.Prelude.{ℕ, Bool, true, false, length, Result, Ok, Err}
use Rattle.syntax.specs.declared.refusal.Refusal.{Refusal}
use Rattle.meaning.specs.Value as meaning
use Rattle.meaning.specs.Outcome as meant
use Rattle.calls.specs.declared.value.Value.{Value}
use Rattle.calls.specs.declared.value.Verdict.{Verdict}

-- what running a rule gives: a value, or a refusal
abbrev pub Outcome : Type 0
Outcome = Result Value Refusal

-- a collection becomes its sort and the number of its members
abbrev pub collection_of : meaning.Sort → ℕ → Value
collection_of meaning.components n = Value.Components n
collection_of meaning.features n = Value.Features n
collection_of meaning.diagnostics n = Value.Diagnostics n

abbrev pub boolean_of : (value warned : Bool) → Value
boolean_of value true = Value.BoolWithWarning value
boolean_of value false = Value.Bool value

-- an outcome of the definitions as the code's
abbrev pub answer_of : meaning.Outcome → Outcome
answer_of (meaning.collection sort members) = Ok (collection_of sort (length members))
answer_of (meaning.boolean value warned) = Ok (boolean_of value warned)
answer_of (meaning.Outcome.count n) = Ok (Value.Count n)
answer_of (meaning.refused r) = Err r

-- a verdict of the definitions as the code's enum
abbrev pub verdict_for : meant.Verdict → Verdict
verdict_for meant.Pass = Verdict.Pass
verdict_for meant.Fail = Verdict.Fail
verdict_for meant.Refused = Verdict.Refused
verdict_for meant.Open = Verdict.Open

-- "pass for true, warned or not, fail for false, refused for a refusal, open otherwise", of the code's outcome
abbrev pub verdict_of_truth : Bool → Verdict
verdict_of_truth true = Verdict.Pass
verdict_of_truth false = Verdict.Fail

abbrev pub verdict_of_value : Value → Verdict
verdict_of_value (Value.Bool holds) = verdict_of_truth holds
verdict_of_value (Value.BoolWithWarning holds) = verdict_of_truth holds
verdict_of_value (Value.Components n) = Verdict.Open
verdict_of_value (Value.Features n) = Verdict.Open
verdict_of_value (Value.Diagnostics n) = Verdict.Open
verdict_of_value (Value.Count n) = Verdict.Open

abbrev pub verdict_of_answer : Outcome → Verdict
verdict_of_answer (Ok value) = verdict_of_value value
verdict_of_answer (Err r) = Verdict.Refused

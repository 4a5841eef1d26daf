-- The numbers by which an answer is known outside: what a rule comes to, and the verdict on it. Assumes nothing: these are definitions.
use Rattle.std.specs.Prelude.{ℕ, Bool, true, false, Ok, Err}
use Rattle.syntax.specs.Refusal.{refusal_number}
use Rattle.calls.specs.declared.value.Value.{Value}
use Rattle.calls.specs.declared.value.Verdict.{Verdict}
use Rattle.calls.specs.Answer.{Outcome}

-- 0 refused, 1 components, 2 features, 3 diagnostics, 4 boolean, 5 count
abbrev pub value_number : Value → ℕ
value_number (Value.Components n) = 1
value_number (Value.Features n) = 2
value_number (Value.Diagnostics n) = 3
value_number (Value.Bool holds) = 4
value_number (Value.BoolWithWarning holds) = 4
value_number (Value.Count n) = 5

abbrev pub outcome_number : Outcome → ℕ
outcome_number (Ok value) = value_number value
outcome_number (Err r) = 0

-- a boolean as 0 or 1
abbrev pub bit : Bool → ℕ
bit true = 1
bit false = 0

-- the number of members, 0 or 1, the count, or the refusal's number
abbrev pub value_amount : Value → ℕ
value_amount (Value.Components n) = n
value_amount (Value.Features n) = n
value_amount (Value.Diagnostics n) = n
value_amount (Value.Bool holds) = bit holds
value_amount (Value.BoolWithWarning holds) = bit holds
value_amount (Value.Count n) = n

abbrev pub outcome_amount : Outcome → ℕ
outcome_amount (Ok value) = value_amount value
outcome_amount (Err r) = refusal_number r

-- whether it is warned, as 0 or 1
abbrev pub value_warned : Value → ℕ
value_warned (Value.Components n) = 0
value_warned (Value.Features n) = 0
value_warned (Value.Diagnostics n) = 0
value_warned (Value.Bool holds) = 0
value_warned (Value.BoolWithWarning holds) = 1
value_warned (Value.Count n) = 0

abbrev pub outcome_warned : Outcome → ℕ
outcome_warned (Ok value) = value_warned value
outcome_warned (Err r) = 0

abbrev pub verdict_number : Verdict → ℕ
verdict_number Verdict.Pass = 0
verdict_number Verdict.Fail = 1
verdict_number Verdict.Refused = 2
verdict_number Verdict.Open = 3

-- How long the first two lines are, and those of an error. Assumes nothing.
use mathlib.Core.Bool.{Bool, true, false}
use mathlib.Core.List.{List}
use Prim.Native.Nat.{ℕ, ◌+◌, ◌*◌, ◌≤◌}
use native.Mathlib.Omega.{arith}
use borrow.Author.Tests.{ltb-false}
use lib.Dec.{eqb, ltb}
use lib.ListN.{length, length-append}
use Rattle.syntax.specs.Text.{ascii}
use Rattle.syntax.specs.Refusal.{refusal_number}
use Rattle.syntax.specs.declared.refusal.Refusal.{Refusal}
use Rattle.syntax.specs.declared.refusal.Refusal.TheVariants.{RuleTooLong, RuleNotUtf8, TableTooShort, TooManyOpeners, ImageBadSections, ImageBadStrings, ImageBadRecords, CollectionTooShort, ParseErrors, WhereOnNoCollection, QuantifierOnNoCollection, CountOnNoCollection, FeaturesOnNoComponents, DiagnosticsOnNoDiagnostics, ComparisonNotCountable, IntegerTooLarge}
use Rattle.syntax.proofs.BoolLaws.{whether}
use Rattle.texts.proofs.LengthLaws.{number_length, shown_length, place_length}
use Rattle.message.specs.Message.{message_of}
use Rattle.calls.specs.Answer.{verdict_of_answer}
use Rattle.calls.specs.declared.value.Value.{Value}
use Rattle.std.specs.Prelude.{Ok, Err}
use Rattle.calls.specs.Answer.{Outcome}
use Rattle.calls.specs.declared.value.Verdict.{Verdict}
use Rattle.report.specs.Answer.{verdict_text, counted, truth_text, value_text, reason_text, outcome_text, head_text}
use Rattle.report.specs.Error.{ROOM, message_text, error_text}

verdict_length : (verdict : Verdict) → length (verdict_text verdict) ≤ 7
verdict_length Verdict.Pass = omega arith
verdict_length Verdict.Fail = omega arith
verdict_length Verdict.Refused = omega arith
verdict_length Verdict.Open = omega arith

counted_length : (n : ℕ) (thing : List ℕ) → length (counted n thing) ≤ length thing + 21
counted_length n thing =
    whether (eqb n 1) (λ t. rw t (simp length-append (omega (arith, number_length n)))) (λ t. rw t (simp length-append (omega (arith, number_length n))))

truth_length : (holds : Bool) → length (truth_text holds) ≤ 5
truth_length true = omega arith
truth_length false = omega arith

value_length : (value : Value) → length (value_text value) ≤ 110
value_length (Value.Components n) = omega (arith, counted_length n (ascii " component"))
value_length (Value.Features n) = omega (arith, counted_length n (ascii " feature"))
value_length (Value.Diagnostics n) = omega (arith, counted_length n (ascii " diagnostic"))
value_length (Value.Bool holds) = omega (arith, truth_length holds)
value_length (Value.BoolWithWarning holds) = simp length-append (omega (arith, truth_length holds))
value_length (Value.Count n) = simp length-append (omega (arith, number_length n))

reason_length : (r : Refusal) → length (reason_text r) ≤ 80
reason_length RuleTooLong = omega arith
reason_length RuleNotUtf8 = omega arith
reason_length TableTooShort = omega arith
reason_length TooManyOpeners = omega arith
reason_length ImageBadSections = omega arith
reason_length ImageBadStrings = omega arith
reason_length ImageBadRecords = omega arith
reason_length CollectionTooShort = omega arith
reason_length ParseErrors = omega arith
reason_length WhereOnNoCollection = omega arith
reason_length QuantifierOnNoCollection = omega arith
reason_length CountOnNoCollection = omega arith
reason_length FeaturesOnNoComponents = omega arith
reason_length DiagnosticsOnNoDiagnostics = omega arith
reason_length ComparisonNotCountable = omega arith
reason_length IntegerTooLarge = omega arith

outcome_length : (outcome : Outcome) → length (outcome_text outcome) ≤ 110
outcome_length (Ok value) = value_length value
outcome_length (Err r) = simp length-append (omega (arith, number_length (refusal_number r), reason_length r))

-- the first two lines
pub head_length : (outcome : Outcome) → length (head_text outcome) ≤ 120
head_length outcome = simp length-append (omega (arith, verdict_length (verdict_of_answer outcome), outcome_length outcome))

-- the lines of an error
message_short : (rule : List ℕ) (form expected first end : ℕ) → length (message_text rule form expected first end) ≤ ROOM
unfolding message_text
message_short rule form expected first end =
    whether (ltb ROOM (length (message_of rule form expected first end))) (λ t. rw t (omega arith))
    (λ t. rw t (omega (arith, shown_length (message_of rule form expected first end), ltb-false ROOM (length (message_of rule form expected first end)) t)))

pub error_length : (rule : List ℕ) (form expected first end : ℕ) → length (error_text rule form expected first end) ≤ 3 * length rule + ROOM + 8
unfolding error_text
error_length rule form expected first end = simp length-append (omega (arith, message_short rule form expected first end, place_length rule first end))

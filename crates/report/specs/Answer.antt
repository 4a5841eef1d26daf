-- The verdict and what a rule comes to, in words. Assumes nothing: these are definitions.
use Rattle.std.specs.Prelude.{ℕ, Bool, true, false, cond, List, [], ◌++◌, eqb, Ok, Err}
use Rattle.syntax.specs.Text.{ascii}
use Rattle.syntax.specs.Refusal.{refusal_number}
use Rattle.syntax.specs.declared.refusal.Refusal.{Refusal}
use Rattle.syntax.specs.declared.refusal.Refusal.TheVariants.{RuleTooLong, RuleNotUtf8, TableTooShort, TooManyOpeners, ImageBadSections, ImageBadStrings, ImageBadRecords, CollectionTooShort, ParseErrors, WhereOnNoCollection, QuantifierOnNoCollection, CountOnNoCollection, FeaturesOnNoComponents, DiagnosticsOnNoDiagnostics, ComparisonNotCountable, IntegerTooLarge}
use Rattle.texts.specs.Text.{number_text, line}
use Rattle.calls.specs.Answer.{Outcome, verdict_of_answer}
use Rattle.calls.specs.declared.value.Value.{Value}
use Rattle.calls.specs.declared.value.Verdict.{Verdict}

abbrev pub verdict_text : Verdict → List ℕ
verdict_text Verdict.Pass = ascii "pass"
verdict_text Verdict.Fail = ascii "fail"
verdict_text Verdict.Refused = ascii "refused"
verdict_text Verdict.Open = ascii "open"

-- a number of things: `0 features`, `1 feature`, `2 features`
abbrev pub counted : ℕ → List ℕ → List ℕ
counted n thing = number_text n ++ thing ++ cond (eqb n 1) [] (ascii "s")

abbrev pub truth_text : Bool → List ℕ
truth_text true = ascii "true"
truth_text false = ascii "false"

-- what a rule comes to; "`all` and `none` on an empty collection give a warned true"
abbrev pub value_text : Value → List ℕ
value_text (Value.Components n) = counted n (ascii " component")
value_text (Value.Features n) = counted n (ascii " feature")
value_text (Value.Diagnostics n) = counted n (ascii " diagnostic")
value_text (Value.Bool holds) = truth_text holds
value_text (Value.BoolWithWarning holds) = truth_text holds ++ ascii ", of an empty collection: no member was there to be looked at"
value_text (Value.Count n) = ascii "count: " ++ number_text n

-- document 01, "Turned away, in checking order", in words
abbrev pub reason_text : Refusal → List ℕ
reason_text RuleTooLong = ascii "the rule is longer than 500 bytes"
reason_text RuleNotUtf8 = ascii "the rule is not UTF-8 text"
reason_text TableTooShort = ascii "the table for tokens, tree or errors has too few rows for the rule"
reason_text TooManyOpeners = ascii "more than 64 tokens of the rule are '(' or 'not'"
reason_text ImageBadSections = ascii "the board file is not an image: its length or the list of its sections is wrong"
reason_text ImageBadStrings = ascii "a string of the board file is out of place or is not UTF-8 text"
reason_text ImageBadRecords = ascii "a record of the board file has a number outside its range"
reason_text CollectionTooShort = ascii "the table for members has too few rows for the board"
reason_text ParseErrors = ascii "the rule has parse errors"
reason_text WhereOnNoCollection = ascii "'where' follows something that is not a collection"
reason_text QuantifierOnNoCollection = ascii "'all', 'any' or 'none' follows something that is not a collection"
reason_text CountOnNoCollection = ascii "'count' follows something that is not a collection"
reason_text FeaturesOnNoComponents = ascii "'features' follows something other than components"
reason_text DiagnosticsOnNoDiagnostics = ascii "'diagnostics' follows something other than diagnostics"
reason_text ComparisonNotCountable = ascii "the left side of the comparison is neither a count nor a collection"
reason_text IntegerTooLarge = ascii "the integer is above 18446744073709551615"

-- a refusal's number, and why
abbrev pub refusal_text : Refusal → List ℕ
refusal_text refusal = ascii "refusal " ++ number_text (refusal_number refusal) ++ ascii ": " ++ reason_text refusal

abbrev pub outcome_text : Outcome → List ℕ
outcome_text (Ok value) = value_text value
outcome_text (Err refusal) = refusal_text refusal

-- the first two lines
abbrev pub head_text : Outcome → List ℕ
head_text outcome = line (verdict_text (verdict_of_answer outcome)) ++ line (outcome_text outcome)

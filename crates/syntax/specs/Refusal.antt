-- Document 01, "Turned away, in checking order": the number of each refusal. Assumes nothing: these are definitions.
use Rattle.std.specs.Prelude.{ℕ, Result}
use Rattle.syntax.specs.declared.refusal.Refusal.{Refusal}
use Rattle.syntax.specs.declared.refusal.Refusal.TheVariants.{RuleTooLong, RuleNotUtf8, TableTooShort, TooManyOpeners, ImageBadSections, ImageBadStrings, ImageBadRecords, CollectionTooShort, ParseErrors, WhereOnNoCollection, QuantifierOnNoCollection, CountOnNoCollection, FeaturesOnNoComponents, DiagnosticsOnNoDiagnostics, ComparisonNotCountable, IntegerTooLarge}

abbrev pub refusal_number : Refusal → ℕ
-- the rule is longer than 500 bytes
refusal_number RuleTooLong = 1
-- the rule isn't UTF-8
refusal_number RuleNotUtf8 = 2
-- the token table has fewer than n rows, or the tree or error table fewer than 8n + 8
refusal_number TableTooShort = 3
-- more than 64 tokens are `(` or `not`
refusal_number TooManyOpeners = 4
-- the image's length, its pairs of offset and length, or a section that isn't whole records
refusal_number ImageBadSections = 5
-- a string pair, or a string that isn't UTF-8
refusal_number ImageBadStrings = 6
-- a record's number is outside its range or table, or a feature pair
refusal_number ImageBadRecords = 7
-- the collection table has fewer rows than components and features added, or fewer than diagnostics
refusal_number CollectionTooShort = 8
-- there are parse errors
refusal_number ParseErrors = 9
-- `where` follows no collection
refusal_number WhereOnNoCollection = 10
-- `all`, `any` or `none` follows no collection
refusal_number QuantifierOnNoCollection = 11
-- `count` follows no collection
refusal_number CountOnNoCollection = 12
-- `features` follows something other than components
refusal_number FeaturesOnNoComponents = 13
-- `diagnostics` follows something other than diagnostics
refusal_number DiagnosticsOnNoDiagnostics = 14
-- the comparison's left side isn't countable
refusal_number ComparisonNotCountable = 15
-- the integer is above 18446744073709551615
refusal_number IntegerTooLarge = 16

-- what a check says: it is passed, or refuses
abbrev pub Check : Type 0
Check = Result (Unit {0}) Refusal

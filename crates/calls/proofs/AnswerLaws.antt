-- The verdict on an outcome of the definitions is theirs. Assumes nothing.
use mathlib.Core.Path.{◌≡◌, refl}
use mathlib.Core.Bool.{true, false}
use Rattle.meaning.specs.Value.{components, features, diagnostics, Outcome, collection, boolean, refused}
use Rattle.meaning.specs.Outcome.{verdict_of}
use Rattle.calls.specs.Answer.{answer_of, verdict_for, verdict_of_answer}

pub verdict_is : (o : Outcome) → verdict_of_answer (answer_of o) ≡ verdict_for (verdict_of o)
verdict_is (collection components members) = refl
verdict_is (collection features members) = refl
verdict_is (collection diagnostics members) = refl
verdict_is (boolean true true) = refl
verdict_is (boolean true false) = refl
verdict_is (boolean false true) = refl
verdict_is (boolean false false) = refl
verdict_is (Outcome.count n) = refl
verdict_is (refused r) = refl

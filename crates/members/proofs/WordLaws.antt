-- The words of a board's numbers: as items of a table, and as a rule has them. Assumes nothing.
use mathlib.Core.Path.{◌≡◌}
use mathlib.Core.List.{List, [], map}
use Prim.Native.Nat.{ℕ, ◌<◌}
use lib.Dec.{T}
use lib.ListN.{get_or, get_or-map}
use Rattle.syntax.proofs.EveryByte.{at_each}
use Rattle.board.specs.Check.{CATEGORIES, FEATURE_KINDS, DIRECTIONS, SEVERITIES}
use Rattle.matching.specs.Words.{category_matches, feature_kind_matches, direction_matches, severity_matches}
use Rattle.texts.specs.declared.Writer.{Writer}
use Rattle.texts.specs.Append.{Wrote}
use Rattle.texts.specs.Items.{item}
use Rattle.members.specs.Words.{first_word, category_text, feature_kind_text, direction_text, severity_text}

-- a number's word, from the first words of all numbers
pub word_wrote : {before after : Writer} (texts : List (List ℕ)) (n : ℕ) (words : List (List (List ℕ))) → texts ≡ map first_word words → Wrote (item n texts) before after
    → Wrote (first_word (get_or words n [])) before after
unfolding item
word_wrote texts n words same w = rw (same, get_or-map first_word words n []) at w

-- each word is one by which a rule finds what it stands for
pub category_typed : (category : ℕ) → category < CATEGORIES → T (category_matches category (category_text category))
unfolding category_matches category_text
category_typed = at_each (λ n. category_matches n (category_text n)) CATEGORIES tt

pub kind_typed : (kind : ℕ) → kind < FEATURE_KINDS → T (feature_kind_matches kind (feature_kind_text kind))
unfolding feature_kind_matches feature_kind_text
kind_typed = at_each (λ n. feature_kind_matches n (feature_kind_text n)) FEATURE_KINDS tt

pub direction_typed : (direction : ℕ) → direction < DIRECTIONS → T (direction_matches direction (direction_text direction))
unfolding direction_matches direction_text
direction_typed = at_each (λ n. direction_matches n (direction_text n)) DIRECTIONS tt

pub severity_typed : (severity : ℕ) → severity < SEVERITIES → T (severity_matches severity (severity_text severity))
unfolding severity_matches severity_text
severity_typed = at_each (λ n. severity_matches n (severity_text n)) SEVERITIES tt

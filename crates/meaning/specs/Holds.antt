-- When a predicate of the grammar is true of a member, by its parts. Law `predicate_holds` says that this is the truth of its green tree.
-- Assumes nothing: these are definitions.
use Rattle.std.specs.Prelude.{ℕ, Bool, not, ◌&&◌, ◌||◌, List}
use Rattle.predicate.specs.declared.atom.Member.{Member}
use Rattle.predicate.specs.Truth.{connected, has, compares, message_contains}
use Rattle.grammar.specs.Grammar.{Part, Predicate, last_group, or_then, last_atom, and_then, negated, bracketed, has_text, is_connected, message_has, field_is, field_word}

-- "`or` joins `and` groups, an `and` group joins atoms, and an atom in brackets holds an `or` group again"; "A `not` is true if its one
-- atom is false"
unfoldable pub holds : (image : List ℕ) (m : Member) {part : Part} → Predicate part → Bool
holds image m (last_group g) = holds image m g
holds image m (or_then g p) = holds image m g || holds image m p
holds image m (last_atom a) = holds image m a
holds image m (and_then a g) = holds image m a && holds image m g
holds image m (negated a) = not (holds image m a)
holds image m (bracketed p) = holds image m p
holds image m (has_text w) = has image m w
holds image m is_connected = connected image m
holds image m (message_has w) = message_contains image m w
holds image m (field_is f w) = compares image m (field_word f).text w

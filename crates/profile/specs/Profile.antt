-- Members that are alike: the profile of a member, which is all of it that most predicates ask for, and which nodes of a predicate ask for
-- more. Assumes nothing: these are definitions.
use Rattle.std.specs.Prelude.{ℕ, ◌+◌, ◌*◌, Bool, true, false, not, ◌&&◌, ◌||◌, cond, List, eqb, ltb, Option, None, Some}
use Rattle.syntax.specs.Kind.{CALL_EXPR, IDENT_EXPR, CONTAINS_EXPR}
use Rattle.syntax.specs.Text.{ascii, same}
use Rattle.board.specs.Image.{category, feature_kind, direction, severity}
pub use Rattle.board.specs.Check.{CATEGORIES, FEATURE_KINDS, DIRECTIONS, SEVERITIES}
use Rattle.instance.specs.Instance.{component_connected}
use Rattle.predicate.specs.declared.atom.Member.{Member}
use Rattle.predicate.specs.declared.atom.Member.TheVariants.{Component, Feature, Diagnostic}
use Rattle.profile.specs.declared.Held.{Held}

-- the first profile of a feature, after two for each category; the first of a diagnostic, after one for each of a component, each kind and
-- each direction; how many there are in all
abbrev pub FIRST_OF_FEATURES : ℕ
FIRST_OF_FEATURES = 2 * CATEGORIES

abbrev pub FIRST_OF_DIAGNOSTICS : ℕ
FIRST_OF_DIAGNOSTICS = FIRST_OF_FEATURES + FIRST_OF_FEATURES * FEATURE_KINDS * DIRECTIONS

abbrev pub PROFILES : ℕ
PROFILES = FIRST_OF_DIAGNOSTICS + SEVERITIES

-- a number where the fields have such values
abbrev pub numbered : Bool → ℕ → Option ℕ
numbered true n = Some n
numbered false n = None

-- the profile of a component: its category, and whether it is connected
unfoldable pub of_component : ℕ → Bool → Option ℕ
of_component category connected = numbered (ltb category CATEGORIES) (2 * category + cond connected 1 0)

-- of a feature: the profile of its owner, its kind and its direction
unfoldable pub of_feature : Option ℕ → ℕ → ℕ → Option ℕ
of_feature (Some k) kind direction =
    numbered (ltb k FIRST_OF_FEATURES && (ltb kind FEATURE_KINDS && ltb direction DIRECTIONS))
    (FIRST_OF_FEATURES + ((k * FEATURE_KINDS + kind) * DIRECTIONS + direction))
of_feature None kind direction = None

-- of a diagnostic: its severity
unfoldable pub of_diagnostic : ℕ → Option ℕ
of_diagnostic severity = numbered (ltb severity SEVERITIES) (FIRST_OF_DIAGNOSTICS + severity)

-- a field where it is held, else 0
unfoldable pub held_part : Bool → ℕ → ℕ
held_part held field = cond held field 0

-- of a component of a board, of a feature by its owner's, and of any member, with what is held
unfoldable pub wired_in : List ℕ → Held → ℕ → Bool
wired_in image held c = held.wiring && component_connected image c

unfoldable pub component_profile : List ℕ → Held → ℕ → Option ℕ
unfolding of_component wired_in held_part
component_profile image held c = of_component (held_part held.category (category image c)) (wired_in image held c)

unfoldable pub owned_profile : List ℕ → Held → Option ℕ → ℕ → Option ℕ
unfolding of_feature held_part
owned_profile image held owner f = of_feature owner (held_part held.kind (feature_kind image f)) (held_part held.direction (direction image f))

unfoldable pub profile_of : List ℕ → Held → Member → Option ℕ
unfolding component_profile owned_profile of_diagnostic
profile_of image held (Component c) = component_profile image held c
profile_of image held (Feature c f) = owned_profile image held (component_profile image held c) f
profile_of image held (Diagnostic d) = of_diagnostic (severity image d)

-- whether `connected` is held of components, or of features
unfoldable pub wiring_held : Held → Bool → Bool
wiring_held held features = held.wiring && cond features held.wiring_of_features true

-- whether a node of a kind that compares no field asks for more than the profile of a member: a CALL_EXPR is `has`, an IDENT_EXPR
-- `connected`, which the profile tells where that is held, and a CONTAINS_EXPR looks at a diagnostic's message
unfoldable pub asks_wiring : Held → Bool → ℕ → Bool
unfolding wiring_held
asks_wiring held features kind = eqb kind CALL_EXPR || (eqb kind IDENT_EXPR && not (wiring_held held features))

unfoldable pub asks_more : Member → Held → ℕ → Bool
unfolding asks_wiring
asks_more (Component c) held kind = asks_wiring held false kind
asks_more (Feature c f) held kind = asks_wiring held true kind
asks_more (Diagnostic d) held kind = eqb kind CONTAINS_EXPR

-- whether a node that compares a field asks for more: for one that the member has and that is not held
unfoldable pub asks_part : Bool → (field name : List ℕ) → Bool
asks_part held field name = not held && same field name

unfoldable pub asks_of_feature : Held → List ℕ → Bool
unfolding asks_part
asks_of_feature held field =
    asks_part held.kind field (ascii "kind") || (asks_part held.direction field (ascii "direction") || asks_part held.category field (ascii "category"))

unfoldable pub asks_field : Member → Held → List ℕ → Bool
unfolding asks_part asks_of_feature
asks_field (Component c) held field = asks_part held.category field (ascii "category")
asks_field (Feature c f) held field = asks_of_feature held field
asks_field (Diagnostic d) held field = false

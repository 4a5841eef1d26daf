-- eval.rs, "Predicate evaluation": when a predicate is true of a member, by its green tree, the member and the image alone. Of the
-- tokens only words, strings and operators are looked at, so blanks never matter. Assumes nothing: these are definitions.
use Rattle.std.specs.Prelude.{ℕ, ◌-◌, Bool, true, false, not, ◌&&◌, ◌||◌, cond, List, [], ◌∷◌, eqb, length, take, drop}
use Rattle.syntax.specs.Kind.{IDENT, STRING_LIT, AND_KW, OR_KW, BINARY_EXPR, UNARY_EXPR, COMPARE_EXPR, CALL_EXPR, PAREN_EXPR, LITERAL, IDENT_EXPR, CONTAINS_EXPR}
use Rattle.syntax.specs.Text.{ascii, same}
use Rattle.trees.specs.Green.{Forest, nil, leaf, node}
use Rattle.board.specs.Image.{text, category, feature_kind, direction, severity, message}
use Rattle.matching.specs.Words.{category_matches, feature_kind_matches, direction_matches, severity_matches}
use Rattle.matching.specs.Search.{contains, property_set_of, property_name_of}
use Rattle.instance.specs.Instance.{component_connected, feature_connected, has_property, has_feature}
use Rattle.predicate.specs.declared.atom.Member.{Member}
use Rattle.predicate.specs.declared.atom.Member.TheVariants.{Component, Feature, Diagnostic}

-- "A string's content is the bytes between its quotes"
unfoldable pub content : List ℕ → List ℕ
content string = take (length string - 2) (drop 1 string)

-- the text of a node's first own token of a kind; empty where it has none
unfoldable pub first_text : ℕ → Forest → List ℕ
first_text kind nil = []
first_text kind (leaf t f) = elim (eqb t.kind kind) [ true ↦ t.text | false ↦ first_text kind f ]
first_text kind (node k s f) = first_text kind f

-- `find_string_literal`, `find_contains_text`, and the value of `parse_compare`: the content of the string in a node's LITERAL
unfoldable pub literal_of : Forest → List ℕ
unfolding content first_text
literal_of nil = []
literal_of (leaf t f) = literal_of f
literal_of (node k s f) = elim (eqb k LITERAL) [ true ↦ content (first_text STRING_LIT s) | false ↦ literal_of f ]

-- the field of `parse_compare`
abbrev pub field_of : Forest → List ℕ
field_of f = first_text IDENT f

-- `connected`: of a component, of a feature; "false of diagnostics"
unfoldable pub connected : List ℕ → Member → Bool
connected image (Component c) = component_connected image c
connected image (Feature c f) = feature_connected image c f
connected image (Diagnostic d) = false

-- a component has the property that a text names, its set and name parted by `::`
unfoldable pub has_property_of : List ℕ → ℕ → List ℕ → Bool
has_property_of image component value = has_property image component (property_set_of value) (property_name_of value)

-- `has('..')`: "Of a component it holds also if a feature has the whole text as its name; of a feature it asks the owning component's
-- properties only"; "false of diagnostics"
unfoldable pub has : List ℕ → Member → List ℕ → Bool
unfolding has_property_of
has image (Component c) value = has_property_of image c value || has_feature image c value
has image (Feature c f) value = has_property_of image c value
has image (Diagnostic d) value = false

-- `field == '..'`: "a field of another sort of member is false"; "`category` of a feature is its owner's"; "`message == '..'` is always
-- false"
unfoldable pub compares : List ℕ → Member → List ℕ → List ℕ → Bool
compares image (Component c) field value = same field (ascii "category") && category_matches (category image c) value
compares image (Feature c f) field value =
    cond (same field (ascii "kind")) (feature_kind_matches (feature_kind image f) value)
    (cond (same field (ascii "direction")) (direction_matches (direction image f) value)
    (same field (ascii "category") && category_matches (category image c) value))
compares image (Diagnostic d) field value = same field (ascii "severity") && severity_matches (severity image d) value

-- `message.contains('..')`
unfoldable pub message_contains : List ℕ → Member → List ℕ → Bool
message_contains image (Component c) value = false
message_contains image (Feature c f) value = false
message_contains image (Diagnostic d) value = contains value (text image (message image d))

-- whether the operator is `or` after an own token of a BINARY_EXPR, by its kind
abbrev pub or_after : ℕ → Bool → Bool
or_after kind or = cond (eqb kind OR_KW) true (cond (eqb kind AND_KW) false or)

-- an operand joined to what stands before it
abbrev pub joined_by : Bool → Bool → Bool → Bool
joined_by or before operand = cond or (before || operand) (before && operand)

-- the operands of a BINARY_EXPR, of these truths, each joined to those before it by the operator that it follows. (The parser puts
-- operators of one sort only into a node; a lone operand is its own truth.)
unfoldable pub joined : Bool → Bool → Forest → List Bool → Bool
joined or before nil truths = before
joined or before (leaf t f) truths = joined (or_after t.kind or) before f truths
joined or before (node k s f) [] = before
joined or before (node k s f) (operand ∷ truths) = joined or (joined_by or before operand) f truths

-- the first of some truths; false where there is none
abbrev pub first_of : List Bool → Bool
first_of [] = false
first_of (t ∷ ts) = t

-- the sorts of node that a predicate has
pub data NodeSort : Type 0 where
  binary unary paren ident call containing compare other : NodeSort

unfoldable pub sort_of : ℕ → NodeSort
sort_of kind =
    cond (eqb kind BINARY_EXPR) binary
    (cond (eqb kind UNARY_EXPR) unary
    (cond (eqb kind PAREN_EXPR) paren
    (cond (eqb kind IDENT_EXPR) ident
    (cond (eqb kind CALL_EXPR) call
    (cond (eqb kind CONTAINS_EXPR) containing
    (cond (eqb kind COMPARE_EXPR) compare other))))))

-- the truth of a node of a sort that has these children, of these truths. An IDENT_EXPR of a predicate is `connected`, a CALL_EXPR `has`
unfoldable pub settle : List ℕ → Member → NodeSort → Forest → List Bool → Bool
unfolding joined literal_of first_text connected has message_contains compares
settle image m binary f truths = joined false true f truths
settle image m unary f truths = not (first_of truths)
settle image m paren f truths = first_of truths
settle image m ident f truths = connected image m
settle image m call f truths = has image m (literal_of f)
settle image m containing f truths = message_contains image m (literal_of f)
settle image m compare f truths = compares image m (field_of f) (literal_of f)
settle image m other f truths = false

-- the truths of a forest's nodes, in order
unfoldable pub truths : List ℕ → Member → Forest → List Bool
unfolding sort_of settle
truths image m nil = []
truths image m (leaf t f) = truths image m f
truths image m (node k s f) = settle image m (sort_of k) s (truths image m s) ∷ truths image m f

-- the truth of a predicate, which is the first node of what was read
unfoldable pub truth : List ℕ → Member → Forest → Bool
unfolding truths
truth image m f = first_of (truths image m f)

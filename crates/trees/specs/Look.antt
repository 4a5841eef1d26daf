-- parser.rs, "Token helpers": looks at the tokens left, which take none. Assumes nothing: these are definitions.
use Rattle.std.specs.Prelude.{ℕ, ◌+◌, ◌-◌, Bool, true, false, ◌&&◌, ◌||◌, List, [], ◌∷◌, eqb, Option, Some, None}
use Rattle.syntax.specs.Kind.{WHITESPACE, IDENT, DOT, L_PAREN, R_PAREN, EQ_EQ, NEQ, GE, GT, LE, LT, INT_LIT, NONE}
use Rattle.syntax.specs.Text.{ascii, same}
use Rattle.lexer.specs.Lex.{Token}

abbrev pub is_blank : Token → Bool
is_blank t = eqb t.kind WHITESPACE

-- the tokens left from the first that is no blank
unfoldable pub skip_ws : List Token → List Token
skip_ws [] = []
skip_ws (t ∷ ts) = elim (is_blank t) [ true ↦ skip_ws ts | false ↦ t ∷ ts ]

-- the kind and the text of the next token; at the end NONE and nothing
abbrev pub head_kind : List Token → ℕ
head_kind [] = NONE
head_kind (t ∷ ts) = t.kind

-- the kind of the next token, if there is one
abbrev pub first_kind : List Token → Option ℕ
first_kind [] = None
first_kind (t ∷ ts) = Some (t.kind)

abbrev pub head_text : List Token → List ℕ
head_text [] = []
head_text (t ∷ ts) = t.text

abbrev pub tail_of : List Token → List Token
tail_of [] = []
tail_of (t ∷ ts) = ts

-- `current_kind`, `current_text`: of the first token that is no blank
abbrev pub current_kind : List Token → ℕ
current_kind ts = head_kind (skip_ws ts)

abbrev pub current_text : List Token → List ℕ
current_text ts = head_text (skip_ws ts)

unfoldable pub at_kind : ℕ → List Token → Bool
unfolding skip_ws
at_kind k ts = eqb (current_kind ts) k

unfoldable pub at_text : List ℕ → List Token → Bool
unfolding skip_ws
at_text w ts = same (current_text ts) w

unfoldable pub at_ident : List ℕ → List Token → Bool
unfolding skip_ws
at_ident w ts = eqb (current_kind ts) IDENT && same (current_text ts) w

-- `peek_kind(1)`: the kind of the second token that is no blank
unfoldable pub peek_kind : List Token → ℕ
unfolding skip_ws
peek_kind ts = current_kind (tail_of (skip_ws ts))

-- `at_ident("message") && peek_kind(1) == DOT`
unfoldable pub at_message_dot : List Token → Bool
unfolding at_ident peek_kind
at_message_dot ts = at_ident (ascii "message") ts && eqb (peek_kind ts) DOT

-- the fields of `field == 'value'`
unfoldable pub at_field : List Token → Bool
unfolding at_ident
at_field ts =
    at_ident (ascii "category") ts
    || (at_ident (ascii "kind") ts || (at_ident (ascii "direction") ts || (at_ident (ascii "severity") ts || at_ident (ascii "message") ts)))

-- the methods that take a predicate, and those that take nothing
unfoldable pub at_predicate_method : List Token → Bool
unfolding at_text
at_predicate_method ts = at_text (ascii "where") ts || (at_text (ascii "all") ts || (at_text (ascii "any") ts || at_text (ascii "none") ts))

unfoldable pub at_plain_method : List Token → Bool
unfolding at_text
at_plain_method ts = at_text (ascii "features") ts || at_text (ascii "diagnostics") ts

-- `>= > <= < == !=`
unfoldable pub is_comparison : ℕ → Bool
is_comparison k = eqb k GE || (eqb k GT || (eqb k LE || (eqb k LT || (eqb k EQ_EQ || eqb k NEQ))))

-- whether the last two tokens that are no blanks are a comparison operator and an integer; `second` and `last` are the last two so far
unfoldable pub ends_in_comparison : ℕ → ℕ → List Token → Bool
unfolding is_comparison
ends_in_comparison second last [] = is_comparison second && eqb last INT_LIT
ends_in_comparison second last (t ∷ ts) = elim (is_blank t) [ true ↦ ends_in_comparison second last ts | false ↦ ends_in_comparison last t.kind ts ]

unfoldable pub has_count_compare_ahead : List Token → Bool
unfolding ends_in_comparison
has_count_compare_ahead ts = ends_in_comparison NONE NONE ts

-- `has_binary_op_at_level` from here on, at this depth of brackets; `found`: something that is no blank was passed
unfoldable pub op_ahead : ℕ → ℕ → Bool → List Token → Bool
op_ahead op depth found [] = false
op_ahead op depth found (t ∷ ts) =
    elim (is_blank t) [
      | true ↦ op_ahead op depth found ts
      | false ↦ elim (eqb t.kind L_PAREN) [
        | true ↦ op_ahead op (depth + 1) true ts
        | false ↦ elim (eqb t.kind R_PAREN) [
          | true ↦ elim (eqb depth 0) [ true ↦ false | false ↦ op_ahead op (depth - 1) found ts ]
          | false ↦ elim (eqb t.kind op && (eqb depth 0 && found)) [
            | true ↦ true
            | false ↦ op_ahead op depth true ts
          ]
        ]
      ]
    ]

unfoldable pub has_binary_op_at_level : ℕ → List Token → Bool
unfolding op_ahead
has_binary_op_at_level op ts = op_ahead op 0 false ts

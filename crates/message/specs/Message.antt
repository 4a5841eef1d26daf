-- parser.rs: the messages of its parse errors. A row of the error table has what they are made of: the form, the kind that was due,
-- and where the token found begins and ends, which at the end of text is one place. Assumes nothing: these are definitions.
use Rattle.std.specs.Prelude.{ℕ, true, false, cond, List, [], ◌∷◌, ◌++◌, eqb}
use Prim.Native.String.{String}
use Rattle.syntax.specs.Kind.{WHITESPACE, IDENT, STRING_LIT, DOT, L_PAREN, R_PAREN, EQ_EQ, NEQ, GE, GT, LE, LT, INT_LIT, COMMA, AND_KW, OR_KW, NOT_KW, ERROR, ROOT, PIPELINE_EXPR, DOT_CALL, CALL_ARGS, BINARY_EXPR, UNARY_EXPR, COMPARE_EXPR, CALL_EXPR, PAREN_EXPR, LITERAL, IDENT_EXPR, CONTAINS_EXPR, COUNT_COMPARE_EXPR}
use Rattle.syntax.specs.Text.{ascii, bytes_between}
use Rattle.syntax.specs.Form.{EXPECT, EXPECT_IDENT, LEFT_OVER, SOURCE, METHOD, ATOM}

-- a kind and its name
pub record Name : Type 0 where
  pub kind : ℕ
  pub text : List ℕ

abbrev pub name : ℕ → String → Name
name k s = record { kind = k; text = ascii s }

-- syntax.rs: the names of the kinds, as `{:?}` prints them
unfoldable pub names : List Name
names =
    name WHITESPACE "WHITESPACE"
    ∷ name IDENT "IDENT"
    ∷ name STRING_LIT "STRING_LIT"
    ∷ name DOT "DOT"
    ∷ name L_PAREN "L_PAREN"
    ∷ name R_PAREN "R_PAREN"
    ∷ name EQ_EQ "EQ_EQ"
    ∷ name NEQ "NEQ"
    ∷ name GE "GE"
    ∷ name GT "GT"
    ∷ name LE "LE"
    ∷ name LT "LT"
    ∷ name INT_LIT "INT_LIT"
    ∷ name COMMA "COMMA"
    ∷ name AND_KW "AND_KW"
    ∷ name OR_KW "OR_KW"
    ∷ name NOT_KW "NOT_KW"
    ∷ name ERROR "ERROR"
    ∷ name ROOT "ROOT"
    ∷ name PIPELINE_EXPR "PIPELINE_EXPR"
    ∷ name DOT_CALL "DOT_CALL"
    ∷ name CALL_ARGS "CALL_ARGS"
    ∷ name BINARY_EXPR "BINARY_EXPR"
    ∷ name UNARY_EXPR "UNARY_EXPR"
    ∷ name COMPARE_EXPR "COMPARE_EXPR"
    ∷ name CALL_EXPR "CALL_EXPR"
    ∷ name PAREN_EXPR "PAREN_EXPR"
    ∷ name LITERAL "LITERAL"
    ∷ name IDENT_EXPR "IDENT_EXPR"
    ∷ name CONTAINS_EXPR "CONTAINS_EXPR"
    ∷ name COUNT_COMPARE_EXPR "COUNT_COMPARE_EXPR"
    ∷ []

-- the name of a kind in a list of names, or none
unfoldable pub name_in : List Name → ℕ → List ℕ
name_in [] k = []
name_in (n ∷ ns) k = elim (eqb k n.kind) [ true ↦ n.text | false ↦ name_in ns k ]

-- a kind's name; a number that is no kind has none
unfoldable pub kind_name : ℕ → List ℕ
unfolding name_in names
kind_name k = name_in names k

-- `'{}'`
abbrev pub quoted : List ℕ → List ℕ
quoted text = ascii "'" ++ text ++ ascii "'"

-- `if text.is_empty() { "EOF" } else { &text }`
abbrev pub text_or_eof : List ℕ → List ℕ
text_or_eof [] = ascii "EOF"
text_or_eof (b ∷ s) = b ∷ s

-- `found` of `expect` and `expect_ident`: the token in quotes, or EOF without quotes
abbrev pub found : List ℕ → List ℕ
found [] = ascii "EOF"
found (b ∷ s) = quoted (b ∷ s)

-- the message of each form, by the kind that was due and the text found; a number that is no form has the empty one
unfoldable pub message_with : (form expected : ℕ) (text : List ℕ) → List ℕ
message_with form expected text =
    cond (eqb form EXPECT) (ascii "expected '" ++ kind_name expected ++ ascii "', found " ++ found text)
    (cond (eqb form EXPECT_IDENT) (ascii "expected 'contains', found " ++ found text)
    (cond (eqb form LEFT_OVER) (ascii "unexpected " ++ quoted text)
    (cond (eqb form SOURCE) (ascii "expected 'components' or 'analysis', found " ++ quoted (text_or_eof text))
    (cond (eqb form METHOD) (ascii "expected method name (where, all, any, none, count, features, diagnostics), found " ++ quoted text)
    (cond (eqb form ATOM) (ascii "expected 'not', 'has', 'connected', 'category', 'kind', 'direction', 'severity', 'message', or '(', found " ++ quoted (text_or_eof text))
    [])))))

-- the message of a rule and an error row. The text found is the rule's bytes from `first` to `end`, and none at the end of text
unfoldable pub message_of : (rule : List ℕ) (form expected first end : ℕ) → List ℕ
message_of rule form expected first end = message_with form expected (bytes_between rule first end)

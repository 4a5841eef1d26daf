-- Document 01, "The language": its grammar, by itself and not by the parser. Blanks may stand before and after any token, so the grammar
-- speaks of the tokens that are no blanks. Assumes nothing: these are definitions.
use Rattle.std.specs.Prelude.{ℕ, ◌≡◌, true, false, List, [], ◌∷◌, ◌++◌}
use Prim.Native.String.{String}
use Rattle.syntax.specs.Kind.{IDENT, STRING_LIT, DOT, L_PAREN, R_PAREN, EQ_EQ, AND_KW, OR_KW, NOT_KW}
use Rattle.syntax.specs.Text.{ascii}
use Rattle.lexer.specs.Lex.{Token, lex}
use Rattle.trees.specs.Look.{is_blank}

-- the tokens that are no blanks
unfoldable pub solid : List Token → List Token
solid [] = []
solid (t ∷ ts) = elim (is_blank t) [ true ↦ solid ts | false ↦ t ∷ solid ts ]

-- the tokens of the language: a word, a string by its content, with both quotes, and the symbols
abbrev pub word : String → Token
word w = record { kind = IDENT; text = ascii w }

abbrev pub quoted : List ℕ → Token
quoted content = record { kind = STRING_LIT; text = ascii "'" ++ (content ++ ascii "'") }

abbrev pub dot : Token
dot = record { kind = DOT; text = ascii "." }

abbrev pub opening : Token
opening = record { kind = L_PAREN; text = ascii "(" }

abbrev pub closing : Token
closing = record { kind = R_PAREN; text = ascii ")" }

abbrev pub equals : Token
equals = record { kind = EQ_EQ; text = ascii "==" }

abbrev pub and_word : Token
and_word = record { kind = AND_KW; text = ascii "and" }

abbrev pub or_word : Token
or_word = record { kind = OR_KW; text = ascii "or" }

abbrev pub not_word : Token
not_word = record { kind = NOT_KW; text = ascii "not" }

-- "`category`, `kind`, `direction`, `severity` or `message` with `== '..'`"
pub data Field : Type 0 where
  category kind direction severity message : Field

abbrev pub field_word : Field → Token
field_word category = word "category"
field_word kind = word "kind"
field_word direction = word "direction"
field_word severity = word "severity"
field_word message = word "message"

-- "In a predicate, `or` joins `and` groups, an `and` group joins atoms, and an atom in brackets holds an `or` group again; `not` takes
-- one atom. Other atoms: `has('..')`, `connected`, `message.contains('..')`, and [a field] with `== '..'`"
pub data Part : Type 0 where
  OrGroup AndGroup Atom : Part

pub data Predicate : Part → Type 0 where
  last_group : Predicate AndGroup → Predicate OrGroup
  or_then : Predicate AndGroup → Predicate OrGroup → Predicate OrGroup
  last_atom : Predicate Atom → Predicate AndGroup
  and_then : Predicate Atom → Predicate AndGroup → Predicate AndGroup
  negated : Predicate Atom → Predicate Atom
  bracketed : Predicate OrGroup → Predicate Atom
  has_text : List ℕ → Predicate Atom
  is_connected : Predicate Atom
  message_has : List ℕ → Predicate Atom
  field_is : Field → List ℕ → Predicate Atom

-- the tokens of a predicate
unfoldable pub tokens_of : {part : Part} → Predicate part → List Token
tokens_of (last_group g) = tokens_of g
tokens_of (or_then g p) = tokens_of g ++ (or_word ∷ tokens_of p)
tokens_of (last_atom a) = tokens_of a
tokens_of (and_then a g) = tokens_of a ++ (and_word ∷ tokens_of g)
tokens_of (negated a) = not_word ∷ tokens_of a
tokens_of (bracketed p) = opening ∷ (tokens_of p ++ (closing ∷ []))
tokens_of (has_text w) = word "has" ∷ opening ∷ quoted w ∷ closing ∷ []
tokens_of is_connected = word "connected" ∷ []
tokens_of (message_has w) = word "message" ∷ dot ∷ word "contains" ∷ opening ∷ quoted w ∷ closing ∷ []
tokens_of (field_is f w) = field_word f ∷ equals ∷ quoted w ∷ []

-- "A predicate is read whole if these tokens and blanks use it from its first byte to its last with every quote closed"
pub record ReadWhole (p : List ℕ) : Type 0 where
  pub predicate : Predicate OrGroup
  pub whole : solid (lex p) ≡ tokens_of predicate

-- "A pipeline is `components` or `analysis('name')`, then calls"
pub data Source : Type 0 where
  components : Source
  analysis : List ℕ → Source

pub data Call : Type 0 where
  where_call all_call any_call none_call : Predicate OrGroup → Call
  count_call features_call diagnostics_call : Call

abbrev pub source_tokens : Source → List Token
source_tokens components = word "components" ∷ []
source_tokens (analysis name) = word "analysis" ∷ opening ∷ quoted name ∷ closing ∷ []

-- a method with a predicate in brackets
abbrev pub with_predicate : String → Predicate OrGroup → List Token
with_predicate method p = dot ∷ word method ∷ opening ∷ (tokens_of p ++ (closing ∷ []))

abbrev pub call_tokens : Call → List Token
call_tokens (where_call p) = with_predicate "where" p
call_tokens (all_call p) = with_predicate "all" p
call_tokens (any_call p) = with_predicate "any" p
call_tokens (none_call p) = with_predicate "none" p
call_tokens count_call = dot ∷ word "count" ∷ opening ∷ closing ∷ []
call_tokens features_call = dot ∷ word "features" ∷ []
call_tokens diagnostics_call = dot ∷ word "diagnostics" ∷ []

unfoldable pub calls_tokens : List Call → List Token
calls_tokens [] = []
calls_tokens (c ∷ cs) = call_tokens c ++ calls_tokens cs

-- a text that is a source with a list of calls
pub record ReadPipeline (c : List ℕ) : Type 0 where
  pub source : Source
  pub calls : List Call
  pub whole : solid (lex c) ≡ source_tokens source ++ calls_tokens calls

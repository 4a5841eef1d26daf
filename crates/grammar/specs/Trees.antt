-- The trees that the parser makes of the grammar's tokens, and so without blanks: what ReadLaws speaks of. No contract cites it. Assumes
-- nothing: these are definitions.
use Rattle.std.specs.Prelude.{ℕ, Bool, true, false, ◌||◌, List, [], ◌∷◌, eqb}
use Prim.Native.String.{String}
use Rattle.syntax.specs.Kind.{AND_KW, OR_KW, PIPELINE_EXPR, DOT_CALL, CALL_ARGS, BINARY_EXPR, UNARY_EXPR, COMPARE_EXPR, CALL_EXPR, PAREN_EXPR, LITERAL, IDENT_EXPR, CONTAINS_EXPR}
use Rattle.lexer.specs.Lex.{Token}
use Rattle.trees.specs.Green.{Forest, nil, leaf, node, ◌⊹◌}
use Rattle.trees.specs.Parse.{Parsed}
use Rattle.grammar.specs.Grammar.{word, quoted, dot, opening, closing, equals, and_word, or_word, not_word, field_word, Part, OrGroup, Predicate, last_group, or_then, last_atom, and_then, negated, bracketed, has_text, is_connected, message_has, field_is, Source, components, analysis, Call, where_call, all_call, any_call, none_call, count_call, features_call, diagnostics_call}

-- whether an operator, `and` or `or`, stands in a predicate outside its brackets
unfoldable pub among : ℕ → {part : Part} → Predicate part → Bool
among op (last_group g) = among op g
among op (or_then g p) = among op g || (eqb OR_KW op || among op p)
among op (last_atom a) = false
among op (and_then a g) = eqb AND_KW op || among op g
among op (negated a) = false
among op (bracketed p) = false
among op (has_text w) = false
among op is_connected = false
among op (message_has w) = false
among op (field_is f w) = false

-- a node of operands and operators where an operator was seen ahead, else the one operand
unfoldable pub binary : Bool → Forest → Forest
binary b f = elim b [ true ↦ node BINARY_EXPR f nil | false ↦ f ]

-- a string in its node, and what follows it
abbrev pub string_tree : List ℕ → Forest → Forest
string_tree w f = node LITERAL (leaf (quoted w) nil) f

-- the operands and operators of a predicate. The scan for `and` runs past an `or`, so that an and group is a BINARY_EXPR also where an
-- `and` stands in a later group alone
unfoldable pub operands : {part : Part} → Predicate part → Forest
unfolding among binary ◌⊹◌
operands (last_group g) = binary (among AND_KW g) (operands g)
operands (or_then g p) = binary (among AND_KW g || among AND_KW p) (operands g) ⊹ leaf or_word (operands p)
operands (last_atom a) = operands a
operands (and_then a g) = operands a ⊹ leaf and_word (operands g)
operands (negated a) = node UNARY_EXPR (leaf not_word (operands a)) nil
operands (bracketed p) = node PAREN_EXPR (leaf opening (binary (among OR_KW p) (operands p) ⊹ leaf closing nil)) nil
operands (has_text w) = node CALL_EXPR (leaf (word "has") (leaf opening (string_tree w (leaf closing nil)))) nil
operands is_connected = node IDENT_EXPR (leaf (word "connected") nil) nil
operands (message_has w) = node CONTAINS_EXPR (leaf (word "message") (leaf dot (leaf (word "contains") (leaf opening (string_tree w (leaf closing nil)))))) nil
operands (field_is f w) = node COMPARE_EXPR (leaf (field_word f) (leaf equals (string_tree w nil))) nil

-- the tree of a predicate
unfoldable pub predicate_tree : Predicate OrGroup → Forest
unfolding among binary operands
predicate_tree p = binary (among OR_KW p) (operands p)

-- the tree of a call
abbrev pub method_tree : String → Forest → Forest
method_tree method arguments = node DOT_CALL (leaf dot (leaf (word method) arguments)) nil

unfoldable pub with_predicate_tree : String → Predicate OrGroup → Forest
unfolding predicate_tree ◌⊹◌
with_predicate_tree method p = method_tree method (node CALL_ARGS (leaf opening (predicate_tree p ⊹ leaf closing nil)) nil)

unfoldable pub call_tree : Call → Forest
unfolding with_predicate_tree
call_tree (where_call p) = with_predicate_tree "where" p
call_tree (all_call p) = with_predicate_tree "all" p
call_tree (any_call p) = with_predicate_tree "any" p
call_tree (none_call p) = with_predicate_tree "none" p
call_tree count_call = method_tree "count" (node CALL_ARGS (leaf opening (leaf closing nil)) nil)
call_tree features_call = method_tree "features" nil
call_tree diagnostics_call = method_tree "diagnostics" nil

unfoldable pub calls_tree : List Call → Forest
unfolding call_tree ◌⊹◌
calls_tree [] = nil
calls_tree (c ∷ cs) = call_tree c ⊹ calls_tree cs

-- the tree of a source
unfoldable pub source_tree : Source → Forest
source_tree components = node IDENT_EXPR (leaf (word "components") nil) nil
source_tree (analysis name) = node CALL_EXPR (leaf (word "analysis") (leaf opening (string_tree name (leaf closing nil)))) nil

-- a forest was made, with no error, and these tokens are left
abbrev pub read : Forest → List Token → Parsed
read f ts = record { made = f; errors = []; rest = ts }

-- a forest was made first, with no error
unfoldable pub first : Forest → Parsed → Parsed
unfolding ◌⊹◌
first f x = record { made = f ⊹ x.made; errors = x.errors; rest = x.rest }

-- a pipeline of which the source and these calls are read, and x is done with what follows them
unfoldable pub pipeline_then : Source → List Call → Parsed → Parsed
unfolding source_tree calls_tree ◌⊹◌
pipeline_then s cs x = record { made = node PIPELINE_EXPR (source_tree s ⊹ (calls_tree cs ⊹ x.made)) nil; errors = x.errors; rest = x.rest }

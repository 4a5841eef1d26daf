-- parser.rs: what reading a rule's tokens gives, function by function in its order. Assumes nothing: these are definitions.
use Rattle.std.specs.Prelude.{ℕ, zero, suc, ◌+◌, ◌*◌, Bool, true, false, ◌&&◌, List, [], ◌∷◌, ◌++◌, eqb, length}
use Rattle.syntax.specs.Kind.{STRING_LIT, DOT, L_PAREN, R_PAREN, EQ_EQ, AND_KW, OR_KW, NOT_KW, ROOT, PIPELINE_EXPR, DOT_CALL, CALL_ARGS, BINARY_EXPR, UNARY_EXPR, COMPARE_EXPR, CALL_EXPR, PAREN_EXPR, LITERAL, IDENT_EXPR, CONTAINS_EXPR, COUNT_COMPARE_EXPR, NONE, IDENT}
use Rattle.syntax.specs.Form.{EXPECT, EXPECT_IDENT, LEFT_OVER, SOURCE, METHOD, ATOM}
use Rattle.syntax.specs.Text.{ascii, same}
use Rattle.lexer.specs.Lex.{Token, lex}
use Rattle.trees.specs.Green.{Forest, nil, leaf, node, ◌⊹◌}
use Rattle.trees.specs.Look.{is_blank, skip_ws, head_kind, head_text, at_kind, at_text, at_ident, at_message_dot, at_field, at_predicate_method, at_plain_method, has_count_compare_ahead, has_binary_op_at_level}

-- a parse error: its form, the kind expected (of form EXPECT, else 0), and the tokens left, of which the first is the one found
pub record Error : Type 0 where
  pub form : ℕ
  pub expected : ℕ
  pub left : List Token

-- what a function of the parser does: what it adds to the tree, the errors that it reports, and the tokens that it leaves
pub record Parsed : Type 0 where
  pub made : Forest
  pub errors : List Error
  pub rest : List Token

abbrev pub Parser : Type 0
Parser = List Token → Parsed

-- nothing is done
unfoldable pub done : Parser
done ts = record { made = nil; errors = []; rest = ts }

-- `self.builder.token(..); self.pos += 1`: the next token, whatever it is; at the end nothing
unfoldable pub next : Parser
next [] = record { made = nil; errors = []; rest = [] }
next (t ∷ ts) = record { made = leaf t nil; errors = []; rest = ts }

-- `self.errors.push(..)`: an error at the next token
unfoldable pub fails : ℕ → ℕ → Parser
fails form expected ts = record { made = nil; errors = record { form = form; expected = expected; left = ts } ∷ []; rest = ts }

-- an error at the first token that is no blank, which `current_text` finds
unfoldable pub fails_ahead : ℕ → Parser
unfolding skip_ws
fails_ahead form ts = record { made = nil; errors = record { form = form; expected = 0; left = skip_ws ts } ∷ []; rest = ts }

unfoldable pub join : Parsed → Parsed → Parsed
unfolding ◌⊹◌
join p q = record { made = p.made ⊹ q.made; errors = p.errors ++ q.errors; rest = q.rest }

infixl 60 ◌▹◌
-- one and then another on the tokens that the first leaves
unfoldable pub ◌▹◌ : Parser → Parser → Parser
unfolding join
(p ▹ q) ts = let r = p ts in join r (q r.rest)

-- `start_node(kind); ..; finish_node()`
unfoldable pub in_node : ℕ → Parser → Parser
in_node k p ts = let r = p ts in record { made = node k r.made nil; errors = r.errors; rest = r.rest }

-- `if test { p } else { q }`, by a look at the tokens left
unfoldable pub choose : (List Token → Bool) → Parser → Parser → Parser
choose test p q ts = elim (test ts) [ true ↦ p ts | false ↦ q ts ]

-- `eat_ws`: the blanks that come next
unfoldable pub eat_ws : Parser
unfolding join next
eat_ws [] = record { made = nil; errors = []; rest = [] }
eat_ws (t ∷ ts) = elim (is_blank t) [ true ↦ join (next (t ∷ ts)) (eat_ws ts) | false ↦ record { made = nil; errors = []; rest = t ∷ ts } ]

-- `bump`: blanks, and the token after them
unfoldable pub bump : Parser
unfolding eat_ws next ◌▹◌
bump = eat_ws ▹ next

-- `expect`: blanks, and the token after them if it is of this kind, else an error
unfoldable pub next_is : ℕ → List Token → Bool
next_is k ts = eqb (head_kind ts) k

unfoldable pub expect : ℕ → Parser
unfolding eat_ws next fails choose next_is ◌▹◌
expect k = eat_ws ▹ choose (next_is k) next (fails EXPECT k)

-- `expect_ident`: the same of a word
unfoldable pub next_is_ident : List ℕ → List Token → Bool
next_is_ident w ts = eqb (head_kind ts) IDENT && same (head_text ts) w

unfoldable pub expect_ident : List ℕ → Parser
unfolding eat_ws next fails choose next_is_ident ◌▹◌
expect_ident w = eat_ws ▹ choose (next_is_ident w) next (fails EXPECT_IDENT 0)

-- a string literal as a node
unfoldable pub literal : Parser
unfolding expect in_node
literal = in_node LITERAL (expect STRING_LIT)

-- `has('..')` and `analysis('..')`
unfoldable pub call_expr : Parser
unfolding bump expect literal in_node ◌▹◌
call_expr = in_node CALL_EXPR (bump ▹ expect L_PAREN ▹ literal ▹ expect R_PAREN)

-- `connected` and `components`
unfoldable pub ident_expr : Parser
unfolding bump in_node
ident_expr = in_node IDENT_EXPR bump

-- `message.contains('..')`
unfoldable pub contains_expr : Parser
unfolding bump expect expect_ident literal in_node ◌▹◌
contains_expr = in_node CONTAINS_EXPR (bump ▹ expect DOT ▹ expect_ident (ascii "contains") ▹ expect L_PAREN ▹ literal ▹ expect R_PAREN)

-- `field == '..'`
unfoldable pub compare_expr : Parser
unfolding bump expect literal in_node ◌▹◌
compare_expr = in_node COMPARE_EXPR (bump ▹ expect EQ_EQ ▹ literal)

-- `parse_atom` past `not` and brackets
unfoldable pub simple_atom : Parser
unfolding call_expr ident_expr contains_expr compare_expr fails_ahead choose at_ident at_message_dot at_field
simple_atom =
    choose (at_ident (ascii "has")) call_expr
    (choose (at_ident (ascii "connected")) ident_expr
    (choose at_message_dot contains_expr
    (choose at_field compare_expr (fails_ahead ATOM))))

-- The functions that call each other. `OrRest` and `AndRest` are what is left of a `while`, `Calls` of the `loop`.
pub data Mode : Type 0 where
  OrExpr OrRest AndExpr AndRest Atom Calls : Mode

-- `.where(..)`, `.all(..)`, `.any(..)`, `.none(..)`: brackets around a predicate
unfoldable pub predicate_args : Parser → Parser
unfolding expect in_node ◌▹◌
predicate_args predicate = in_node CALL_ARGS (expect L_PAREN ▹ predicate ▹ expect R_PAREN)

-- `.count()`: brackets around nothing
unfoldable pub no_args : Parser
unfolding expect in_node ◌▹◌
no_args = in_node CALL_ARGS (expect L_PAREN ▹ expect R_PAREN)

-- no method: an error, and the next token is passed over if there is one
unfoldable pub no_method : Parser
unfolding fails_ahead bump done choose at_kind ◌▹◌
no_method = fails_ahead METHOD ▹ choose (at_kind NONE) done bump

unfoldable pub parse_method : Parser → Parser
unfolding predicate_args no_args no_method bump choose at_text at_predicate_method at_plain_method ◌▹◌
parse_method predicate =
    choose at_predicate_method (bump ▹ predicate_args predicate)
    (choose (at_text (ascii "count")) (bump ▹ no_args)
    (choose at_plain_method bump no_method))

-- `parse_dot_call`
unfoldable pub parse_dot_call : Parser → Parser
unfolding expect parse_method in_node ◌▹◌
parse_dot_call predicate = in_node DOT_CALL (expect DOT ▹ parse_method predicate)

-- `parse_atom` at a token that is no blank
unfoldable pub atom_here : (Mode → Parser) → Parser
unfolding simple_atom bump expect in_node choose at_kind ◌▹◌
atom_here g =
    choose (at_kind NOT_KW) (in_node UNARY_EXPR (bump ▹ g Atom))
    (choose (at_kind L_PAREN) (in_node PAREN_EXPR (bump ▹ g OrExpr ▹ expect R_PAREN))
    simple_atom)

-- one step of each of the functions that call each other, over what their calls do
unfoldable pub step : (Mode → Parser) → Mode → Parser
unfolding atom_here parse_dot_call bump eat_ws done in_node choose at_kind has_binary_op_at_level ◌▹◌
step g OrExpr = choose (has_binary_op_at_level OR_KW) (in_node BINARY_EXPR (g AndExpr ▹ g OrRest)) (g AndExpr)
step g OrRest = choose (at_kind OR_KW) (bump ▹ g AndExpr ▹ g OrRest) done
step g AndExpr = choose (has_binary_op_at_level AND_KW) (in_node BINARY_EXPR (g Atom ▹ g AndRest)) (g Atom)
step g AndRest = choose (at_kind AND_KW) (bump ▹ g Atom ▹ g AndRest) done
step g Atom = eat_ws ▹ atom_here g
step g Calls = eat_ws ▹ choose (at_kind DOT) (parse_dot_call (g OrExpr) ▹ g Calls) done

-- so many steps, one inside the other
unfoldable pub steps : ℕ → Mode → Parser
unfolding step done
steps zero m = done
steps (suc n) m = step (steps n) m

-- more steps than any tokens need: law `parse_step` says that one step more changes nothing
unfoldable pub parse : Mode → Parser
unfolding steps
parse m ts = steps (suc (3 * length ts + 2)) m ts

-- the method chain
abbrev pub parse_calls : Parser
parse_calls = parse Calls

-- `parse_pipeline`: its source
unfoldable pub parse_source : Parser
unfolding ident_expr call_expr fails_ahead choose at_ident
parse_source = choose (at_ident (ascii "components")) ident_expr (choose (at_ident (ascii "analysis")) call_expr (fails_ahead SOURCE))

-- `parse_pipeline`
unfoldable pub parse_pipeline : Parser
unfolding parse_source parse in_node ◌▹◌
parse_pipeline = in_node PIPELINE_EXPR (parse_source ▹ parse_calls)

-- `parse_pipeline_or_count_compare`
unfoldable pub parse_pipeline_or_count_compare : Parser
unfolding parse_pipeline bump in_node choose has_count_compare_ahead ◌▹◌
parse_pipeline_or_count_compare = choose has_count_compare_ahead (in_node COUNT_COMPARE_EXPR (parse_pipeline ▹ bump ▹ bump)) parse_pipeline

-- all tokens left
unfoldable pub remaining : Parser
unfolding join next
remaining [] = record { made = nil; errors = []; rest = [] }
remaining (t ∷ ts) = join (next (t ∷ ts)) (remaining ts)

-- tokens left over: an error, and they stand in the root
unfoldable pub left_over : Parser
unfolding fails remaining done choose at_kind ◌▹◌
left_over = choose (at_kind NONE) done (fails LEFT_OVER 0 ▹ remaining)

-- `parse_root`
unfoldable pub parse_root : Parser
unfolding parse_pipeline_or_count_compare eat_ws left_over in_node ◌▹◌
parse_root = in_node ROOT (parse_pipeline_or_count_compare ▹ eat_ws ▹ left_over)

-- `parse_expr`
unfoldable pub parse_expr : List ℕ → Parsed
unfolding lex parse_root
parse_expr rule = parse_root (lex rule)

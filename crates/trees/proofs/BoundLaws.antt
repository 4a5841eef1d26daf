-- Rows and errors are few: together at most six for each token and five more. So the tables that the parser is lent have room for them.
-- Assumes nothing.
use mathlib.Core.Path.{◌≡◌, refl}
use mathlib.Core.List.{List, [], ◌∷◌}
use mathlib.Core.Bool.{Bool, true, false, ◌&&◌, ◌||◌}
use Prim.Native.Nat.{ℕ, zero, suc, ◌+◌, ◌*◌, ◌≤◌, ◌<◌}
use native.Mathlib.Omega.{arith}
use lib.Dec.{eqb}
use lib.ListN.{length, length-append}
use Rattle.syntax.specs.Kind.{IDENT, STRING_LIT, DOT, L_PAREN, R_PAREN, EQ_EQ, AND_KW, OR_KW, NOT_KW, ROOT, PIPELINE_EXPR, DOT_CALL, CALL_ARGS, BINARY_EXPR, UNARY_EXPR, COMPARE_EXPR, CALL_EXPR, PAREN_EXPR, LITERAL, IDENT_EXPR, CONTAINS_EXPR, COUNT_COMPARE_EXPR, NONE}
use Rattle.syntax.specs.Form.{EXPECT, EXPECT_IDENT, LEFT_OVER, SOURCE, METHOD, ATOM}
use Rattle.syntax.specs.Text.{ascii, same}
use Rattle.syntax.proofs.BoolLaws.{whether, true→T, T→true, and_left}
use Rattle.lexer.specs.Lex.{Token, lex, token_rows}
use Rattle.lexer.proofs.ReadLaws.{lex_length}
use Rattle.trees.specs.Green.{size, width}
use Rattle.trees.specs.Look.{is_blank, skip_ws, head_text, at_kind, at_text, at_ident, peek_kind, at_message_dot, at_field, at_predicate_method, at_plain_method, has_count_compare_ahead, has_binary_op_at_level}
use Rattle.trees.specs.Parse.{Parsed, Parser, done, next, fails, fails_ahead, join, ◌▹◌, in_node, choose, eat_ws, bump, next_is, expect, next_is_ident, expect_ident, literal, call_expr, ident_expr, contains_expr, compare_expr, simple_atom, Mode, OrExpr, OrRest, AndExpr, AndRest, Atom, Calls, no_method, parse_method, parse_dot_call, step, steps, parse, parse_source, parse_pipeline, parse_pipeline_or_count_compare, remaining, left_over, parse_root, parse_expr}
use Rattle.trees.specs.Writing.{Asks}
use Rattle.trees.proofs.GreenLaws.{size-⊹, height_size}
use Rattle.trees.proofs.TreeLaws.{eat_rest}
use Rattle.trees.proofs.StepLaws.{Sees, sees_kind, expect_bump, always}

-- x is what was read from ts. Each token taken pays six, each row and each error costs one: at least `saved` remain, or at most `over` are
-- missing
record Bounded (ts : List Token) (saved over : ℕ) (x : Parsed) : Type 0 where
  bounded : size x.made + length x.errors + 6 * length x.rest + saved ≤ 6 * length ts + over

-- p reads so where the test passes
record Bound (test : List Token → Bool) (saved over : ℕ) (p : Parser) : Type 0 where
  bound : (ts : List Token) → test ts ≡ true → Bounded ts saved over (p ts)

join_bounded : {ts : List Token} {a a' b b' : ℕ} {x y : Parsed} → Bounded ts a b x → Bounded x.rest a' b' y
    → Bounded ts (a + a') (b + b') (join x y)
unfolding join
join_bounded {x = x} {y} p q =
    omega (arith, size-⊹ x.made y.made, length-append x.errors y.errors, p.bounded, q.bounded)

test_bounded : {ts : List Token} {a b : ℕ} {x y : Parsed} (t : Bool) → (t ≡ true → Bounded ts a b x) → Bounded ts a b y
    → Bounded ts a b (elim t [ true ↦ x | false ↦ y ])
test_bounded true p q = p refl
test_bounded false p q = q

infixl 60 ◌then◌
◌then◌ : {test : List Token → Bool} {a a' b b' : ℕ} {p q : Parser} → Bound test a b p → Bound always a' b' q
    → Bound test (a + a') (b + b') (p ▹ q)
unfolding ◌▹◌
◌then◌ {p = p} f g = record { bound = λ ts e. join_bounded (f.bound ts e) (g.bound (p ts).rest refl) }

bound_node : {test : List Token → Bool} {a b : ℕ} {p : Parser} (k : ℕ) → Bound test a b p → Bound test a (b + 1) (in_node k p)
unfolding in_node size
bound_node k f = record { bound = λ ts e. omega (arith, (f.bound ts e).bounded) }

bound_choose : {test : List Token → Bool} {a b : ℕ} {p q : Parser} → Bound test a b p → Bound always a b q → Bound always a b (choose test p q)
unfolding choose
bound_choose {test} f g = record { bound = λ ts e. test_bounded (test ts) (λ t. f.bound ts t) (g.bound ts e) }

-- where the test passes as elsewhere
any : {a b : ℕ} {p : Parser} (test : List Token → Bool) → Bound always a b p → Bound test a b p
any test f = record { bound = λ ts e. f.bound ts refl }

-- with less saved or more over
fit : {test : List Token → Bool} {a a' b b' : ℕ} {p : Parser} → Bound test a b p → b + a' ≤ b' + a → Bound test a' b' p
fit f l = record { bound = λ ts e. omega (arith, (f.bound ts e).bounded) }

bound_done : Bound always 0 0 done
unfolding done size
bound_done = record { bound = λ ts e. omega arith }

bound_fails : (form k : ℕ) → Bound always 0 1 (fails form k)
unfolding fails size
bound_fails form k = record { bound = λ ts e. omega arith }

bound_fails_ahead : (form : ℕ) → Bound always 0 1 (fails_ahead form)
unfolding fails_ahead size
bound_fails_ahead form = record { bound = λ ts e. omega arith }

-- a token is one row, and saves five
next_seen : (ts : List Token) → 0 < length ts → Bounded ts 5 0 (next ts)
unfolding next size
next_seen [] l = absurd (omega arith)
next_seen (t ∷ ts) l = omega arith

bound_next : Bound always 0 0 next
unfolding next size
bound_next = record { bound = λ ts e. go ts }
  where
    go : (ts : List Token) → Bounded ts 0 0 (next ts)
    go [] = omega arith
    go (t ∷ ts) = omega arith

bound_eat : Bound always 0 0 eat_ws
unfolding eat_ws size
bound_eat = record { bound = λ ts e. go ts }
  where
    go : (ts : List Token) → Bounded ts 0 0 (eat_ws ts)
    go [] = omega arith
    go (t ∷ ts) = test_bounded (is_blank t) (λ e. join_bounded (bound_next.bound (t ∷ ts) refl) (go ts)) (omega arith)

-- a token that is seen is taken, and one that may be there
bound_bump : {test : List Token → Bool} → Sees test → Bound test 5 0 bump
unfolding bump
bound_bump s = record { bound = λ ts e. join_bounded (bound_eat.bound ts refl) (next_seen (eat_ws ts).rest (rw (eat_rest ts) (s.seen ts e))) }

bound_bump_any : Bound always 0 0 bump
unfolding bump
bound_bump_any = bound_eat then bound_next

bound_expect_seen : (k : ℕ) → (k ≡ NONE → ⊥) → Bound (at_kind k) 5 0 (expect k)
bound_expect_seen k n = record { bound = λ ts e. rw (expect_bump k ts e) ((bound_bump (sees_kind k n)).bound ts e) }

bound_expect : (k : ℕ) → Bound always 0 1 (expect k)
unfolding expect
bound_expect k = bound_eat then bound_choose (any (next_is k) (fit bound_next (omega arith))) (bound_fails EXPECT k)

bound_expect_ident : (w : List ℕ) → Bound always 0 1 (expect_ident w)
unfolding expect_ident
bound_expect_ident w = bound_eat then bound_choose (any (next_is_ident w) (fit bound_next (omega arith))) (bound_fails EXPECT_IDENT 0)

bound_remaining : Bound always 0 0 remaining
unfolding remaining size
bound_remaining = record { bound = λ ts e. go ts }
  where
    go : (ts : List Token) → Bounded ts 0 0 (remaining ts)
    go [] = omega arith
    go (t ∷ ts) = join_bounded (bound_next.bound (t ∷ ts) refl) (go ts)

-- ---- what the looks see

pub sees_text : (b : ℕ) (w : List ℕ) → Sees (at_text (b ∷ w))
unfolding at_text
sees_text b w = record { seen = λ ts e. go (skip_ws ts) e }
  where
    go : (us : List Token) → same (head_text us) (b ∷ w) ≡ true → 0 < length us
    go [] e = let z : ◌≡◌ {A = ℕ} 0 1 = cc in absurd (omega arith)
    go (u ∷ us) e = omega arith

pub sees_or : {p q : List Token → Bool} → Sees p → Sees q → Sees (λ ts. p ts || q ts)
sees_or {p} {q} a b = record { seen = λ ts e. whether (p ts) (λ t. a.seen ts t) (λ t. b.seen ts (rw t at e)) }

sees_and : {p : List Token → Bool} (q : List Token → Bool) → Sees p → Sees (λ ts. p ts && q ts)
sees_and {p} q a = record { seen = λ ts e. a.seen ts (T→true (p ts) (and_left (p ts) (q ts) (true→T e))) }

sees_ident : (w : List ℕ) → Sees (at_ident w)
unfolding at_ident at_kind at_text
sees_ident w = sees_and (at_text w) (sees_kind IDENT (omega arith))

sees_message : Sees at_message_dot
unfolding at_message_dot
sees_message = sees_and (λ ts. eqb (peek_kind ts) DOT) (sees_ident (ascii "message"))

sees_field : Sees at_field
unfolding at_field
sees_field = search (sees_or, sees_ident)

pub sees_method : Sees at_predicate_method
unfolding at_predicate_method
sees_method = search (sees_or, sees_text)

-- ---- the parsers below the cycle

bound_literal : Bound always 0 2 literal
unfolding literal
bound_literal = bound_node LITERAL (bound_expect STRING_LIT)

bound_call : {test : List Token → Bool} {b : ℕ} → Sees test → Bound test 0 b call_expr
unfolding call_expr
bound_call s = fit (bound_node CALL_EXPR (bound_bump s then bound_expect L_PAREN then bound_literal then bound_expect R_PAREN)) (omega arith)

bound_ident : {test : List Token → Bool} {b : ℕ} → Sees test → Bound test 0 b ident_expr
unfolding ident_expr
bound_ident s = fit (bound_node IDENT_EXPR (bound_bump s)) (omega arith)

bound_contains : Bound at_message_dot 0 2 contains_expr
unfolding contains_expr
bound_contains =
    let name = bound_bump sees_message then bound_expect DOT then bound_expect_ident (ascii "contains") in
    fit (bound_node CONTAINS_EXPR (name then bound_expect L_PAREN then bound_literal then bound_expect R_PAREN)) (omega arith)

bound_compare : {b : ℕ} → Bound at_field 0 b compare_expr
unfolding compare_expr
bound_compare = fit (bound_node COMPARE_EXPR (bound_bump sees_field then bound_expect EQ_EQ then bound_literal)) (omega arith)

bound_simple : Bound always 0 2 simple_atom
unfolding simple_atom
bound_simple =
    bound_choose (bound_call (sees_ident (ascii "has")))
    (bound_choose (bound_ident (sees_ident (ascii "connected")))
    (bound_choose bound_contains
    (bound_choose bound_compare (fit (bound_fails_ahead ATOM) (omega arith)))))

bound_no_method : Bound always 0 1 no_method
unfolding no_method
bound_no_method = bound_fails_ahead METHOD then bound_choose (any (at_kind NONE) bound_done) bound_bump_any

bound_method : {p : Parser} → Bound always 0 4 p → Bound always 0 3 (parse_method p)
unfolding parse_method
bound_method f =
    bound_choose (fit (bound_bump sees_method then bound_node CALL_ARGS (bound_expect L_PAREN then f then bound_expect R_PAREN)) (omega arith))
    (bound_choose (any (at_text (ascii "count")) (bound_bump_any then bound_node CALL_ARGS (bound_expect L_PAREN then bound_expect R_PAREN)))
    (bound_choose (any at_plain_method (fit bound_bump_any (omega arith))) (fit bound_no_method (omega arith))))

bound_dot : {p : Parser} → Bound always 0 4 p → Bound (at_kind DOT) 0 0 (parse_dot_call p)
unfolding parse_dot_call
bound_dot f = fit (bound_node DOT_CALL (bound_expect_seen DOT (omega arith) then bound_method f)) (omega arith)

-- ---- the cycle

-- what may be missing after each
abbrev over : Mode → ℕ
over OrExpr = 4
over AndExpr = 3
over Atom = 2
over OrRest = 0
over AndRest = 0
over Calls = 0

bound_step : {g : Mode → Parser} → ((m : Mode) → Bound always 0 (over m) (g m)) → (m : Mode) → Bound always 0 (over m) (step g m)
unfolding step
bound_step f OrExpr = bound_choose (any (has_binary_op_at_level OR_KW) (bound_node BINARY_EXPR (f AndExpr then f OrRest))) (fit (f AndExpr) (omega arith))
bound_step f AndExpr = bound_choose (any (has_binary_op_at_level AND_KW) (bound_node BINARY_EXPR (f Atom then f AndRest))) (fit (f Atom) (omega arith))
bound_step f OrRest = bound_choose (fit (bound_bump (sees_kind OR_KW (omega arith)) then f AndExpr then f OrRest) (omega arith)) bound_done
bound_step f AndRest = bound_choose (fit (bound_bump (sees_kind AND_KW (omega arith)) then f Atom then f AndRest) (omega arith)) bound_done
bound_step f Atom =
    bound_eat
    then bound_choose (fit (bound_node UNARY_EXPR (bound_bump (sees_kind NOT_KW (omega arith)) then f Atom)) (omega arith))
    (bound_choose (fit (bound_node PAREN_EXPR (bound_bump (sees_kind L_PAREN (omega arith)) then f OrExpr then bound_expect R_PAREN)) (omega arith))
    bound_simple)
bound_step f Calls = bound_eat then bound_choose (bound_dot (f OrExpr) then f Calls) bound_done

bound_steps : (n : ℕ) (m : Mode) → Bound always 0 (over m) (steps n m)
unfolding steps
bound_steps zero m = fit bound_done (omega arith)
bound_steps (suc n) m = bound_step (bound_steps n) m

bound_parse : (m : Mode) → Bound always 0 (over m) (parse m)
unfolding parse
bound_parse m = record { bound = λ ts e. (bound_steps (suc (3 * length ts + 2)) m).bound ts e }

-- ---- the root

bound_source : Bound always 0 1 parse_source
unfolding parse_source
bound_source =
    bound_choose (bound_ident (sees_ident (ascii "components")))
    (bound_choose (bound_call (sees_ident (ascii "analysis"))) (bound_fails_ahead SOURCE))

bound_pipeline : Bound always 0 2 parse_pipeline
unfolding parse_pipeline
bound_pipeline = bound_node PIPELINE_EXPR (bound_source then bound_parse Calls)

bound_count_compare : Bound always 0 3 parse_pipeline_or_count_compare
unfolding parse_pipeline_or_count_compare
bound_count_compare =
    bound_choose (any has_count_compare_ahead (bound_node COUNT_COMPARE_EXPR (bound_pipeline then bound_bump_any then bound_bump_any)))
    (fit bound_pipeline (omega arith))

bound_left_over : Bound always 0 1 left_over
unfolding left_over
bound_left_over = bound_choose (any (at_kind NONE) (fit bound_done (omega arith))) (bound_fails LEFT_OVER 0 then bound_remaining)

bound_root : Bound always 0 5 parse_root
unfolding parse_root
bound_root = bound_node ROOT (bound_count_compare then bound_eat then bound_left_over)

-- ---- a rule's rows and errors

-- together; one row is the root's
rule_bound : (rule : List ℕ) → size (parse_expr rule).made + length (parse_expr rule).errors ≤ 6 * length rule + 5
unfolding parse_expr
rule_bound rule = omega (arith, (bound_root.bound (lex rule) refl).bounded, lex_length rule)

root_row : (rule : List ℕ) → 1 ≤ size (parse_expr rule).made
unfolding parse_expr size
root_row rule = omega arith

pub rows_bound : (rule : List ℕ) → size (parse_expr rule).made ≤ 7 * length rule + 5
rows_bound rule = omega (arith, rule_bound rule)

pub errors_bound : (rule : List ℕ) → length (parse_expr rule).errors ≤ 6 * length rule + 4
errors_bound rule = omega (arith, rule_bound rule, root_row rule)

-- tables of eight rows for each byte and eight more have room for all of it
pub asks_root : (rule : List ℕ) {tokens t e : List ℕ} → tokens ≡ token_rows 0 (lex rule) → 4 * (8 * length rule + 8) ≤ length t
    → 4 * (8 * length rule + 8) ≤ length e → length rule ≤ 500
    → Asks (lex rule) tokens t e 0 (record { token = 0; byte = 0; row = 0; error = 0 }) parse_root
unfolding parse_expr width
asks_root rule r t e l =
    record {
      fits = record { ready = record { rows = r; within = omega arith; byte = refl }; room = omega (arith, rows_bound rule) };
      room = omega (arith, errors_bound rule);
      deep = omega (arith, rows_bound rule, height_size (parse_root (lex rule)).made);
    }

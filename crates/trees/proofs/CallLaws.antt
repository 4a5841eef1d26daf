-- A rule without parse errors has at most half as many DOT_CALLs as tokens: each has its dot and its method. Assumes nothing.
use mathlib.Core.Path.{◌≡◌, refl, ap}
use mathlib.Core.List.{List, [], ◌∷◌}
use mathlib.Core.Bool.{Bool, true, false}
use Prim.Native.Nat.{ℕ, zero, suc, ◌+◌, ◌*◌, ◌≤◌, ◌<◌}
use native.Mathlib.Omega.{arith}
use lib.Dec.{eqb}
use lib.ListN.{length, length-append}
use Rattle.syntax.specs.Kind.{DOT, DOT_CALL, NONE}
use Rattle.syntax.specs.Form.{METHOD}
use Rattle.syntax.specs.Text.{ascii}
use Rattle.lexer.specs.Lex.{Token, lex}
use Rattle.lexer.proofs.ReadLaws.{lex_length}
use Rattle.trees.specs.Green.{Forest, nil, leaf, node, ◌⊹◌, dot_calls}
use Rattle.trees.specs.Look.{is_blank, at_kind, at_text, at_predicate_method, at_plain_method}
use Rattle.trees.specs.Parse.{Parsed, Parser, done, next, fails, fails_ahead, join, ◌▹◌, in_node, choose, eat_ws, bump, expect, Mode, OrExpr, OrRest, AndExpr, AndRest, Atom, Calls, predicate_args, no_args, no_method, parse_method, parse_dot_call, step, steps, parse, remaining, parse_root, parse_expr}
use Rattle.trees.proofs.GreenLaws.{tokens_of, tokens_of-⊹}
use Rattle.trees.proofs.TreeLaws.{eat_rest, tree_tokens}
use Rattle.trees.proofs.StepLaws.{Sees, sees_kind, expect_bump}
use Rattle.trees.proofs.BoundLaws.{sees_text, sees_or, sees_method}

dot_calls-⊹ : (f g : Forest) → dot_calls (f ⊹ g) ≡ dot_calls f + dot_calls g
unfolding ◌⊹◌ dot_calls
dot_calls-⊹ nil g = omega arith
dot_calls-⊹ (leaf t f) g = dot_calls-⊹ f g
dot_calls-⊹ (node k s f) g = omega (arith, dot_calls-⊹ f g)

-- each token and each error of what was read pays one, each DOT_CALL costs two: at least `saved` remain
record Paid (saved : ℕ) (x : Parsed) : Type 0 where
  paid : 2 * dot_calls x.made + saved ≤ length (tokens_of x.made) + length x.errors

-- p reads so
record Pays (p : Parser) : Type 0 where
  pays : (ts : List Token) → Paid 0 (p ts)

paid_join : {a b : ℕ} {x y : Parsed} → Paid a x → Paid b y → Paid (a + b) (join x y)
unfolding join
paid_join {x = x} {y} p q =
    record { paid = omega (arith, dot_calls-⊹ x.made y.made, ap length (tokens_of-⊹ x.made y.made), length-append (tokens_of x.made) (tokens_of y.made), length-append x.errors y.errors, p.paid, q.paid) }

paid_test : {a : ℕ} {x y : Parsed} (t : Bool) → (t ≡ true → Paid a x) → Paid a y → Paid a (elim t [ true ↦ x | false ↦ y ])
paid_test true p q = p refl
paid_test false p q = q

module _ {p q : Parser} (a : Pays p) (b : Pays q) where
  pays_then : Pays (p ▹ q)
  unfolding ◌▹◌
  pays_then = record { pays = λ ts. paid_join (a.pays ts) (b.pays (p ts).rest) }

  pays_choose : (test : List Token → Bool) → Pays (choose test p q)
  unfolding choose
  pays_choose test = record { pays = λ ts. paid_test (test ts) (λ e. a.pays ts) (b.pays ts) }

pays_node : {p : Parser} (k : ℕ) → eqb k DOT_CALL ≡ false → Pays p → Pays (in_node k p)
unfolding in_node tokens_of dot_calls
pays_node {p} k e a = record { pays = λ ts. record { paid = rw e (omega (arith, (a.pays ts).paid, length-append (tokens_of (p ts).made) [])) } }

pays_done : Pays done
unfolding done dot_calls
pays_done = record { pays = λ ts. omega arith }

pays_next : Pays next
unfolding next dot_calls
pays_next = record { pays = go }
  where
    go : (ts : List Token) → Paid 0 (next ts)
    go [] = omega arith
    go (t ∷ ts) = omega arith

pays_fails : (form k : ℕ) → Pays (fails form k)
unfolding fails dot_calls
pays_fails form k = record { pays = λ ts. omega arith }

pays_fails_ahead : (form : ℕ) → Pays (fails_ahead form)
unfolding fails_ahead dot_calls
pays_fails_ahead form = record { pays = λ ts. omega arith }

pays_eat_ws : Pays eat_ws
unfolding eat_ws dot_calls
pays_eat_ws = record { pays = go }
  where
    go : (ts : List Token) → Paid 0 (eat_ws ts)
    go [] = omega arith
    go (t ∷ ts) = paid_test (is_blank t) (λ e. paid_join (pays_next.pays (t ∷ ts)) (go ts)) (omega arith)

pays_remaining : Pays remaining
unfolding remaining dot_calls
pays_remaining = record { pays = go }
  where
    go : (ts : List Token) → Paid 0 (remaining ts)
    go [] = omega arith
    go (t ∷ ts) = paid_join (pays_next.pays (t ∷ ts)) (go ts)

-- the laws by which it is found along a definition
ruleset paying = (pays_then, pays_choose, pays_node, pays_done, pays_next, pays_fails, pays_fails_ahead, pays_eat_ws, refl)

-- ---- a DOT_CALL

-- a token that is seen and taken saves one
next_saves : (ts : List Token) → 0 < length ts → Paid 1 (next ts)
unfolding next dot_calls tokens_of
next_saves [] l = absurd (omega arith)
next_saves (t ∷ ts) l = omega arith

bump_saves : {test : List Token → Bool} → Sees test → (ts : List Token) → test ts ≡ true → Paid 1 (bump ts)
unfolding bump
bump_saves s ts e = paid_join (pays_eat_ws.pays ts) (next_saves (eat_ws ts).rest (rw (eat_rest ts) (s.seen ts e)))

fails_saves : (form : ℕ) (ts : List Token) → Paid 1 (fails_ahead form ts)
unfolding fails_ahead dot_calls
fails_saves form ts = omega arith

sees_plain : Sees at_plain_method
unfolding at_plain_method
sees_plain = search (sees_or, sees_text)

-- so the method saves one, or its error does
method_saves : {p : Parser} → Pays p → (ts : List Token) → Paid 1 (parse_method p ts)
unfolding parse_method predicate_args no_args no_method choose ◌▹◌
method_saves {p} a ts =
    let args : Pays (predicate_args p) = search paying depth 20 in
    let none : Pays no_args = search paying depth 20 in
    let passed : Pays (choose (at_kind NONE) done bump) = search paying in
    paid_test (at_predicate_method ts) (λ e. paid_join (bump_saves sees_method ts e) (args.pays (bump ts).rest))
    (paid_test (at_text (ascii "count") ts) (λ e. paid_join (bump_saves (sees_text _ _) ts e) (none.pays (bump ts).rest))
    (paid_test (at_plain_method ts) (bump_saves sees_plain ts)
    (paid_join (fails_saves METHOD ts) (passed.pays ts))))

-- and the dot the other
dot_paid : {p : Parser} → Pays p → (ts : List Token) → at_kind DOT ts ≡ true → Paid 0 (parse_dot_call p ts)
unfolding parse_dot_call in_node ◌▹◌ dot_calls tokens_of
dot_paid {p} a ts e =
    let dot : Paid 1 (expect DOT ts) = rw (expect_bump DOT ts e) (bump_saves (sees_kind DOT (omega arith)) ts e) in
    let both = paid_join dot (method_saves a (expect DOT ts).rest) in
    omega (arith, both.paid, length-append (tokens_of ((expect DOT ▹ parse_method p) ts).made) [])

calls_pay : {p q : Parser} → Pays p → Pays q → Pays (choose (at_kind DOT) (parse_dot_call p ▹ q) done)
unfolding choose ◌▹◌
calls_pay {p} a b =
    record { pays = λ ts. paid_test (at_kind DOT ts) (λ e. paid_join (dot_paid a ts e) (b.pays (parse_dot_call p ts).rest)) (pays_done.pays ts) }

-- ---- the cycle and the root

pays_step : {g : Mode → Parser} → ((m : Mode) → Pays (g m)) → (m : Mode) → Pays (step g m)
unfolding step
pays_step a OrExpr = search paying
pays_step a AndExpr = search paying
pays_step a OrRest = search paying
pays_step a AndRest = search paying
pays_step a Atom = search paying depth 20
pays_step a Calls = search (paying, calls_pay) depth 10

pays_steps : (n : ℕ) (m : Mode) → Pays (steps n m)
unfolding steps
pays_steps zero m = pays_done
pays_steps (suc n) m = pays_step (pays_steps n) m

pays_parse : (m : Mode) → Pays (parse m)
unfolding parse
pays_parse m = record { pays = λ ts. (pays_steps (suc (3 * length ts + 2)) m).pays ts }

pays_root : Pays parse_root
unfolding parse_root
pays_root = search (paying, pays_parse, pays_remaining) depth 30

-- a call for two bytes of the rule, or for a byte and an error
pub calls_bound : (rule : List ℕ) → 2 * dot_calls (parse_expr rule).made ≤ length rule + length (parse_expr rule).errors
unfolding parse_expr
calls_bound rule = omega (arith, (pays_root.pays (lex rule)).paid, ap length (tree_tokens rule), lex_length rule)

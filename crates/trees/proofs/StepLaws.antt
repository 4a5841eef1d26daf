-- The steps of `parse` always suffice: one step more changes nothing. And taking a token that is seen brings the cursor ahead. Assumes
-- nothing.
use mathlib.Core.Path.{◌≡◌, refl, sym, ap, ◌∙◌}
use mathlib.Core.List.{List, [], ◌∷◌}
use mathlib.Core.Bool.{Bool, true}
use Prim.Native.Nat.{ℕ, zero, suc, ◌+◌, ◌*◌, ◌≤◌, ◌<◌}
use native.Mathlib.Omega.{arith}
use borrow.Author.Tests.{eqb-true}
use lib.Dec.{eqb}
use lib.ListN.{length, drop, length-append, length-drop}
use Rattle.syntax.specs.Kind.{DOT, L_PAREN, R_PAREN, AND_KW, OR_KW, NOT_KW, BINARY_EXPR, UNARY_EXPR, PAREN_EXPR, DOT_CALL, CALL_ARGS, NONE}
use Rattle.syntax.specs.Text.{ascii}
use Rattle.syntax.proofs.BoolLaws.{whether}
use Rattle.lexer.specs.Lex.{Token}
use Rattle.trees.specs.Look.{skip_ws, head_kind, at_kind, at_text, at_predicate_method, at_plain_method, has_binary_op_at_level}
use Rattle.trees.specs.Parse.{Parser, done, next, join, ◌▹◌, in_node, choose, eat_ws, bump, expect, Mode, OrExpr, OrRest, AndExpr, AndRest, Atom, Calls, no_args, no_method, parse_method, step, steps, parse}
use Rattle.trees.specs.Writing.{Did}
use Rattle.trees.specs.declared.Cursor.{Cursor}
use Rattle.trees.proofs.TreeLaws.{Keeps, eat_rest, keeping, keeps_bump, keeps_expect, keeps_simple, keeps_done, keeps_eat_ws, keeps_steps, keeps_parse}

-- ---- how many tokens are left

-- a parser that keeps tokens leaves no more than there were
pub short : {p : Parser} → Keeps p → (ts : List Token) → length (p ts).rest ≤ length ts
short a ts = omega (arith, simp length-append at (ap length (a.keeps ts).kept))

-- a look that passes sees a token that is no blank
pub record Sees (test : List Token → Bool) : Type 0 where
  pub seen : (ts : List Token) → test ts ≡ true → 0 < length (skip_ws ts)

pub sees_kind : (k : ℕ) → (k ≡ NONE → ⊥) → Sees (at_kind k)
unfolding at_kind
sees_kind k n = record { seen = λ ts e. go (skip_ws ts) (eqb-true _ _ e) }
  where
    go : (us : List Token) → head_kind us ≡ k → 0 < length us
    go [] e = absurd (n (sym e))
    go (u ∷ us) e = omega arith

-- `bump` takes a token that is seen, and `expect` the one that it expects
pub bump_less : {test : List Token → Bool} → Sees test → (ts : List Token) → test ts ≡ true → length (bump ts).rest < length ts
unfolding bump next
bump_less s ts e =
    let l : length (skip_ws ts) ≤ length ts = rw (← eat_rest ts) (short keeps_eat_ws ts) in
    rw (eat_rest ts) (go (skip_ws ts) l (s.seen ts e))
  where
    go : (us : List Token) → length us ≤ length ts → 0 < length us → length (next us).rest < length ts
    go [] l z = absurd (omega arith)
    go (u ∷ us) l z = omega arith

pub expect_bump : (k : ℕ) (ts : List Token) → at_kind k ts ≡ true → expect k ts ≡ bump ts
unfolding expect bump at_kind
expect_bump k ts e = let q : eqb (head_kind (eat_ws ts).rest) k ≡ true = rw (eat_rest ts) e in rw (q, choose)

pub expect_less : (k : ℕ) → (k ≡ NONE → ⊥) → (ts : List Token) → at_kind k ts ≡ true → length (expect k ts).rest < length ts
expect_less k n ts e = rw (expect_bump k ts e) (bump_less (sees_kind k n) ts e)

-- ---- two parsers that do the same where they are asked

-- a look that always passes
abbrev pub always : List Token → Bool
always ts = true

-- p does what q does on fewer than n tokens that pass the test, and leaves fewer than m
record Alike (test : List Token → Bool) (n m : ℕ) (p q : Parser) : Type 0 where
  same : (ts : List Token) → test ts ≡ true → length ts < n → p ts ≡ q ts
  left : (ts : List Token) → test ts ≡ true → length ts < n → length (q ts).rest < m

infixl 60 ◌then◌
◌then◌ : {test : List Token → Bool} {n m l : ℕ} {p p' q q' : Parser} → Alike test n m p p' → Alike always m l q q'
    → Alike test n l (p ▹ q) (p' ▹ q')
unfolding ◌▹◌ join
◌then◌ {p = p} {p'} {q} {q'} a b =
    record {
      same = λ ts e s. rw (a.same ts e s) (ap (join (p' ts)) (b.same (p' ts).rest refl (a.left ts e s)));
      left = λ ts e s. b.left (p' ts).rest refl (a.left ts e s);
    }

alike_node : {test : List Token → Bool} {n m : ℕ} {p p' : Parser} (k : ℕ) → Alike test n m p p' → Alike test n m (in_node k p) (in_node k p')
unfolding in_node
alike_node k a = record { same = λ ts e s. rw (a.same ts e s); left = a.left }

module _ {test : List Token → Bool} {n m : ℕ} {p p' : Parser} (a : Alike test n m p p') where
  wider : Alike test n (suc m) p p'
  wider = record { same = a.same; left = λ ts e s. omega (arith, a.left ts e s) }

  alike_choose : {q q' : Parser} → Alike always n m q q' → Alike always n m (choose test p q) (choose test p' q')
  unfolding choose
  alike_choose {q} {q'} b =
      record {
        same = λ ts e s. whether (test ts) (λ t. rw (t, choose) (a.same ts t s)) (λ t. rw (t, choose) (b.same ts e s));
        left = λ ts e s. whether (test ts) (λ t. rw (t, choose) (a.left ts t s)) (λ t. rw (t, choose) (b.left ts e s));
      }

-- where the test passes as elsewhere
any : {n m : ℕ} {p p' : Parser} (test : List Token → Bool) → Alike always n m p p' → Alike test n m p p'
any test a = record { same = λ ts e s. a.same ts refl s; left = λ ts e s. a.left ts refl s }

-- a parser is like itself; one that takes a token leaves one fewer
module _ {n : ℕ} where
  alike : {p : Parser} → Keeps p → Alike always n n p p
  alike k = record { same = λ ts e s. refl; left = λ ts e s. omega (arith, short k ts) }

  alike_bump : {test : List Token → Bool} → Sees test → Alike test (suc n) n bump bump
  alike_bump t = record { same = λ ts e s. refl; left = λ ts e s. omega (arith, bump_less t ts e) }

  alike_expect : (k : ℕ) → (k ≡ NONE → ⊥) → Alike (at_kind k) (suc n) n (expect k) (expect k)
  alike_expect k z = record { same = λ ts e s. refl; left = λ ts e s. omega (arith, expect_less k z ts e) }

-- of a method only the predicate in brackets may be another
alike_method : {n : ℕ} {p q : Parser} → Alike always n n p q → Alike always n n (parse_method p) (parse_method q)
unfolding parse_method
alike_method a =
    let others : Keeps (choose (at_text (ascii "count")) (bump ▹ no_args) (choose at_plain_method bump no_method)) = search keeping depth 20 in
    let brackets = alike (keeps_expect L_PAREN) then a then alike (keeps_expect R_PAREN) in
    alike_choose (any at_predicate_method (alike keeps_bump then alike_node CALL_ARGS brackets)) (alike others)

-- ---- one step asks for less

-- the modes that a mode asks for at the same tokens are of a lower order
abbrev order : Mode → ℕ
order OrExpr = 2
order AndExpr = 1
order OrRest = 0
order AndRest = 0
order Atom = 0
order Calls = 0

order_le : (m : Mode) → order m ≤ 2
order_le OrExpr = omega arith
order_le AndExpr = omega arith
order_le OrRest = omega arith
order_le AndRest = omega arith
order_le Atom = omega arith
order_le Calls = omega arith

-- what a step of a mode of order o on n tokens asks of g, h gives
record Agree (g h : Mode → Parser) (n o : ℕ) : Type 0 where
  keep : (m : Mode) → Keeps (h m)
  agree : (m : Mode) (ts : List Token) → 3 * length ts + order m < 3 * n + o → g m ts ≡ h m ts

module _ {g h : Mode → Parser} {n o : ℕ} (a : Agree g h n o) (m : Mode) where
  -- at the same tokens a mode of lower order, at fewer tokens any mode
  lower : order m < o → Alike always (suc n) (suc n) (g m) (h m)
  lower l = record { same = λ ts e s. a.agree m ts (omega arith); left = λ ts e s. omega (arith, short (a.keep m) ts) }

  fewer : Alike always n n (g m) (h m)
  fewer = record { same = λ ts e s. a.agree m ts (omega (arith, order_le m)); left = λ ts e s. omega (arith, short (a.keep m) ts) }

step_alike : {g h : Mode → Parser} {n : ℕ} (m : Mode) → Agree g h n (order m) → Alike always (suc n) (suc n) (step g m) (step h m)
unfolding step
step_alike OrExpr a =
    let first = lower a AndExpr (omega arith) in
    alike_choose (any (has_binary_op_at_level OR_KW) (alike_node BINARY_EXPR (first then lower a OrRest (omega arith)))) first
step_alike AndExpr a =
    let first = lower a Atom (omega arith) in
    alike_choose (any (has_binary_op_at_level AND_KW) (alike_node BINARY_EXPR (first then lower a AndRest (omega arith)))) first
step_alike OrRest a =
    alike_choose (wider (alike_bump (sees_kind OR_KW (omega arith)) then fewer a AndExpr then fewer a OrRest)) (alike keeps_done)
step_alike AndRest a =
    alike_choose (wider (alike_bump (sees_kind AND_KW (omega arith)) then fewer a Atom then fewer a AndRest)) (alike keeps_done)
step_alike Atom a =
    alike keeps_eat_ws
    then alike_choose (wider (alike_node UNARY_EXPR (alike_bump (sees_kind NOT_KW (omega arith)) then fewer a Atom)))
    (alike_choose (wider (alike_node PAREN_EXPR (alike_bump (sees_kind L_PAREN (omega arith)) then fewer a OrExpr then alike (keeps_expect R_PAREN))))
    (alike keeps_simple))
step_alike Calls a =
    alike keeps_eat_ws
    then alike_choose (wider (alike_node DOT_CALL (alike_expect DOT (omega arith) then alike_method (fewer a OrExpr)) then fewer a Calls)) (alike keeps_done)

-- ---- so more steps than enough change nothing

-- so many steps, one inside the other, and inside them anything
unfoldable pub steps_from : (Mode → Parser) → ℕ → Mode → Parser
unfolding step
steps_from b zero m = b m
steps_from b (suc n) m = step (steps_from b n) m

steps_from_lem : (b : Mode → Parser) (f g : ℕ) (m : Mode) (ts : List Token) → 3 * length ts + order m < f → 3 * length ts + order m < g
    → steps_from b f m ts ≡ steps g m ts
unfolding steps steps_from
steps_from_lem b zero g m ts x y = absurd (omega arith)
steps_from_lem b (suc f) zero m ts x y = absurd (omega arith)
steps_from_lem b (suc f) (suc g) m ts x y =
    (step_alike {n = length ts} m (record { keep = keeps_steps g; agree = λ o us l. steps_from_lem b f g o us (omega arith) (omega arith) })).same ts refl (omega arith)

steps_same : (f g : ℕ) (m : Mode) (ts : List Token) → 3 * length ts + order m < f → 3 * length ts + order m < g → steps f m ts ≡ steps g m ts
steps_same f g m ts x y = sym (steps_from_lem (λ o. done) f f m ts x x) ∙ steps_from_lem (λ o. done) f g m ts x y

pub parse_step : (m : Mode) (ts : List Token) → parse m ts ≡ step parse m ts
unfolding parse steps
parse_step m ts =
    (step_alike {n = length ts} m (record {
      keep = keeps_parse;
      agree = λ o us l. steps_same (3 * length ts + 2) (suc (3 * length us + 2)) o us (omega (arith, order_le m)) (omega (arith, order_le o));
    })).same ts refl (omega arith)

-- as many steps as suffice, and more, do what `parse` does, whatever is inside them
pub parse_steps : (b : Mode → Parser) (f : ℕ) (m : Mode) (ts : List Token) → 3 * length ts + 2 < f → parse m ts ≡ steps_from b f m ts
unfolding parse
parse_steps b f m ts h = sym (steps_from_lem b f (suc (3 * length ts + 2)) m ts (omega (arith, order_le m)) (omega (arith, order_le m)))

-- ---- the cursor goes ahead

module _ {ts : List Token} {t₀ t₁ e₀ e₁ : List ℕ} {l : ℕ} {c d : Cursor} where
  -- where fewer tokens are left
  pub ahead : {p : Parser} → length (p (drop c.token ts)).rest < length (drop c.token ts) → Did ts t₀ t₁ e₀ e₁ l c d p → c.token < d.token
  ahead h a = omega (arith, ap length a.wrote.rest, length-drop c.token ts, length-drop d.token ts, a.wrote.within)

  -- past a token that is seen
  pub bump_ahead : {test : List Token → Bool} → Sees test → test (drop c.token ts) ≡ true → Did ts t₀ t₁ e₀ e₁ l c d bump → c.token < d.token
  bump_ahead s e a = ahead (bump_less s _ e) a

  -- and past one that is there
  pub next_ahead : 0 < length (drop c.token ts) → Did ts t₀ t₁ e₀ e₁ l c d next → c.token < d.token
  unfolding next
  next_ahead h a = ahead (go (drop c.token ts) h) a
    where
      go : (us : List Token) → 0 < length us → length (next us).rest < length us
      go [] q = absurd (omega arith)
      go (u ∷ us) q = omega arith

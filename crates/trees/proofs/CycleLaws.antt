-- For the functions that call each other, and their loops: what one step of each does, and that a call takes a token. Assumes nothing.
use mathlib.Core.Path.{◌≡◌, ap, ◌∙◌}
use mathlib.Core.List.{List}
use mathlib.Core.Bool.{true, false, ◌&&◌}
use Prim.Native.Nat.{ℕ, ◌<◌}
use native.Mathlib.Omega.{arith}
use borrow.Author.Tests.{leb-true}
use lib.Dec.{leb}
use lib.ListN.{length, drop}
use Rattle.syntax.specs.Kind.{DOT, AND_KW, OR_KW, BINARY_EXPR}
use Rattle.syntax.proofs.BoolLaws.{both}
use Rattle.lexer.specs.Lex.{Token}
use Rattle.trees.specs.Look.{at_kind, has_binary_op_at_level}
use Rattle.trees.specs.Parse.{Parser, done, join, ◌▹◌, in_node, choose, eat_ws, bump, expect, predicate_args, no_args, no_method, parse_method, parse_dot_call, OrExpr, OrRest, AndExpr, AndRest, Atom, Calls, Mode, atom_here, step, parse}
use Rattle.trees.specs.Writing.{Did, NoOpsFrom}
use Rattle.trees.specs.declared.Cursor.{Cursor}
use Rattle.trees.specs.declared.Ops.{Ops}
use Rattle.trees.proofs.TreeLaws.{Keeps, keeping, keeps_bump, keeps_expect, keeps_parse}
use Rattle.trees.proofs.WritingLaws.{choose_true, choose_false}
use Rattle.trees.proofs.ParseLaws.{step_or_is, step_or_rest_is, step_and_is, step_and_rest_is, step_atom_is, step_calls_is}
use Rattle.trees.proofs.LookLaws.{none_ahead}
use Rattle.trees.proofs.StepLaws.{parse_step, short, ahead, expect_less}

-- a call takes its dot
keeps_method : Keeps (parse_method (parse OrExpr))
unfolding parse_method predicate_args no_args no_method
keeps_method = search (keeping, keeps_bump, keeps_expect, keeps_parse) depth 20

dot_less : (ts : List Token) → at_kind DOT ts ≡ true → length (parse_dot_call (parse OrExpr) ts).rest < length ts
unfolding parse_dot_call in_node ◌▹◌ join
dot_less ts e =
    omega (arith, expect_less DOT (λ q. omega arith) ts e, short keeps_method (expect DOT ts).rest)

pub dot_ahead : {ts : List Token} {t₀ t₁ e₀ e₁ : List ℕ} {l : ℕ} {c d : Cursor} → at_kind DOT (drop c.token ts) ≡ true
    → Did ts t₀ t₁ e₀ e₁ l c d (parse_dot_call (parse OrExpr)) → c.token < d.token
dot_ahead {ts} {c = c} e a = ahead (dot_less (drop c.token ts) e) a

-- ---- one step of each of the functions that call each other

by_step : (m : Mode) {p : Parser} → step parse m ≡ p → (ts : List Token) → parse m ts ≡ p ts
by_step m e ts = parse_step m ts ∙ ap (λ (p : Parser). p ts) e

-- where neither `and` nor `or` is left, an or_expr is an atom
pub alone : {ts : List Token} {o : Ops} (i : ℕ) → NoOpsFrom ts o → (leb o.ors i && leb o.ands i) ≡ true → parse OrExpr (drop i ts) ≡ parse Atom (drop i ts)
alone {ts} {o} i n y =
    let w = both (leb o.ors i) (leb o.ands i) y in
    by_step OrExpr step_or_is (drop i ts) ∙ choose_false _ _ _ (drop i ts) (none_ahead n.ors i (leb-true _ _ w.0))
    ∙ by_step AndExpr step_and_is (drop i ts) ∙ choose_false _ _ _ (drop i ts) (none_ahead n.ands i (leb-true _ _ w.1))

module _ (ts : List Token) where
  pub or_step : parse OrExpr ts ≡ choose (has_binary_op_at_level OR_KW) (in_node BINARY_EXPR (parse AndExpr ▹ parse OrRest)) (parse AndExpr) ts
  or_step = by_step OrExpr step_or_is ts

  pub and_step : parse AndExpr ts ≡ choose (has_binary_op_at_level AND_KW) (in_node BINARY_EXPR (parse Atom ▹ parse AndRest)) (parse Atom) ts
  and_step = by_step AndExpr step_and_is ts

  pub atom_step : parse Atom ts ≡ (eat_ws ▹ atom_here parse) ts
  atom_step = by_step Atom step_atom_is ts

  pub calls_step : parse Calls ts ≡ (eat_ws ▹ choose (at_kind DOT) (parse_dot_call (parse OrExpr) ▹ parse Calls) done) ts
  calls_step = by_step Calls step_calls_is ts

  -- the loops, where they go on and where they end
  pub or_more : at_kind OR_KW ts ≡ true → parse OrRest ts ≡ (bump ▹ parse AndExpr ▹ parse OrRest) ts
  or_more e = by_step OrRest step_or_rest_is ts ∙ choose_true _ _ _ ts e

  pub or_end : at_kind OR_KW ts ≡ false → parse OrRest ts ≡ done ts
  or_end e = by_step OrRest step_or_rest_is ts ∙ choose_false _ _ _ ts e

  pub and_more : at_kind AND_KW ts ≡ true → parse AndRest ts ≡ (bump ▹ parse Atom ▹ parse AndRest) ts
  and_more e = by_step AndRest step_and_rest_is ts ∙ choose_true _ _ _ ts e

  pub and_end : at_kind AND_KW ts ≡ false → parse AndRest ts ≡ done ts
  and_end e = by_step AndRest step_and_rest_is ts ∙ choose_false _ _ _ ts e

-- The tree of a rule has the rule's tokens, all of them and in order. Assumes nothing.
use mathlib.Core.Path.{◌≡◌, refl, sym, ap, ◌∙◌}
use mathlib.Core.List.{List, [], ◌∷◌, ◌++◌, append_assoc, append-nil}
use mathlib.Core.Bool.{Bool, true, false, cond}
use Prim.Native.Nat.{ℕ, zero, suc, ◌+◌, ◌*◌, ◌<◌}
use native.Mathlib.Omega.{arith}
use borrow.Author.Tests.{eqb-true}
use lib.Dec.{T, ltb, ltb→lt}
use lib.ListN.{length, drop}
use Rattle.syntax.specs.Kind.{ROOT, NONE}
use Rattle.syntax.proofs.BoolLaws.{whether}
use Rattle.lexer.specs.Lex.{Token, word_kind, kind_of, past, token, lex_from, lex}
use Rattle.lexer.specs.Bytes.{shape_of}
use Rattle.trees.specs.Look.{is_blank, skip_ws, head_kind, current_kind, at_kind}
use Rattle.trees.specs.Parse.{Parsed, Parser, done, next, fails, fails_ahead, join, ◌▹◌, in_node, choose, eat_ws, bump, expect, simple_atom, Mode, OrExpr, OrRest, AndExpr, AndRest, Atom, Calls, step, steps, parse, parse_pipeline_or_count_compare, remaining, left_over, parse_root, parse_expr}
use Rattle.trees.proofs.GreenLaws.{tokens_of, tokens_of-⊹}

-- x is what was read from ts: the tokens of its tree and those left are ts
pub record Kept (ts : List Token) (x : Parsed) : Type 0 where
  pub kept : tokens_of x.made ++ x.rest ≡ ts

-- p drops no token and adds none
pub record Keeps (p : Parser) : Type 0 where
  pub keeps : (ts : List Token) → Kept ts (p ts)

kept_join : {ts : List Token} {x y : Parsed} → Kept ts x → Kept x.rest y → Kept ts (join x y)
unfolding join
kept_join a b = record { kept = rw (tokens_of-⊹, append_assoc, b.kept) a.kept }

kept_test : {ts : List Token} {x y : Parsed} (t : Bool) → Kept ts x → Kept ts y → Kept ts (elim t [ true ↦ x | false ↦ y ])
kept_test true a b = a
kept_test false a b = b

module _ {p q : Parser} (a : Keeps p) (b : Keeps q) where
  pub keeps_then : Keeps (p ▹ q)
  unfolding ◌▹◌
  keeps_then = record { keeps = λ ts. kept_join (a.keeps ts) (b.keeps (p ts).rest) }

  pub keeps_choose : (test : List Token → Bool) → Keeps (choose test p q)
  unfolding choose
  keeps_choose test = record { keeps = λ ts. kept_test (test ts) (a.keeps ts) (b.keeps ts) }

pub keeps_node : {p : Parser} (k : ℕ) → Keeps p → Keeps (in_node k p)
unfolding in_node tokens_of
keeps_node k a = record { keeps = λ ts. record { kept = rw append-nil (a.keeps ts).kept } }

pub keeps_done : Keeps done
unfolding done tokens_of
keeps_done = record { keeps = λ ts. record { kept = refl } }

pub keeps_next : Keeps next
unfolding next tokens_of
keeps_next = record { keeps = elim [ [] ↦ record { kept = refl } | t ∷ ts ↦ record { kept = refl } ] }

pub keeps_fails : (form k : ℕ) → Keeps (fails form k)
unfolding fails tokens_of
keeps_fails form k = record { keeps = λ ts. record { kept = refl } }

pub keeps_fails_ahead : (form : ℕ) → Keeps (fails_ahead form)
unfolding fails_ahead tokens_of
keeps_fails_ahead form = record { keeps = λ ts. record { kept = refl } }

pub keeps_eat_ws : Keeps eat_ws
unfolding eat_ws tokens_of
keeps_eat_ws = record { keeps = go }
  where
    go : (ts : List Token) → Kept ts (eat_ws ts)
    go [] = record { kept = refl }
    go (t ∷ ts) = kept_test (is_blank t) (kept_join (keeps_next.keeps (t ∷ ts)) (go ts)) (record { kept = refl })

-- the laws by which a parser's keeping is found along its definition
pub ruleset keeping = (keeps_then, keeps_choose, keeps_node, keeps_done, keeps_next, keeps_fails, keeps_fails_ahead, keeps_eat_ws)

pub keeps_bump : Keeps bump
unfolding bump
keeps_bump = search keeping

pub keeps_expect : (k : ℕ) → Keeps (expect k)
unfolding expect
keeps_expect k = search keeping

pub keeps_simple : Keeps simple_atom
unfolding simple_atom
keeps_simple = search keeping depth 20

keeps_step : {g : Mode → Parser} → ((m : Mode) → Keeps (g m)) → (m : Mode) → Keeps (step g m)
unfolding step
keeps_step a OrExpr = search keeping
keeps_step a AndExpr = search keeping
keeps_step a OrRest = search keeping
keeps_step a AndRest = search keeping
keeps_step a Atom = search keeping depth 20
keeps_step a Calls = search keeping depth 20

pub keeps_steps : (n : ℕ) (m : Mode) → Keeps (steps n m)
unfolding steps
keeps_steps zero m = keeps_done
keeps_steps (suc n) m = keeps_step (keeps_steps n) m

pub keeps_parse : (m : Mode) → Keeps (parse m)
unfolding parse
keeps_parse m = record { keeps = λ ts. (keeps_steps (suc (3 * length ts + 2)) m).keeps ts }

pub keeps_compare : Keeps parse_pipeline_or_count_compare
unfolding parse_pipeline_or_count_compare
keeps_compare = search (keeping, keeps_parse) depth 20

keeps_remaining : Keeps remaining
unfolding remaining tokens_of
keeps_remaining = record { keeps = go }
  where
    go : (ts : List Token) → Kept ts (remaining ts)
    go [] = record { kept = refl }
    go (t ∷ ts) = kept_join (keeps_next.keeps (t ∷ ts)) (go ts)

keeps_root : Keeps parse_root
unfolding parse_root
keeps_root = search (keeping, keeps_compare, keeps_remaining) depth 20

-- ---- the kinds of tokens come before those of nodes, and so before the one that stands for no token

-- a test between two shapes of tokens, or between two kinds
module _ (w : List ℕ) where
  shape_cond : (t : Bool) (x y : _) → T (ltb (kind_of x w) ROOT) → T (ltb (kind_of y w) ROOT) → T (ltb (kind_of (cond t x y) w) ROOT)
  shape_cond true x y a b = a
  shape_cond false x y a b = b

kind_cond : (t : Bool) (k m : ℕ) → T (ltb k ROOT) → T (ltb m ROOT) → T (ltb (cond t k m) ROOT)
kind_cond true x y a b = a
kind_cond false x y a b = b

token_kind : (b : ℕ) (s : List ℕ) → T (ltb (token b s).kind ROOT)
unfolding token shape_of word_kind
token_kind b s = search (shape_cond, kind_cond, tt) depth 20

-- every token has a kind of tokens
unfoldable pub Kinds : List Token → Type 0
Kinds [] = Unit {0}
Kinds (t ∷ ts) = (t.kind < ROOT) × Kinds ts

kinds_from : (s : List ℕ) (n : ℕ) → Kinds (lex_from s n)
unfolding lex_from Kinds
kinds_from [] n = tt
kinds_from (b ∷ s) zero = (ltb→lt (token b s).kind ROOT (token_kind b s), kinds_from s (past b s))
kinds_from (b ∷ s) (suc n) = kinds_from s n

pub kinds_lex : (rule : List ℕ) → Kinds (lex rule)
unfolding lex
kinds_lex rule = kinds_from rule 0

-- so has each token further on
pub kinds_right : (xs ys : List Token) → Kinds (xs ++ ys) → Kinds ys
unfolding Kinds
kinds_right [] ys k = k
kinds_right (x ∷ xs) ys k = kinds_right xs ys k.1

pub kinds_drop : (i : ℕ) (ts : List Token) → Kinds ts → Kinds (drop i ts)
unfolding Kinds
kinds_drop zero ts k = k
kinds_drop (suc i) [] k = k
kinds_drop (suc i) (t ∷ ts) k = kinds_drop i ts k.1

pub kinds_skip : (ts : List Token) → Kinds ts → Kinds (skip_ws ts)
unfolding Kinds skip_ws
kinds_skip [] k = k
kinds_skip (t ∷ ts) k = whether (is_blank t) (λ e. rw (e, skip_ws) (kinds_skip ts k.1)) (λ e. rw (e, skip_ws) k)

-- ---- nothing is left

-- `eat_ws` leaves what the looks see
pub eat_rest : (ts : List Token) → (eat_ws ts).rest ≡ skip_ws ts
unfolding eat_ws skip_ws
eat_rest [] = refl
eat_rest (t ∷ ts) = whether (is_blank t) (λ e. rw (e, eat_ws, skip_ws) (eat_rest ts)) (λ e. rw (e, eat_ws, skip_ws))

pub skip_twice : (ts : List Token) → skip_ws (skip_ws ts) ≡ skip_ws ts
unfolding skip_ws
skip_twice [] = refl
skip_twice (t ∷ ts) = whether (is_blank t) (λ e. rw (e, skip_ws) (skip_twice ts)) (λ e. rw (e, skip_ws, e, skip_ws))

-- where no token is seen, blanks alone are left
pub skip_none : (ts : List Token) → Kinds ts → current_kind ts ≡ NONE → skip_ws ts ≡ []
unfolding skip_ws Kinds
skip_none [] k n = refl
skip_none (t ∷ ts) k n =
    let ih = skip_none ts k.1 in
    whether (is_blank t) (λ e. rw (e, skip_ws) (ih (rw (e, skip_ws) at n))) (λ e. let z : t.kind ≡ NONE = rw (e, skip_ws) at n in absurd (omega arith))

remaining_rest : (ts : List Token) → (remaining ts).rest ≡ []
unfolding remaining
remaining_rest [] = refl
remaining_rest (t ∷ ts) = remaining_rest ts

left_over_rest : (ts : List Token) → Kinds ts → (left_over (skip_ws ts)).rest ≡ []
unfolding left_over at_kind
left_over_rest ts k =
    whether (at_kind NONE (skip_ws ts))
    (λ e. rw (e, choose) (skip_none ts k (ap head_kind (sym (skip_twice ts)) ∙ eqb-true _ _ e)))
    (λ e. rw (e, choose) (remaining_rest (skip_ws ts)))

root_rest : (ts : List Token) → Kinds ts → (parse_root ts).rest ≡ []
unfolding parse_root
root_rest ts k =
    let us = (parse_pipeline_or_count_compare ts).rest in
    rw (eat_rest us) (left_over_rest us (kinds_right (tokens_of (parse_pipeline_or_count_compare ts).made) us (rw (keeps_compare.keeps ts).kept k)))

pub tree_tokens : (rule : List ℕ) → tokens_of (parse_expr rule).made ≡ lex rule
unfolding parse_expr
tree_tokens rule = rw (root_rest (lex rule) (kinds_lex rule), append-nil) at (keeps_root.keeps (lex rule)).kept

-- The rows of a rule's tree, read back, are its green tree. Assumes nothing.
use mathlib.Core.Path.{◌≡◌, refl, sym, ap, ◌∙◌}
use mathlib.Core.Bool.{Bool, true, false}
use mathlib.Core.List.{List, [], ◌∷◌, ◌++◌, append_assoc, append-nil}
use Prim.Native.Nat.{ℕ, zero, suc, ◌+◌, ◌*◌, ◌-◌, ◌<◌, ◌≤◌}
use native.Mathlib.Omega.{arith}
use lib.Dec.{T, leb, leb→le}
use lib.ListN.{length, take, drop, length-append}
use lib.Seq.{take_at, drop_at, drop-drop}
use Rattle.syntax.specs.Kind.{ROOT}
use Rattle.lexer.specs.Lex.{Token, lex}
use Rattle.lexer.specs.Tokens.{joined}
use Rattle.lexer.proofs.LexLaws.{lex_joined, joined_append}
use Rattle.trees.specs.Green.{Forest, nil, leaf, node, ◌⊹◌, span}
use Rattle.trees.proofs.GreenLaws.{tokens_of}
use Rattle.trees.specs.Parse.{Parsed, Parser, done, next, fails, fails_ahead, join, ◌▹◌, in_node, choose, eat_ws, Mode, OrExpr, OrRest, AndExpr, AndRest, Atom, Calls, step, steps, parse, parse_pipeline_or_count_compare, remaining, parse_root, parse_expr}
use Rattle.trees.specs.Look.{is_blank}
use Rattle.trees.specs.Rows.{tree_rows}
use Rattle.trees.proofs.TreeLaws.{Kinds, kinds_right, kinds_lex, tree_tokens}
use Rattle.syntax.specs.Text.{bytes_between}
use Rattle.predicate.specs.Rows.{forest}
use Rattle.predicate.proofs.ForestLaws.{place_below, place_past, place_token, place_child}

-- ---- the kinds of nodes are kinds of nodes

unfoldable Nodes : Forest → Type 0
Nodes nil = Unit {0}
Nodes (leaf t f) = Nodes f
Nodes (node k s f) = (ROOT ≤ k) × Nodes s × Nodes f

nodes-⊹ : (f g : Forest) → Nodes f → Nodes g → Nodes (f ⊹ g)
unfolding Nodes ◌⊹◌
nodes-⊹ nil g a b = b
nodes-⊹ (leaf t f) g a b = nodes-⊹ f g a b
nodes-⊹ (node k s f) g a b = (a.0, a.1, nodes-⊹ f g a.2 b)

-- p makes such nodes
record Made (x : Parsed) : Type 0 where
  nodes : Nodes x.made

record Makes (p : Parser) : Type 0 where
  makes : (ts : List Token) → Made (p ts)

makes_test : {x y : Parsed} (t : Bool) → Made x → Made y → Made (elim t [ true ↦ x | false ↦ y ])
makes_test true a b = a
makes_test false a b = b

made_join : {x y : Parsed} → Made x → Made y → Made (join x y)
unfolding join
made_join {x} {y} a b = record { nodes = nodes-⊹ x.made y.made a.nodes b.nodes }

module _ {p q : Parser} (a : Makes p) (b : Makes q) where
  makes_then : Makes (p ▹ q)
  unfolding ◌▹◌
  makes_then = record { makes = λ ts. made_join (a.makes ts) (b.makes (p ts).rest) }

  makes_choose : (test : List Token → Bool) → Makes (choose test p q)
  unfolding choose
  makes_choose test = record { makes = λ ts. makes_test (test ts) (a.makes ts) (b.makes ts) }

makes_node : {p : Parser} (k : ℕ) → T (leb ROOT k) → Makes p → Makes (in_node k p)
unfolding in_node Nodes
makes_node k h a = record { makes = λ ts. record { nodes = (leb→le ROOT k h, (a.makes ts).nodes, tt) } }

makes_done : Makes done
unfolding done Nodes
makes_done = record { makes = λ ts. record { nodes = tt } }

makes_next : Makes next
unfolding next Nodes
makes_next = record { makes = elim [ [] ↦ record { nodes = tt } | t ∷ ts ↦ record { nodes = tt } ] }

makes_fails : (form k : ℕ) → Makes (fails form k)
unfolding fails Nodes
makes_fails form k = record { makes = λ ts. record { nodes = tt } }

makes_fails_ahead : (form : ℕ) → Makes (fails_ahead form)
unfolding fails_ahead Nodes
makes_fails_ahead form = record { makes = λ ts. record { nodes = tt } }

makes_eat_ws : Makes eat_ws
unfolding eat_ws Nodes
makes_eat_ws = record { makes = go }
  where
    go : (ts : List Token) → Made (eat_ws ts)
    go [] = record { nodes = tt }
    go (t ∷ ts) = makes_test (is_blank t) (made_join (makes_next.makes (t ∷ ts)) (go ts)) (record { nodes = tt })

makes_remaining : Makes remaining
unfolding remaining Nodes
makes_remaining = record { makes = go }
  where
    go : (ts : List Token) → Made (remaining ts)
    go [] = record { nodes = tt }
    go (t ∷ ts) = made_join (makes_next.makes (t ∷ ts)) (go ts)

-- the laws by which this is found along a parser's definition
ruleset making = (makes_then, makes_choose, makes_node, makes_done, makes_next, makes_fails, makes_fails_ahead, makes_eat_ws, tt)

makes_step : {g : Mode → Parser} → ((m : Mode) → Makes (g m)) → (m : Mode) → Makes (step g m)
unfolding step
makes_step a OrExpr = search making
makes_step a AndExpr = search making
makes_step a OrRest = search making
makes_step a AndRest = search making
makes_step a Atom = search making depth 30
makes_step a Calls = search making depth 30

makes_steps : (n : ℕ) (m : Mode) → Makes (steps n m)
unfolding steps
makes_steps zero m = makes_done
makes_steps (suc n) m = makes_step (makes_steps n) m

makes_parse : (m : Mode) → Makes (parse m)
unfolding parse
makes_parse m = record { makes = λ ts. (makes_steps (suc (3 * length ts + 2)) m).makes ts }

makes_root : Makes parse_root
unfolding parse_root parse_pipeline_or_count_compare
makes_root = search (making, makes_parse, makes_remaining) depth 30

-- ---- rows read back

-- rows that are past a forest at a level or below it
abbrev Past : ℕ → List ℕ → Type 0
Past level rows = (rule : List ℕ) (m : ℕ) → level ≤ m → forest rule m rows ≡ nil

-- rows below a forest's level are passed over
over : (rule : List ℕ) (level m at : ℕ) (f : Forest) (more : List ℕ) → level < m → forest rule level (tree_rows m at f ++ more) ≡ forest rule level more
unfolding forest tree_rows
over rule level m at nil more h = refl
over rule level m at (leaf t f) more h = rw (place_below level t.kind m h) (over rule level m (at + length t.text) f more h)
over rule level m at (node k s f) more h =
    rw (place_below level k m h, append_assoc, over rule level (m + 1) at s (tree_rows m (at + span s) f ++ more) (omega arith))
    (over rule level m (at + span s) f more h)

-- rows at a level are past a forest one level below
past_rows : (level at : ℕ) (f : Forest) (more : List ℕ) → Past level more → Past (level + 1) (tree_rows level at f ++ more)
unfolding forest tree_rows
past_rows level at nil more h rule m l = h rule m (omega arith)
past_rows level at (leaf t f) more h rule m l = rw (place_past m t.kind level (omega arith))
past_rows level at (node k s f) more h rule m l = rw (place_past m k level (omega arith))

span_joined : (f : Forest) → span f ≡ length (joined (tokens_of f))
unfolding span tokens_of joined
span_joined nil = refl
span_joined (leaf t f) = omega (arith, span_joined f, length-append t.text (joined (tokens_of f)))
span_joined (node k s f) =
    omega (arith, span_joined s, span_joined f, ap length (joined_append (tokens_of s) (tokens_of f)), length-append (joined (tokens_of s)) (joined (tokens_of f)))

-- the bytes past a text that stands at a place
past_text : (rule : List ℕ) (at n : ℕ) (w tail : List ℕ) → drop at rule ≡ w ++ tail → n ≡ length w → drop (at + n) rule ≡ tail
past_text rule at n w tail e h = sym (drop-drop n at rule) ∙ ap (drop n) e ∙ drop_at w tail n (sym h)

kinds_left : (xs ys : List Token) → Kinds (xs ++ ys) → Kinds xs
unfolding Kinds
kinds_left [] ys k = tt
kinds_left (x ∷ xs) ys k = (k.0, kinds_left xs ys k.1)

-- a forest's rows, at a place where its text stands in the rule
rows_back : (rule : List ℕ) (level at : ℕ) (f : Forest) (more tail : List ℕ) → Nodes f → Kinds (tokens_of f) → Past level more → drop at rule ≡ joined (tokens_of f) ++ tail → forest rule level (tree_rows level at f ++ more) ≡ f
unfolding forest tree_rows Nodes Kinds tokens_of joined
rows_back rule level at nil more tail n k h e = h rule level (omega arith)
rows_back rule level at (leaf t f) more tail n k h e =
    let here : drop at rule ≡ t.text ++ (joined (tokens_of f) ++ tail) = e ∙ append_assoc t.text (joined (tokens_of f)) tail in
    let text : bytes_between rule at (at + length t.text) ≡ t.text =
    ap (take ((at + length t.text) - at)) here ∙ take_at t.text (joined (tokens_of f) ++ tail) ((at + length t.text) - at) (omega arith)
    in
    let after = past_text rule at (length t.text) t.text (joined (tokens_of f) ++ tail) here refl in
    rw (place_token level t.kind level refl k.0, text) (ap (leaf t) (rows_back rule level (at + length t.text) f more tail n k.1 h after))
rows_back rule level at (node k s f) more tail n q h e =
    let rows : List ℕ = tree_rows level (at + span s) f ++ more in
    let here : drop at rule ≡ joined (tokens_of s) ++ (joined (tokens_of f) ++ tail) =
    e ∙ ap (λ (w : List ℕ). w ++ tail) (joined_append (tokens_of s) (tokens_of f)) ∙ append_assoc (joined (tokens_of s)) (joined (tokens_of f)) tail
    in
    let after = past_text rule at (span s) (joined (tokens_of s)) (joined (tokens_of f) ++ tail) here (span_joined s) in
    rw (
      place_child level k level refl n.0,
      append_assoc (tree_rows (level + 1) at s) (tree_rows level (at + span s) f) more,
      rows_back rule (level + 1) at s rows (joined (tokens_of f) ++ tail) n.1 (kinds_left (tokens_of s) (tokens_of f) q) (past_rows level (at + span s) f more h) here,
      over rule level (level + 1) at s rows (omega arith),
      rows_back rule level (at + span s) f more tail n.2 (kinds_right (tokens_of s) (tokens_of f) q) h after,
    )

-- THE ROWS OF A RULE'S TREE ARE ITS TREE
pub read_back : (rule : List ℕ) → forest rule 0 (tree_rows 0 0 (parse_expr rule).made) ≡ (parse_expr rule).made
unfolding parse_expr forest
read_back rule =
    let f = (parse_expr rule).made in
    let kinds : Kinds (tokens_of f) = rw (tree_tokens rule) (kinds_lex rule) in
    let text : rule ≡ joined (tokens_of f) ++ [] = sym (append-nil (joined (tokens_of f)) ∙ ap joined (tree_tokens rule) ∙ lex_joined rule) in
    ap (forest rule 0) (sym (append-nil (tree_rows 0 0 f)))
    ∙ rows_back rule 0 0 f [] [] (makes_root.makes (lex rule)).nodes kinds (λ rule m l. refl) text

-- Blanks never matter to the parser: without them it does the same, without them. By its combinators. Assumes nothing.
use mathlib.Core.Path.{◌≡◌, refl, sym, ap, ◌∙◌}
use mathlib.Core.Logic.{◌↔◌}
use mathlib.Core.List.{List, [], ◌∷◌, ◌++◌}
use mathlib.Core.Bool.{Bool, true, false, ◌&&◌, ◌||◌}
use Prim.Native.Nat.{ℕ, zero, suc, ◌+◌, ◌*◌, ◌-◌, ◌≤◌}
use native.Mathlib.Omega.{arith}
use lib.Dec.{eqb}
use lib.ListN.{length}
use Rattle.syntax.specs.Kind.{L_PAREN, R_PAREN, NONE}
use Rattle.syntax.specs.Text.{ascii}
use Rattle.syntax.proofs.BoolLaws.{whether}
use Rattle.lexer.specs.Lex.{Token}
use Rattle.trees.specs.Green.{Forest, nil, leaf, node, ◌⊹◌}
use Rattle.trees.specs.Look.{is_blank, skip_ws, head_kind, head_text, tail_of, at_kind, at_text, at_ident, peek_kind, at_message_dot, at_field, at_predicate_method, at_plain_method, ends_in_comparison, has_count_compare_ahead, op_ahead, has_binary_op_at_level}
use Rattle.trees.specs.Parse.{Error, Parsed, Parser, done, next, fails, fails_ahead, join, ◌▹◌, in_node, choose, eat_ws, bump, next_is, expect, next_is_ident, expect_ident, Mode, OrExpr, OrRest, AndExpr, AndRest, Atom, Calls, step, parse, parse_pipeline, remaining, parse_root}
use Rattle.trees.proofs.TreeLaws.{eat_rest}
use Rattle.trees.proofs.StepLaws.{steps_from, parse_steps}
use Rattle.grammar.specs.Grammar.{solid}
use Rattle.grammar.specs.Blanks.{no_blanks, solid_errors, strip}

-- ---- tokens that are no blanks

pub solid_append : (xs ys : List Token) → solid (xs ++ ys) ≡ solid xs ++ solid ys
unfolding solid
solid_append [] ys = refl
solid_append (x ∷ xs) ys = whether (is_blank x) (λ e. rw (e, solid, solid_append xs ys)) (λ e. rw (e, solid, solid_append xs ys))

solid_length : (ts : List Token) → length (solid ts) ≤ length ts
unfolding solid
solid_length [] = omega arith
solid_length (t ∷ ts) =
    whether (is_blank t) (λ e. rw (e, solid) (omega (arith, solid_length ts))) (λ e. rw (e, solid) (omega (arith, solid_length ts)))

-- a look at the tokens without blanks is another at the tokens past blanks, if they see the same at a first token that is no blank
module _ {A : Type 0} (look other : List Token → A) (none : look [] ≡ other [])
    (same : (t : Token) (ts : List Token) → is_blank t ≡ false → look (t ∷ solid ts) ≡ other (t ∷ ts)) where
  look_solid : (ts : List Token) → look (solid ts) ≡ other (skip_ws ts)
  unfolding solid skip_ws
  look_solid [] = none
  look_solid (t ∷ ts) = whether (is_blank t) (λ e. rw (e, solid, skip_ws) (look_solid ts)) (λ e. rw (e, solid, skip_ws) (same t ts e))

pub solid_skip : (ts : List Token) → solid (skip_ws ts) ≡ solid ts
unfolding solid
solid_skip ts = sym (look_solid (λ us. us) solid refl (λ t us e. rw (e, solid)) ts)

skip_solid : (ts : List Token) → skip_ws (solid ts) ≡ solid ts
unfolding solid skip_ws
skip_solid ts = look_solid skip_ws solid refl (λ t us e. rw (e, skip_ws, solid)) ts ∙ solid_skip ts

eat_solid : (ts : List Token) → eat_ws (solid ts) ≡ done (solid ts)
unfolding solid eat_ws done
eat_solid ts = look_solid eat_ws (λ us. done (solid us)) refl (λ t us e. rw (e, eat_ws, solid)) ts ∙ ap done (solid_skip ts)

kind_solid : (ts : List Token) → head_kind (solid ts) ≡ head_kind (skip_ws ts)
kind_solid = look_solid head_kind head_kind refl (λ t ts e. refl)

text_solid : (ts : List Token) → head_text (solid ts) ≡ head_text (skip_ws ts)
text_solid = look_solid head_text head_text refl (λ t ts e. refl)

tail_solid : (ts : List Token) → tail_of (solid ts) ≡ solid (tail_of (skip_ws ts))
unfolding solid
tail_solid = look_solid tail_of (λ us. solid (tail_of us)) refl (λ t ts e. refl)

-- ---- looks

-- a look that sees the same without blanks
record Even (test : List Token → Bool) : Type 0 where
  even : (ts : List Token) → test (solid ts) ≡ test ts

even_kind : (k : ℕ) → Even (at_kind k)
unfolding at_kind
even_kind k = record { even = λ ts. rw (skip_solid ts, kind_solid ts) }

even_text : (w : List ℕ) → Even (at_text w)
unfolding at_text
even_text w = record { even = λ ts. rw (skip_solid ts, text_solid ts) }

even_ident : (w : List ℕ) → Even (at_ident w)
unfolding at_ident
even_ident w = record { even = λ ts. rw (skip_solid ts, kind_solid ts, text_solid ts) }

peek_solid : (ts : List Token) → peek_kind (solid ts) ≡ peek_kind ts
unfolding peek_kind
peek_solid ts = rw (skip_solid ts, tail_solid ts, skip_solid (tail_of (skip_ws ts))) (kind_solid (tail_of (skip_ws ts)))

even_message : Even at_message_dot
unfolding at_message_dot
even_message = record { even = λ ts. rw ((even_ident (ascii "message")).even ts, peek_solid ts) }

-- one look or the other
even_either : {test other : List Token → Bool} → Even test → Even other → Even (λ ts. test ts || other ts)
even_either a b = record { even = λ ts. rw (a.even ts, b.even ts) }

even_field : Even at_field
unfolding at_field
even_field =
    even_either (even_ident (ascii "category"))
    (even_either (even_ident (ascii "kind"))
    (even_either (even_ident (ascii "direction")) (even_either (even_ident (ascii "severity")) (even_ident (ascii "message")))))

even_predicate : Even at_predicate_method
unfolding at_predicate_method
even_predicate =
    even_either (even_text (ascii "where")) (even_either (even_text (ascii "all")) (even_either (even_text (ascii "any")) (even_text (ascii "none"))))

even_plain : Even at_plain_method
unfolding at_plain_method
even_plain = even_either (even_text (ascii "features")) (even_text (ascii "diagnostics"))

ends_solid : (second last : ℕ) (ts : List Token) → ends_in_comparison second last (solid ts) ≡ ends_in_comparison second last ts
unfolding ends_in_comparison solid
ends_solid second last [] = refl
ends_solid second last (t ∷ ts) =
    whether (is_blank t) (λ e. rw (e, solid, ends_in_comparison) (ends_solid second last ts))
    (λ e. rw (e, solid, ends_in_comparison, e, ends_in_comparison) (ends_solid last t.kind ts))

even_compare : Even has_count_compare_ahead
unfolding has_count_compare_ahead
even_compare = record { even = ends_solid NONE NONE }

-- a choice between two that are each the same
either : {A : Type 0} (t : Bool) {a b c d : A} → a ≡ c → b ≡ d → ◌≡◌ {A = A} (elim t [ true ↦ a | false ↦ b ]) (elim t [ true ↦ c | false ↦ d ])
either true p q = p
either false p q = q

op_solid : (op depth : ℕ) (found : Bool) (ts : List Token) → op_ahead op depth found (solid ts) ≡ op_ahead op depth found ts
unfolding op_ahead solid
op_solid op depth found [] = refl
op_solid op depth found (t ∷ ts) =
    whether (is_blank t) (λ e. rw (e, solid, op_ahead) (op_solid op depth found ts))
    (λ e. rw (e, solid, op_ahead, e, op_ahead)
    (either (eqb t.kind L_PAREN) (op_solid op (depth + 1) true ts)
    (either (eqb t.kind R_PAREN) (either (eqb depth 0) refl (op_solid op (depth - 1) found ts))
    (either (eqb t.kind op && (eqb depth 0 && found)) refl (op_solid op depth true ts)))))

even_op : (op : ℕ) → Even (has_binary_op_at_level op)
unfolding has_binary_op_at_level
even_op op = record { even = op_solid op 0 false }

-- ---- what a parser does

no_blanks-⊹ : (f g : Forest) → no_blanks (f ⊹ g) ≡ no_blanks f ⊹ no_blanks g
unfolding no_blanks ◌⊹◌
no_blanks-⊹ nil g = refl
no_blanks-⊹ (leaf t f) g = whether (is_blank t) (λ e. rw (e, no_blanks, no_blanks-⊹ f g)) (λ e. rw (e, no_blanks, no_blanks-⊹ f g))
no_blanks-⊹ (node k s f) g = rw (no_blanks-⊹ f g)

errors_append : (es fs : List Error) → solid_errors (es ++ fs) ≡ solid_errors es ++ solid_errors fs
unfolding solid_errors
errors_append [] fs = refl
errors_append (e ∷ es) fs = rw (errors_append es fs)

strip_join : (x y : Parsed) → strip (join x y) ≡ join (strip x) (strip y)
unfolding strip join
strip_join x y = rw (no_blanks-⊹ x.made y.made, errors_append x.errors y.errors)

-- p does the same without blanks
record Blind (p : Parser) : Type 0 where
  blind : (ts : List Token) → p (solid ts) ≡ strip (p ts)

-- p does so at a token that is no blank
record Ahead (p : Parser) : Type 0 where
  ahead : (ts : List Token) → p (solid ts) ≡ strip (p (skip_ws ts))

blind_then : {p q : Parser} → Blind p → Blind q → Blind (p ▹ q)
unfolding ◌▹◌ strip
blind_then {p} {q} a b =
    record { blind = λ ts. rw (a.blind ts, b.blind (p ts).rest) (sym (strip_join (p ts) (q (p ts).rest))) }

-- two tests that agree choose between the same
choice : {t u : Bool} {x' y' : Parsed} (x y : Parsed) → t ≡ u → x' ≡ strip x → y' ≡ strip y
    → ◌≡◌ {A = Parsed} (elim t [ true ↦ x' | false ↦ y' ]) (strip (elim u [ true ↦ x | false ↦ y ]))
choice {t} {u} {x'} {y'} x y e p q = rw e (go u)
  where
    go : (u : Bool) → ◌≡◌ {A = Parsed} (elim u [ true ↦ x' | false ↦ y' ]) (strip (elim u [ true ↦ x | false ↦ y ]))
    go true = p
    go false = q

blind_choose : {test : List Token → Bool} {p q : Parser} → Even test → Blind p → Blind q → Blind (choose test p q)
unfolding choose
blind_choose {p = p} {q} e a b = record { blind = λ ts. choice (p ts) (q ts) (e.even ts) (a.blind ts) (b.blind ts) }

blind_node : {p : Parser} (k : ℕ) → Blind p → Blind (in_node k p)
unfolding in_node strip no_blanks
blind_node k a = record { blind = λ ts. rw (a.blind ts) }

blind_done : Blind done
unfolding done strip no_blanks solid_errors
blind_done = record { blind = λ ts. refl }

blind_fails : (form k : ℕ) → Blind (fails form k)
unfolding fails strip no_blanks solid_errors
blind_fails form k = record { blind = λ ts. refl }

blind_fails_ahead : (form : ℕ) → Blind (fails_ahead form)
unfolding fails_ahead strip no_blanks solid_errors
blind_fails_ahead form = record { blind = λ ts. rw (skip_solid ts, solid_skip ts) }

eat_strip : (ts : List Token) → strip (eat_ws ts) ≡ done (solid ts)
unfolding eat_ws strip no_blanks solid_errors solid done join next
eat_strip [] = refl
eat_strip (t ∷ ts) =
    whether (is_blank t) (λ e. rw (e, eat_ws, e, no_blanks, solid) (eat_strip ts)) (λ e. rw (e, eat_ws, e, solid))

-- past blanks
blind_eat : Blind eat_ws
blind_eat = record { blind = λ ts. rw (eat_strip ts) (eat_solid ts) }

blind_past : {p : Parser} → Ahead p → Blind (eat_ws ▹ p)
unfolding ◌▹◌ join done ◌⊹◌
blind_past {p} a =
    record {
      blind = λ ts. rw (eat_solid ts, eat_rest ts, strip_join (eat_ws ts) (p (skip_ws ts)), eat_strip ts) (a.ahead ts);
    }

ahead_choose : {p q : Parser} (test : List Token → Bool) → ((ts : List Token) → test (solid ts) ≡ test (skip_ws ts)) → Ahead p → Ahead q
    → Ahead (choose test p q)
unfolding choose
ahead_choose {p} {q} test e a b = record { ahead = λ ts. choice (p (skip_ws ts)) (q (skip_ws ts)) (e ts) (a.ahead ts) (b.ahead ts) }

ahead_next : Ahead next
unfolding next strip no_blanks solid_errors solid skip_ws
ahead_next = record { ahead = look_solid next (λ us. strip (next us)) refl (λ t us e. rw (e, no_blanks)) }

ahead_fails : (form k : ℕ) → Ahead (fails form k)
unfolding fails strip no_blanks solid_errors
ahead_fails form k = record { ahead = λ ts. rw (solid_skip ts) }

blind_bump : Blind bump
unfolding bump
blind_bump = blind_past ahead_next

blind_expect : (k : ℕ) → Blind (expect k)
unfolding expect next_is
blind_expect k = blind_past (ahead_choose (next_is k) (look_solid (next_is k) (next_is k) refl (λ t ts e. refl)) ahead_next (ahead_fails _ k))

blind_expect_ident : (w : List ℕ) → Blind (expect_ident w)
unfolding expect_ident next_is_ident
blind_expect_ident w = blind_past (ahead_choose (next_is_ident w) (look_solid (next_is_ident w) (next_is_ident w) refl (λ t ts e. refl)) ahead_next (ahead_fails _ 0))

-- all tokens left
blind_remaining : Blind remaining
unfolding remaining strip no_blanks solid_errors solid join next
blind_remaining = record { blind = go }
  where
    go : (ts : List Token) → remaining (solid ts) ≡ strip (remaining ts)
    go [] = refl
    go (t ∷ ts) = whether (is_blank t) (λ e. rw (e, solid, no_blanks, go ts)) (λ e. rw (e, solid, no_blanks, go ts))

-- the laws by which this is found along a parser's definition
ruleset evenly = (even_kind, even_text, even_ident, even_message, even_field, even_predicate, even_plain, even_compare, even_op)

ruleset blindly = (blind_then, blind_choose, blind_node, blind_done, blind_fails, blind_fails_ahead, blind_eat, blind_bump, blind_expect, blind_expect_ident, evenly)

blind_step : {g : Mode → Parser} → ((m : Mode) → Blind (g m)) → (m : Mode) → Blind (step g m)
unfolding step
blind_step a OrExpr = search blindly
blind_step a OrRest = search blindly
blind_step a AndExpr = search blindly
blind_step a AndRest = search blindly
blind_step a Atom = search blindly depth 20
blind_step a Calls = search blindly depth 20

blind_steps : (n : ℕ) (m : Mode) → Blind (steps_from (λ o. done) n m)
unfolding steps_from
blind_steps zero m = blind_done
blind_steps (suc n) m = blind_step (blind_steps n) m

pub parse_solid : (m : Mode) (ts : List Token) → parse m (solid ts) ≡ strip (parse m ts)
parse_solid m ts =
    let n = suc (3 * length ts + 2) in
    rw (parse_steps (λ o. done) n m (solid ts) (omega (arith, solid_length ts)), parse_steps (λ o. done) n m ts (omega arith)) ((blind_steps n m).blind ts)

blind_parse : (m : Mode) → Blind (parse m)
blind_parse m = record { blind = parse_solid m }

blind_pipeline : Blind parse_pipeline
unfolding parse_pipeline
blind_pipeline = search (blindly, blind_parse) depth 20

pub pipeline_solid : (ts : List Token) → parse_pipeline (solid ts) ≡ strip (parse_pipeline ts)
pipeline_solid = blind_pipeline.blind

blind_root : Blind parse_root
unfolding parse_root
blind_root = search (blindly, blind_remaining, blind_pipeline) depth 20

pub root_solid : (ts : List Token) → parse_root (solid ts) ≡ strip (parse_root ts)
root_solid = blind_root.blind

-- no errors with blanks are no errors without them
pub strip_errors : (x : Parsed) → (strip x).errors ≡ [] ↔ x.errors ≡ []
unfolding strip solid_errors
strip_errors x = (λ e. go x.errors e, λ e. rw e)
  where
    go : (es : List Error) → solid_errors es ≡ [] → es ≡ []
    go [] e = refl
    go (f ∷ es) e = cc

-- What the parser reads with no error is of the grammar: a predicate read whole, and a pipeline. By languages of tokens, along the parser's
-- combinators. Assumes nothing.
use mathlib.Core.Path.{◌≡◌, refl, sym, ap, ◌∙◌, subst}
use mathlib.Core.List.{List, [], ◌∷◌, ◌++◌, append_assoc, append-nil, cons≢nil}
use mathlib.Core.Bool.{Bool, true, false, ◌&&◌, false≢true}
use Prim.Native.Nat.{ℕ, zero, suc, ◌+◌, ◌*◌}
use Prim.Native.String.{String}
use native.Mathlib.Omega.{arith}
use borrow.Author.Tests.{eqb-true}
use lib.Dec.{T, eqb}
use lib.ListN.{length}
use Rattle.syntax.specs.Kind.{IDENT, STRING_LIT, DOT, L_PAREN, R_PAREN, EQ_EQ, AND_KW, OR_KW, NOT_KW, NONE, LITERAL, PIPELINE_EXPR, DOT_CALL, CALL_ARGS, BINARY_EXPR, UNARY_EXPR, COMPARE_EXPR, CALL_EXPR, PAREN_EXPR, IDENT_EXPR, CONTAINS_EXPR}
use Rattle.syntax.specs.Form.{EXPECT, EXPECT_IDENT, SOURCE, ATOM}
use Rattle.syntax.specs.Text.{ascii, same}
use Rattle.syntax.proofs.BoolLaws.{whether, true→T, T→true, and_left, and_right}
use Rattle.syntax.proofs.TextLaws.{same_eq}
use Rattle.lexer.specs.Lex.{Token, lex}
use Rattle.lexer.specs.Tokens.{is_closed, closed}
use Rattle.lexer.proofs.LexLaws.{closed_append}
use Rattle.trees.specs.Green.{nil}
use Rattle.trees.specs.Look.{is_blank, skip_ws, peek_kind, at_kind, at_text, at_ident, at_message_dot, at_field, at_predicate_method, at_plain_method, has_binary_op_at_level}
use Rattle.trees.specs.Parse.{Error, Parsed, Parser, done, next, next_is, next_is_ident, fails, fails_ahead, join, ◌▹◌, in_node, choose, eat_ws, bump, expect, expect_ident, literal, call_expr, ident_expr, contains_expr, compare_expr, simple_atom, no_method, parse_method, parse_dot_call, Mode, OrExpr, OrRest, AndExpr, AndRest, Atom as AtomMode, Calls, step, parse, parse_source, parse_pipeline}
use Rattle.trees.proofs.ParseLaws.{parse_pipeline_is}
use Rattle.trees.proofs.StepLaws.{always, parse_step, steps_from, parse_steps}
use Rattle.grammar.specs.Grammar.{solid, word, dot, opening, closing, equals, and_word, or_word, not_word, Field, category, kind, direction, severity, message, field_word, Part, OrGroup, AndGroup, Atom, Predicate, last_group, or_then, last_atom, and_then, negated, bracketed, has_text, is_connected, message_has, field_is, tokens_of, ReadWhole, Source, components, analysis, Call, count_call, features_call, diagnostics_call, source_tokens, call_tokens, calls_tokens, ReadPipeline}
use Rattle.grammar.specs.Blanks.{strip}
use Rattle.grammar.specs.Trees.{predicate_tree, read, pipeline_then}
use Rattle.grammar.specs.Texts.{Method, where_method, all_method, any_method, none_method, method_name}
use Rattle.grammar.proofs.BlankLaws.{parse_solid, pipeline_solid, strip_errors}
use Rattle.grammar.proofs.ReadLaws.{ended, predicate_read, pipeline_read}
use Rattle.grammar.proofs.TextLaws.{closed_solid, method_call, method_tokens}
use Rattle.grammar.proofs.TokenLaws.{nil_both, kind_from, right_text, Content, Real, Lexed, none, some, lexed_right, lexed_closed, lexed_lex}

-- ---- languages of tokens

-- one token; nothing; one after the other
data One (t : Token) : List Token → Type 0 where
  one : One t (t ∷ [])

data Nothing : List Token → Type 0 where
  nothing : Nothing []

infixl 60 ◌·◌
data ◌·◌ (L M : List Token → Type 0) : List Token → Type 0 where
  seq : {xs ys : List Token} → L xs → M ys → (L · M) (xs ++ ys)

-- a string, of which the content is known once it is closed
abbrev Stringy : Token → Type 0
Stringy s = T (is_closed s) → Content s

data Text : List Token → Type 0 where
  text : (s : Token) → Stringy s → Text (s ∷ [])

-- x took tokens of this language from ts
record Ate (L : List Token → Type 0) (ts : List Token) (x : Parsed) : Type 0 where
  taken : List Token
  good : L taken
  split : ts ≡ taken ++ x.rest

-- where the test passes and p reports no error it takes tokens of this language
record Eats (test : List Token → Bool) (p : Parser) (L : List Token → Type 0) : Type 0 where
  eats : (ts : List Token) → Lexed ts → test ts ≡ true → (p ts).errors ≡ [] → Ate L ts (p ts)

-- ---- along the combinators

infixl 60 ◌then◌
◌then◌ : {test : List Token → Bool} {p q : Parser} {L M : List Token → Type 0} → Eats test p L → Eats always q M → Eats test (p ▹ q) (L · M)
unfolding ◌▹◌ join
◌then◌ {p = p} {q} a b =
    record {
      eats = λ ts l t e.
          let n = nil_both (p ts).errors (q (p ts).rest).errors e in
          let x = a.eats ts l t n.0 in
          let y = b.eats (p ts).rest (lexed_right x.taken (p ts).rest (subst Lexed x.split l)) refl n.1 in
          record {
            taken = x.taken ++ y.taken;
            good = seq x.good y.good;
            split = x.split ∙ ap (λ (us : List Token). x.taken ++ us) y.split ∙ sym (append_assoc x.taken y.taken (q (p ts).rest).rest);
          };
    }

choice : {L : List Token → Type 0} {ts : List Token} (t : Bool) (x y : Parsed)
    → (t ≡ true → x.errors ≡ [] → Ate L ts x) → (y.errors ≡ [] → Ate L ts y)
    → (let z : Parsed = elim t [ true ↦ x | false ↦ y ] in z.errors ≡ [] → Ate L ts z)
choice true x y a b e = a refl e
choice false x y a b e = b e

eats_choose : {test : List Token → Bool} {p q : Parser} {L : List Token → Type 0} → Eats test p L → Eats always q L → Eats always (choose test p q) L
unfolding choose
eats_choose {test} {p} {q} a b = record { eats = λ ts l t e. choice (test ts) (p ts) (q ts) (λ s n. a.eats ts l s n) (λ n. b.eats ts l refl n) e }

eats_node : {test : List Token → Bool} {p : Parser} {L : List Token → Type 0} (k : ℕ) → Eats test p L → Eats test (in_node k p) L
unfolding in_node
eats_node k a = record { eats = λ ts l t e. let x = a.eats ts l t e in record { taken = x.taken; good = x.good; split = x.split } }

-- of a larger language, and where another test passes
eats_as : {test : List Token → Bool} {p : Parser} {L M : List Token → Type 0} → ((xs : List Token) → L xs → M xs) → Eats test p L → Eats test p M
eats_as f a = record { eats = λ ts l t e. let x = a.eats ts l t e in record { taken = x.taken; good = f x.taken x.good; split = x.split } }

eats_if : {test other : List Token → Bool} {p : Parser} {L : List Token → Type 0}
    → ((ts : List Token) → test ts ≡ true → other ts ≡ true) → Eats other p L → Eats test p L
eats_if f a = record { eats = λ ts l t e. a.eats ts l (f ts t) e }

any : {p : Parser} {L : List Token → Type 0} (test : List Token → Bool) → Eats always p L → Eats test p L
any test a = record { eats = λ ts l t e. a.eats ts l refl e }

-- what takes nothing, and what always reports an error
eats_done : Eats always done Nothing
unfolding done
eats_done = record { eats = λ ts l t e. record { taken = []; good = nothing; split = refl } }

eats_blanks : Eats always eat_ws Nothing
unfolding eat_ws
eats_blanks = record { eats = go }
  where
    go : (ts : List Token) → Lexed ts → always ts ≡ true → (eat_ws ts).errors ≡ [] → Ate Nothing ts (eat_ws ts)
    go [] none t e = record { taken = []; good = nothing; split = refl }
    go (u ∷ us) (some r b c l) t e = record { taken = []; good = nothing; split = rw (b, eat_ws) }

eats_fails : {L : List Token → Type 0} (form k : ℕ) → Eats always (fails form k) L
unfolding fails
eats_fails form k = record { eats = λ ts l t e. absurd (cons≢nil e) }

eats_fails_ahead : {L : List Token → Type 0} (form : ℕ) → Eats always (fails_ahead form) L
unfolding fails_ahead
eats_fails_ahead form = record { eats = λ ts l t e. absurd (cons≢nil e) }

-- ---- tokens

-- two tokens of one kind and text
token_eq : {t u : Token} → t.kind ≡ u.kind → t.text ≡ u.text → t ≡ u
token_eq p q = λ i. record { kind = p i; text = q i }

-- a token with the text of a word is that word
word_eq : (w : String) → kind_from (ascii w) ≡ IDENT → {u : Token} → Real u → same u.text (ascii w) ≡ true → u ≡ word w
word_eq w k {u} r e = let q = same_eq u.text (ascii w) e in token_eq (r.kinded ∙ ap kind_from q ∙ k) q

ident_eq : (w : String) {u : Token} → eqb u.kind IDENT && same u.text (ascii w) ≡ true → u ≡ word w
ident_eq w {u} e =
    let k = eqb u.kind IDENT in
    let s = same u.text (ascii w) in
    token_eq (eqb-true _ _ (T→true k (and_left k s (true→T e)))) (same_eq _ _ (T→true s (and_right k s (true→T e))))

-- the next token, where the test tells which it is
eats_bump : {test : List Token → Bool} {L : List Token → Type 0} → (test [] ≡ true → ⊥)
    → ((u : Token) (us : List Token) → Real u → is_blank u ≡ false → test (u ∷ us) ≡ true → L (u ∷ [])) → Eats test bump L
unfolding bump
eats_bump {test} {L} n f = record { eats = go }
  where
    go : (ts : List Token) → Lexed ts → test ts ≡ true → (bump ts).errors ≡ [] → Ate L ts (bump ts)
    go [] none t e = absurd (n t)
    go (u ∷ us) (some r b c l) t e = record { taken = u ∷ []; good = f u us r b t; split = rw (b, eat_ws) }

-- the same past blanks, which are not there
past_blanks : {p : Parser} {L : List Token → Type 0} → Eats always p L → Eats always (eat_ws ▹ p) L
past_blanks {L = L} a = eats_as unit (eats_blanks then a)
  where
    unit : (xs : List Token) → (Nothing · L) xs → L xs
    unit xs (seq nothing x) = x

eats_next : {test : List Token → Bool} {L : List Token → Type 0} → (test [] ≡ true → ⊥)
    → ((u : Token) (us : List Token) → Real u → test (u ∷ us) ≡ true → L (u ∷ [])) → Eats test next L
unfolding next
eats_next {test} {L} n f = record { eats = go }
  where
    go : (ts : List Token) → Lexed ts → test ts ≡ true → (next ts).errors ≡ [] → Ate L ts (next ts)
    go [] none t e = absurd (n t)
    go (u ∷ us) (some r b c l) t e = record { taken = u ∷ []; good = f u us r t; split = refl }

-- the next token, of a kind that tells which it is
eats_expect : {L : List Token → Type 0} (k : ℕ) → (k ≡ NONE → ⊥) → ((u : Token) → Real u → u.kind ≡ k → L (u ∷ [])) → Eats always (expect k) L
unfolding expect
eats_expect k n f =
    past_blanks (eats_choose {test = next_is k} (eats_next (λ e. n (sym (eqb-true NONE k e))) (λ u us r e. f u r (eqb-true u.kind k e))) (eats_fails EXPECT k))

one_of : {t u : Token} → u ≡ t → One t (u ∷ [])
one_of {t} e = subst (λ (v : Token). One t (v ∷ [])) (sym e) one

-- a token of the kind of a symbol or a keyword is that one; so is the next token, where it is expected or a look told its kind
module _ (t : Token) (n : t.kind ≡ NONE → ⊥) (f : (w : List ℕ) → right_text t.kind w ≡ same w t.text) where
  symbol_eq : {u : Token} → Real u → u.kind ≡ t.kind → u ≡ t
  symbol_eq {u} r e = token_eq e (same_eq u.text t.text (sym (f u.text) ∙ rw e at r.right))

  eats_symbol : Eats always (expect t.kind) (One t)
  eats_symbol = eats_expect t.kind n (λ u r e. one_of (symbol_eq r e))

  kind_bump : Eats (at_kind t.kind) bump (One t)
  unfolding at_kind
  kind_bump = eats_bump (λ e. n (sym (eqb-true NONE t.kind e))) (λ u us r b e. one_of (symbol_eq r (eqb-true _ _ (rw (b, skip_ws) at e))))

eats_dot : Eats always (expect DOT) (One dot)
unfolding right_text
eats_dot = eats_symbol dot (omega arith) (λ w. refl)

eats_open : Eats always (expect L_PAREN) (One opening)
unfolding right_text
eats_open = eats_symbol opening (omega arith) (λ w. refl)

eats_shut : Eats always (expect R_PAREN) (One closing)
unfolding right_text
eats_shut = eats_symbol closing (omega arith) (λ w. refl)

eats_equals : Eats always (expect EQ_EQ) (One equals)
unfolding right_text
eats_equals = eats_symbol equals (omega arith) (λ w. refl)

eats_literal : Eats always literal Text
unfolding literal
eats_literal = eats_node LITERAL (eats_expect STRING_LIT (omega arith) (λ u r e. text u (r.string e)))

eats_contains : Eats always (expect_ident (ascii "contains")) (One (word "contains"))
unfolding expect_ident next_is_ident
eats_contains =
    past_blanks (eats_choose {test = next_is_ident (ascii "contains")} (eats_next (λ e. false≢true e) (λ u us r e. one_of (ident_eq "contains" e)))
    (eats_fails EXPECT_IDENT 0))

-- the next token, where a look told which it is
ident_bump : (w : String) → Eats (at_ident (ascii w)) bump (One (word w))
unfolding at_ident
ident_bump w = eats_bump (λ e. false≢true e) (λ u us r b e. one_of (ident_eq w (rw (b, skip_ws) at e)))

-- ---- predicates

-- the tokens of a predicate whose strings may be unclosed
data Raw : Part → List Token → Type 0 where
  last_group_lem : {xs : List Token} → Raw AndGroup xs → Raw OrGroup xs
  or_then_lem : {xs ys : List Token} → Raw AndGroup xs → Raw OrGroup ys → Raw OrGroup (xs ++ (or_word ∷ ys))
  last_atom_lem : {xs : List Token} → Raw Atom xs → Raw AndGroup xs
  and_then_lem : {xs ys : List Token} → Raw Atom xs → Raw AndGroup ys → Raw AndGroup (xs ++ (and_word ∷ ys))
  not_atom : {xs : List Token} → Raw Atom xs → Raw Atom (not_word ∷ xs)
  brackets : {xs : List Token} → Raw OrGroup xs → Raw Atom (opening ∷ (xs ++ (closing ∷ [])))
  has_atom : (s : Token) → Stringy s → Raw Atom (word "has" ∷ opening ∷ s ∷ closing ∷ [])
  connected_atom : Raw Atom (word "connected" ∷ [])
  contains_atom : (s : Token) → Stringy s → Raw Atom (word "message" ∷ dot ∷ word "contains" ∷ opening ∷ s ∷ closing ∷ [])
  field_atom : (f : Field) (s : Token) → Stringy s → Raw Atom (field_word f ∷ equals ∷ s ∷ [])

-- what follows the first operand of a group
data Tail (t : Token) (part : Part) : List Token → Type 0 where
  no_more : Tail t part []
  more : {xs : List Token} → Raw part xs → Tail t part (t ∷ xs)

or_group : (xs : List Token) → (Raw AndGroup · Tail or_word OrGroup) xs → Raw OrGroup xs
or_group xs (seq g no_more) = rw append-nil (last_group_lem g)
or_group xs (seq g (more p)) = or_then_lem g p

and_group : (xs : List Token) → (Raw Atom · Tail and_word AndGroup) xs → Raw AndGroup xs
and_group xs (seq a no_more) = rw append-nil (last_atom_lem a)
and_group xs (seq a (more g)) = and_then_lem a g

or_more : (xs : List Token) → (One or_word · Raw AndGroup · Tail or_word OrGroup) xs → Tail or_word OrGroup xs
or_more xs (seq (seq one g) t) = more (or_group _ (seq g t))

and_more : (xs : List Token) → (One and_word · Raw Atom · Tail and_word AndGroup) xs → Tail and_word AndGroup xs
and_more xs (seq (seq one a) t) = more (and_group _ (seq a t))

-- the words of fields
data FieldName : List Token → Type 0 where
  field_name_lem : (f : Field) → FieldName (field_word f ∷ [])

field_of : (f : Field) {u : Token} → u ≡ field_word f → FieldName (u ∷ [])
field_of f e = subst (λ (v : Token). FieldName (v ∷ [])) (sym e) (field_name_lem f)

field_bump : Eats at_field bump FieldName
unfolding at_field
field_bump =
    eats_bump (λ e. false≢true e)
    (λ u us r b e.
    let known : String → Bool = λ w. eqb u.kind IDENT && same u.text (ascii w) in
    whether (known "category") (λ t. field_of category (ident_eq "category" t))
    (λ t₁. whether (known "kind") (λ t. field_of kind (ident_eq "kind" t))
    (λ t₂. whether (known "direction") (λ t. field_of direction (ident_eq "direction" t))
    (λ t₃. whether (known "severity") (λ t. field_of severity (ident_eq "severity" t))
    (λ t₄. field_of message (ident_eq "message" (rw (b, skip_ws, t₁, t₂, t₃, t₄) at e)))))))

-- the atoms that hold no other
eats_has : Eats (at_ident (ascii "has")) call_expr (Raw Atom)
unfolding call_expr
eats_has = eats_as go (eats_node CALL_EXPR (ident_bump "has" then eats_open then eats_literal then eats_shut))
  where
    go : (xs : List Token) → (One (word "has") · One opening · Text · One closing) xs → Raw Atom xs
    go xs (seq (seq (seq one one) (text s c)) one) = has_atom s c

eats_connected : Eats (at_ident (ascii "connected")) ident_expr (Raw Atom)
unfolding ident_expr
eats_connected = eats_as go (eats_node IDENT_EXPR (ident_bump "connected"))
  where
    go : (xs : List Token) → One (word "connected") xs → Raw Atom xs
    go xs one = connected_atom

eats_message : Eats at_message_dot contains_expr (Raw Atom)
unfolding contains_expr at_message_dot
eats_message =
    eats_if first (eats_as go (eats_node CONTAINS_EXPR (ident_bump "message" then eats_dot then eats_contains then eats_open then eats_literal then eats_shut)))
  where
    first : (ts : List Token) → at_message_dot ts ≡ true → at_ident (ascii "message") ts ≡ true
    first ts e = T→true _ (and_left (at_ident (ascii "message") ts) (eqb (peek_kind ts) DOT) (true→T e))

    go : (xs : List Token) → (One (word "message") · One dot · One (word "contains") · One opening · Text · One closing) xs → Raw Atom xs
    go xs (seq (seq (seq (seq (seq one one) one) one) (text s c)) one) = contains_atom s c

eats_field : Eats at_field compare_expr (Raw Atom)
unfolding compare_expr
eats_field = eats_as go (eats_node COMPARE_EXPR (field_bump then eats_equals then eats_literal))
  where
    go : (xs : List Token) → (FieldName · One equals · Text) xs → Raw Atom xs
    go xs (seq (seq (field_name_lem f) one) (text s c)) = field_atom f s c

eats_simple : Eats always simple_atom (Raw Atom)
unfolding simple_atom
eats_simple = eats_choose eats_has (eats_choose eats_connected (eats_choose eats_message (eats_choose eats_field (eats_fails_ahead ATOM))))

eats_not : {p : Parser} → Eats always p (Raw Atom) → Eats (at_kind NOT_KW) (in_node UNARY_EXPR (bump ▹ p)) (Raw Atom)
unfolding right_text
eats_not a = eats_as go (eats_node UNARY_EXPR (kind_bump not_word (omega arith) (λ w. refl) then a))
  where
    go : (xs : List Token) → (One not_word · Raw Atom) xs → Raw Atom xs
    go xs (seq one a) = not_atom a

eats_brackets : {p : Parser} → Eats always p (Raw OrGroup) → Eats (at_kind L_PAREN) (in_node PAREN_EXPR (bump ▹ p ▹ expect R_PAREN)) (Raw Atom)
unfolding right_text
eats_brackets a = eats_as go (eats_node PAREN_EXPR (kind_bump opening (omega arith) (λ w. refl) then a then eats_shut))
  where
    go : (xs : List Token) → (One opening · Raw OrGroup · One closing) xs → Raw Atom xs
    go xs (seq (seq one p) one) = brackets p

-- ---- calls

-- the words of methods: of those that take a predicate, and of those that take nothing
data MethodWord : List Token → Type 0 where
  method_word : (m : Method) → MethodWord (word (method_name m) ∷ [])

data PlainWord : List Token → Type 0 where
  features_word : PlainWord (word "features" ∷ [])
  diagnostics_word : PlainWord (word "diagnostics" ∷ [])

method_of_lem : (m : Method) {u : Token} → u ≡ word (method_name m) → MethodWord (u ∷ [])
method_of_lem m e = subst (λ (v : Token). MethodWord (v ∷ [])) (sym e) (method_word m)

method_bump : Eats at_predicate_method bump MethodWord
unfolding at_predicate_method kind_from
method_bump =
    eats_bump (λ e. false≢true e)
    (λ u us r b e.
    whether (same u.text (ascii "where")) (λ t. method_of_lem where_method (word_eq "where" refl r t))
    (λ t₁. whether (same u.text (ascii "all")) (λ t. method_of_lem all_method (word_eq "all" refl r t))
    (λ t₂. whether (same u.text (ascii "any")) (λ t. method_of_lem any_method (word_eq "any" refl r t))
    (λ t₃. method_of_lem none_method (word_eq "none" refl r (rw (b, skip_ws, t₁, t₂, t₃) at e))))))

plain_bump : Eats at_plain_method bump PlainWord
unfolding at_plain_method kind_from
plain_bump =
    eats_bump (λ e. false≢true e)
    (λ u us r b e.
    whether (same u.text (ascii "features"))
    (λ t. subst (λ (v : Token). PlainWord (v ∷ [])) (sym (word_eq "features" refl r t)) features_word)
    (λ t. subst (λ (v : Token). PlainWord (v ∷ [])) (sym (word_eq "diagnostics" refl r (rw (b, skip_ws, t) at e))) diagnostics_word))

count_bump : Eats (at_text (ascii "count")) bump (One (word "count"))
unfolding at_text kind_from
count_bump = eats_bump (λ e. false≢true e) (λ u us r b e. one_of (word_eq "count" refl r (rw (b, skip_ws) at e)))

-- a method with what it takes; a call; calls
data RawMethod : List Token → Type 0 where
  with_predicate_lem : (m : Method) {xs : List Token} → Raw OrGroup xs → RawMethod (word (method_name m) ∷ opening ∷ (xs ++ (closing ∷ [])))
  count_method : RawMethod (word "count" ∷ opening ∷ closing ∷ [])
  plain_method : {xs : List Token} → PlainWord xs → RawMethod xs

data RawCalls : List Token → Type 0 where
  no_calls : RawCalls []
  call : {xs ys : List Token} → RawMethod xs → RawCalls ys → RawCalls (dot ∷ (xs ++ ys))

eats_no_method : {L : List Token → Type 0} → Eats always no_method L
unfolding no_method fails_ahead
eats_no_method = record { eats = λ ts l t e. absurd (cons≢nil e) }

eats_method : {p : Parser} → Eats always p (Raw OrGroup) → Eats always (parse_method p) RawMethod
unfolding parse_method
eats_method a =
    eats_choose (eats_as predicated (method_bump then eats_node CALL_ARGS (eats_open then a then eats_shut)))
    (eats_choose (eats_as counted (count_bump then eats_node CALL_ARGS (eats_open then eats_shut)))
    (eats_choose (eats_as (λ xs x. plain_method x) plain_bump) eats_no_method))
  where
    predicated : (xs : List Token) → (MethodWord · (One opening · Raw OrGroup · One closing)) xs → RawMethod xs
    predicated xs (seq (method_word m) (seq (seq one p) one)) = with_predicate_lem m p

    counted : (xs : List Token) → (One (word "count") · (One opening · One closing)) xs → RawMethod xs
    counted xs (seq one (seq one one)) = count_method

-- where a `.` is seen
eats_calls : {p q : Parser} → Eats always p (Raw OrGroup) → Eats always q RawCalls → Eats always (parse_dot_call p ▹ q) RawCalls
unfolding parse_dot_call
eats_calls a b = eats_as go (eats_node DOT_CALL (eats_dot then eats_method a) then b)
  where
    go : (xs : List Token) → (One dot · RawMethod · RawCalls) xs → RawCalls xs
    go xs (seq (seq one m) cs) = call m cs

-- ---- the functions that call each other

Language : Mode → List Token → Type 0
Language OrExpr xs = Raw OrGroup xs
Language OrRest xs = Tail or_word OrGroup xs
Language AndExpr xs = Raw AndGroup xs
Language AndRest xs = Tail and_word AndGroup xs
Language AtomMode xs = Raw Atom xs
Language Calls xs = RawCalls xs

eats_nothing : {L : List Token → Type 0} → L [] → Eats always done L
eats_nothing {L} x = eats_as go eats_done
  where
    go : (xs : List Token) → Nothing xs → L xs
    go xs nothing = x

eats_step : {g : Mode → Parser} → ((m : Mode) → Eats always (g m) (Language m)) → (m : Mode) → Eats always (step g m) (Language m)
unfolding step Language right_text
eats_step a OrExpr =
    eats_choose (any (has_binary_op_at_level OR_KW) (eats_node BINARY_EXPR (eats_as or_group (a AndExpr then a OrRest))))
    (eats_as (λ xs g. last_group_lem g) (a AndExpr))
eats_step a OrRest = eats_choose (eats_as or_more (kind_bump or_word (omega arith) (λ w. refl) then a AndExpr then a OrRest)) (eats_nothing no_more)
eats_step a AndExpr =
    eats_choose (any (has_binary_op_at_level AND_KW) (eats_node BINARY_EXPR (eats_as and_group (a AtomMode then a AndRest))))
    (eats_as (λ xs g. last_atom_lem g) (a AtomMode))
eats_step a AndRest = eats_choose (eats_as and_more (kind_bump and_word (omega arith) (λ w. refl) then a AtomMode then a AndRest)) (eats_nothing no_more)
eats_step a AtomMode = past_blanks (eats_choose (eats_not (a AtomMode)) (eats_choose (eats_brackets (a OrExpr)) eats_simple))
eats_step a Calls = past_blanks (eats_choose (any (at_kind DOT) (eats_calls (a OrExpr) (a Calls))) (eats_nothing no_calls))

-- steps inside which an error is reported
eats_steps : (n : ℕ) (m : Mode) → Eats always (steps_from (λ o. fails 0 0) n m) (Language m)
unfolding steps_from
eats_steps zero m = eats_fails 0 0
eats_steps (suc n) m = eats_step (eats_steps n) m

eats_parse : (m : Mode) → Eats always (parse m) (Language m)
eats_parse m = record { eats = go }
  where
    go : (ts : List Token) → Lexed ts → always ts ≡ true → (parse m ts).errors ≡ [] → Ate (Language m) ts (parse m ts)
    go ts l t e =
        let n = suc (3 * length ts + 2) in
        let q = parse_steps (λ o. fails 0 0) n m ts (omega arith) in
        rw q ((eats_steps n m).eats ts l t (rw q at e))

-- ---- a predicate

-- xs are the tokens of a predicate
record Known (part : Part) (xs : List Token) : Type 0 where
  predicate : Predicate part
  tokens : xs ≡ tokens_of predicate

closed_left : (xs ys : List Token) → T (closed (xs ++ ys)) → T (closed xs)
closed_left xs ys h = and_left (closed xs) (closed ys) (rw closed_append at h)

closed_right : (xs ys : List Token) → T (closed (xs ++ ys)) → T (closed ys)
closed_right xs ys h = and_right (closed xs) (closed ys) (rw closed_append at h)

known : {part : Part} {xs : List Token} → Raw part xs → T (closed xs) → Known part xs
unfolding closed tokens_of
known (last_group_lem g) h = let x = known g h in record { predicate = last_group x.predicate; tokens = x.tokens }
known (or_then_lem {xs} {ys} g p) h =
    let x = known g (closed_left xs (or_word ∷ ys) h) in
    let y = known p (closed_right xs (or_word ∷ ys) h) in
    record { predicate = or_then x.predicate y.predicate; tokens = λ i. x.tokens i ++ (or_word ∷ y.tokens i) }
known (last_atom_lem a) h = let x = known a h in record { predicate = last_atom x.predicate; tokens = x.tokens }
known (and_then_lem {xs} {ys} a g) h =
    let x = known a (closed_left xs (and_word ∷ ys) h) in
    let y = known g (closed_right xs (and_word ∷ ys) h) in
    record { predicate = and_then x.predicate y.predicate; tokens = λ i. x.tokens i ++ (and_word ∷ y.tokens i) }
known (not_atom a) h = let x = known a h in record { predicate = negated x.predicate; tokens = λ i. not_word ∷ x.tokens i }
known (brackets {xs} p) h =
    let x = known p (closed_left xs (closing ∷ []) h) in
    record { predicate = bracketed x.predicate; tokens = λ i. opening ∷ (x.tokens i ++ (closing ∷ [])) }
known (has_atom s c) h =
    let x = c (and_left (is_closed s) true h) in
    record { predicate = has_text x.content; tokens = λ i. word "has" ∷ opening ∷ x.whole i ∷ closing ∷ [] }
known connected_atom h = record { predicate = is_connected; tokens = refl }
known (contains_atom s c) h =
    let x = c (and_left (is_closed s) true h) in
    record { predicate = message_has x.content; tokens = λ i. word "message" ∷ dot ∷ word "contains" ∷ opening ∷ x.whole i ∷ closing ∷ [] }
known (field_atom f s c) h =
    let x = c (and_left (is_closed s) true (closed_right (field_word f ∷ equals ∷ []) (s ∷ []) h)) in
    record { predicate = field_is f x.content; tokens = λ i. field_word f ∷ equals ∷ x.whole i ∷ [] }

-- what is taken where nothing is left
ate_all : {L : List Token → Type 0} {ts : List Token} {x : Parsed} → Ate L ts x → x.rest ≡ [] → L ts
ate_all {L} {ts} a e = subst L (sym (a.split ∙ ap (λ (us : List Token). a.taken ++ us) e ∙ append-nil a.taken)) a.good

module _ {L : List Token → Type 0} {p : Parser} (a : Eats always p L) (even : (ts : List Token) → p (solid ts) ≡ strip (p ts)) where
  -- of a text that p reads with no error and up to blanks, the tokens that are no blanks are of the language
  read_all : (s : List ℕ) → (p (lex s)).errors ≡ [] → solid (p (lex s)).rest ≡ [] → L (solid (lex s))
  unfolding strip
  read_all s e r =
      let q = even (lex s) in
      ate_all (a.eats (solid (lex s)) (lexed_lex s) refl (ap errors_of q ∙ (strip_errors (p (lex s))).1 e)) (ap rest_of q ∙ r)
    where
      errors_of : Parsed → List Error
      errors_of x = x.errors

      rest_of : Parsed → List Token
      rest_of x = x.rest

-- a predicate that is read with no error, up to blanks and with every quote closed, is of the grammar
pub whole_read : (p : List ℕ) → (parse OrExpr (lex p)).errors ≡ [] → solid (parse OrExpr (lex p)).rest ≡ [] → T (closed (lex p)) → ReadWhole p
unfolding Language
whole_read p e r c =
    let x = known (read_all (eats_parse OrExpr) (parse_solid OrExpr) p e r) (rw (closed_solid (lex p)) c) in
    record { predicate = x.predicate; whole = x.tokens }

-- ---- a pipeline

-- xs are the tokens of calls
record KnownCalls (xs : List Token) : Type 0 where
  calls : List Call
  tokens : xs ≡ calls_tokens calls

-- ys are the tokens of one call past its `.`
record KnownCall (xs : List Token) : Type 0 where
  made : Call
  tokens : dot ∷ xs ≡ call_tokens made

known_method : {xs : List Token} (m : Method) → Known OrGroup xs → KnownCall (word (method_name m) ∷ opening ∷ (xs ++ (closing ∷ [])))
known_method m x =
    record {
      made = method_call m x.predicate;
      tokens = (λ i. dot ∷ word (method_name m) ∷ opening ∷ (x.tokens i ++ (closing ∷ []))) ∙ sym (method_tokens m x.predicate);
    }

known_call : {xs : List Token} → RawMethod xs → (ys : List Token) → Lexed (xs ++ ys) → KnownCall xs
known_call (with_predicate_lem m {xs} p) ys (some _ _ _ (some _ _ _ l)) = known_method m (known p (lexed_closed xs closing ys (rw append_assoc at l)))
known_call count_method ys l = record { made = count_call; tokens = refl }
known_call (plain_method features_word) ys l = record { made = features_call; tokens = refl }
known_call (plain_method diagnostics_word) ys l = record { made = diagnostics_call; tokens = refl }

known_calls : {xs : List Token} → RawCalls xs → Lexed xs → KnownCalls xs
unfolding calls_tokens
known_calls no_calls l = record { calls = []; tokens = refl }
known_calls (call {xs} {ys} m cs) (some _ _ _ l) =
    let x = known_call m ys l in
    let y = known_calls cs (lexed_right xs ys l) in
    record { calls = x.made ∷ y.calls; tokens = λ i. x.tokens i ++ y.tokens i }

-- the tokens of a source whose string may be unclosed
data RawSource : List Token → Type 0 where
  components_source : RawSource (word "components" ∷ [])
  analysis_source : (s : Token) → Stringy s → RawSource (word "analysis" ∷ opening ∷ s ∷ closing ∷ [])

eats_source : Eats always parse_source RawSource
unfolding parse_source call_expr ident_expr
eats_source =
    eats_choose (eats_as components_first (eats_node IDENT_EXPR (ident_bump "components")))
    (eats_choose (eats_as analysis_first (eats_node CALL_EXPR (ident_bump "analysis" then eats_open then eats_literal then eats_shut))) (eats_fails_ahead SOURCE))
  where
    components_first : (xs : List Token) → One (word "components") xs → RawSource xs
    components_first xs one = components_source

    analysis_first : (xs : List Token) → (One (word "analysis") · One opening · Text · One closing) xs → RawSource xs
    analysis_first xs (seq (seq (seq one one) (text s c)) one) = analysis_source s c

eats_pipeline : Eats always parse_pipeline (RawSource · RawCalls)
unfolding Language
eats_pipeline = rw parse_pipeline_is (eats_node PIPELINE_EXPR (eats_source then eats_parse Calls))

-- xs are the tokens of a source
record KnownSource (xs : List Token) : Type 0 where
  made : Source
  tokens : xs ≡ source_tokens made

known_source : {xs : List Token} → RawSource xs → (ys : List Token) → Lexed (xs ++ ys) → KnownSource xs
known_source components_source ys l = record { made = components; tokens = refl }
known_source (analysis_source s c) ys (some _ _ _ (some _ _ _ (some _ _ d _))) =
    let x = c (d cons≢nil) in
    record { made = analysis x.content; tokens = λ i. word "analysis" ∷ opening ∷ x.whole i ∷ closing ∷ [] }

known_pipeline : {ts : List Token} → (RawSource · RawCalls) ts → Lexed ts → (s : Source) × (cs : List Call) × (ts ≡ source_tokens s ++ calls_tokens cs)
known_pipeline (seq {xs} {ys} s cs) l =
    let x = known_source s ys l in
    let y = known_calls cs (lexed_right xs ys l) in
    (x.made, y.calls, λ i. x.tokens i ++ y.tokens i)

-- a pipeline that is read with no error and up to blanks is of the grammar
pub pipeline_whole : (c : List ℕ) → (parse_pipeline (lex c)).errors ≡ [] → solid (parse_pipeline (lex c)).rest ≡ [] → ReadPipeline c
pipeline_whole c e r =
    let x = known_pipeline (read_all eats_pipeline pipeline_solid c e r) (lexed_lex c) in
    record { source = x.0; calls = x.1; whole = x.2 }

-- ---- and the other way round

-- a predicate of the grammar is read with no error and up to blanks, and its tree is the predicate's
pub whole_tree : {p : List ℕ} (r : ReadWhole p) → strip (parse OrExpr (lex p)) ≡ read (predicate_tree r.predicate) []
whole_tree {p} r =
    sym (parse_solid OrExpr (lex p)) ∙ rw (r.whole, ← (append-nil (tokens_of r.predicate))) (predicate_read r.predicate [] ended)

-- so is a pipeline
calls_none : parse Calls [] ≡ read nil []
unfolding step
calls_none = parse_step Calls []

pub pipeline_tree : {c : List ℕ} (r : ReadPipeline c) → strip (parse_pipeline (lex c)) ≡ pipeline_then r.source r.calls (read nil [])
pipeline_tree {c} r =
    sym (pipeline_solid (lex c))
    ∙ ap parse_pipeline (r.whole ∙ ap (λ (us : List Token). source_tokens r.source ++ us) (sym (append-nil (calls_tokens r.calls))))
    ∙ pipeline_read r.source r.calls []
    ∙ ap (pipeline_then r.source r.calls) calls_none

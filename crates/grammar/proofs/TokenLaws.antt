-- What the lexer's tokens are: the text of a symbol or a keyword by its kind, the kind by the text, and a string's content. Assumes
-- nothing.
use mathlib.Core.Path.{◌≡◌, refl, sym, ap, subst}
use mathlib.Core.List.{List, [], ◌∷◌, ◌++◌, cons≢nil}
use mathlib.Core.Bool.{Bool, true, false, cond, true≢false}
use Prim.Native.Nat.{ℕ, zero, suc}
use Prim.Native.Char.{Char}
use borrow.Author.Tests.{eqb-true}
use lib.Dec.{T, eqb}
use lib.ListN.{length, take}
use Rattle.syntax.specs.Kind.{WHITESPACE, STRING_LIT, INT_LIT, DOT, L_PAREN, R_PAREN, EQ_EQ, NEQ, GE, GT, LE, LT, AND_KW, OR_KW, NOT_KW, ERROR}
use Rattle.syntax.specs.Text.{ascii, is, same}
use Rattle.syntax.proofs.BoolLaws.{whether, true→T, T→true}
use Rattle.lexer.specs.Bytes.{is_blank as blank_byte, is_ascii_digit, is_ident_start, is_ident_continue, shape_of}
use Rattle.lexer.specs.Lex.{Token, run, quoted as quoted_length, equals as equals_length, word_kind, kind_of, past, token, lex_from, lex}
use Rattle.lexer.specs.Tokens.{has_quote, is_closed, closed}
use Rattle.lexer.proofs.LexLaws.{quoted_true, quoted_false}
use Rattle.trees.specs.Look.{is_blank}
use Rattle.grammar.specs.Grammar.{solid, quoted}

-- the kind of a token by its text
unfoldable pub kind_from : List ℕ → ℕ
unfolding shape_of word_kind
kind_from [] = WHITESPACE
kind_from (b ∷ w) = kind_of (shape_of b) (b ∷ w)

-- whether a symbol or a keyword has its text, and a string its first quote
unfoldable pub first_is : Char → List ℕ → Bool
first_is c [] = false
first_is c (b ∷ w) = is c b

unfoldable pub right_text : ℕ → List ℕ → Bool
unfolding first_is
right_text k w =
    cond (eqb k STRING_LIT) (first_is "'" w)
    (cond (eqb k DOT) (same w (ascii "."))
    (cond (eqb k L_PAREN) (same w (ascii "("))
    (cond (eqb k R_PAREN) (same w (ascii ")"))
    (cond (eqb k EQ_EQ) (same w (ascii "=="))
    (cond (eqb k AND_KW) (same w (ascii "and"))
    (cond (eqb k OR_KW) (same w (ascii "or"))
    (cond (eqb k NOT_KW) (same w (ascii "not")) true)))))))

-- the content of a closed string token
pub record Content (t : Token) : Type 0 where
  pub content : List ℕ
  pub whole : t ≡ quoted content

-- a token as the lexer makes it
pub record Real (t : Token) : Type 0 where
  pub kinded : t.kind ≡ kind_from t.text
  pub right : right_text t.kind t.text ≡ true
  pub string : t.kind ≡ STRING_LIT → T (is_closed t) → Content t

-- ---- the first token of a text has the right text, by its first byte

-- an operator alone, and with a `=` behind it
operator_right : (k m b : ℕ) (s : List ℕ) → right_text k (b ∷ []) ≡ true → right_text m (b ∷ 0x3D ∷ []) ≡ true
    → right_text (cond (eqb (length (b ∷ take (equals_length s) s)) 1) k m) (b ∷ take (equals_length s) s) ≡ true
unfolding equals_length
operator_right k m b [] p q = p
operator_right k m b (c ∷ s) p q = whether (is "=" c) (λ e. rw (e, eqb-true c 0x3D e) q) (λ e. rw e p)

word_right : (w : List ℕ) → right_text (word_kind w) w ≡ true
unfolding right_text word_kind
word_right w =
    whether (same w (ascii "and")) (λ x. rw x)
    (λ x. whether (same w (ascii "or")) (λ y. rw (x, y))
    (λ y. whether (same w (ascii "not")) (λ z. rw (x, y, z)) (λ z. rw (x, y, z))))

-- at each first byte
abbrev RightToken : ℕ → List ℕ → Type 0
RightToken b s = right_text (token b s).kind (token b s).text ≡ true

at_byte : (s : List ℕ) (c b : ℕ) → RightToken c s → eqb b c ≡ true → RightToken b s
at_byte s c b p e = subst (λ (x : ℕ). RightToken x s) (sym (eqb-true b c e)) p

-- the kinds of which nothing is asked
kinds_right : (w : List ℕ) → (right_text WHITESPACE w ≡ true) × (right_text INT_LIT w ≡ true) × (right_text ERROR w ≡ true)
unfolding right_text
kinds_right w = (refl, refl, refl)

token_right : (b : ℕ) (s : List ℕ) → RightToken b s
unfolding token
token_right b s =
    whether (blank_byte b) (λ t₀. rw t₀ (kinds_right _).0)
    (λ t₀. whether (is "'" b) (at_byte s 0x27 b (unfold right_text in refl))
    (λ t₁. whether (is "." b) (at_byte s 0x2E b (unfold right_text in refl))
    (λ t₂. whether (is "(" b) (at_byte s 0x28 b (unfold right_text in refl))
    (λ t₃. whether (is ")" b) (at_byte s 0x29 b (unfold right_text in refl))
    (λ t₄. whether (is "," b) (at_byte s 0x2C b (unfold right_text in refl))
    (λ t₅. whether (is "=" b) (at_byte s 0x3D b (unfold right_text in operator_right ERROR EQ_EQ 0x3D s refl refl))
    (λ t₆. whether (is "!" b) (at_byte s 0x21 b (unfold right_text in operator_right ERROR NEQ 0x21 s refl refl))
    (λ t₇. whether (is ">" b) (at_byte s 0x3E b (unfold right_text in operator_right GT GE 0x3E s refl refl))
    (λ t₈. whether (is "<" b) (at_byte s 0x3C b (unfold right_text in operator_right LT LE 0x3C s refl refl))
    (λ t₉. rw (t₀, t₁, t₂, t₃, t₄, t₅, t₆, t₇, t₈, t₉)
    (whether (is_ascii_digit b) (λ t. rw t (kinds_right _).1)
    (λ t. rw t (whether (is_ident_start b) (λ u. rw u (word_right (b ∷ take (run is_ident_continue s) s))) (λ u. rw u (kinds_right _).2))))))))))))))

-- ---- strings

-- a text that ends with a quote, and one byte more before it
abbrev Ended : List ℕ → Type 0
Ended us = (w : List ℕ) × (us ≡ w ++ ascii "'")

quote_content : (s : List ℕ) → T (has_quote (take (quoted_length s) s)) → Ended (take (quoted_length s) s)
unfolding has_quote quoted_length
quote_content [] h = absurd h
quote_content (b ∷ s) h =
    let ih = quote_content s in
    whether (is "'" b)
    (λ e. rw (quoted_true b s e, eqb-true b 0x27 e) ([], refl))
    (λ e. rw (quoted_false b s e) (longer (ih (rw (quoted_false b s e, e) at h))))
  where
    longer : {us : List ℕ} → Ended us → Ended (b ∷ us)
    longer x = (b ∷ x.0, rw x.1)

-- a string that is not closed is the last token
open_rest : (s : List ℕ) → has_quote (take (quoted_length s) s) ≡ false → lex_from s (quoted_length s) ≡ []
unfolding has_quote quoted_length lex_from
open_rest [] h = refl
open_rest (b ∷ s) h =
    let ih = open_rest s in
    whether (is "'" b)
    (λ e. absurd (true≢false (rw (e, quoted_length, e) at h)))
    (λ e. rw (e, quoted_length) (ih (rw (e, quoted_length, e) at h)))

-- the first byte of a string is a quote
string_byte : (b : ℕ) (s : List ℕ) → (token b s).kind ≡ STRING_LIT → b ≡ 0x27
unfolding token right_text
string_byte b s e = eqb-true b 0x27 (rw e at (token_right b s))

quote_string : (s : List ℕ) → T (is_closed (token 0x27 s)) → Content (token 0x27 s)
unfolding token is_closed
quote_string s h =
    let x = quote_content s h in
    record { content = x.0; whole = ap (λ (us : List ℕ). record { kind = STRING_LIT; text = 0x27 ∷ us }) x.1 }

quote_last : (s : List ℕ) → is_closed (token 0x27 s) ≡ false → lex_from s (past 0x27 s) ≡ []
unfolding token is_closed
quote_last s h = open_rest s h

module _ (b : ℕ) (s : List ℕ) where
  string_content : (token b s).kind ≡ STRING_LIT → T (is_closed (token b s)) → Content (token b s)
  string_content e h = subst (λ c. T (is_closed (token c s)) → Content (token c s)) (sym (string_byte b s e)) (quote_string s) h

  string_last : is_closed (token b s) ≡ false → lex_from s (past b s) ≡ []
  unfolding is_closed
  string_last h =
      whether (eqb (token b s).kind STRING_LIT)
      (λ e. subst (λ c. is_closed (token c s) ≡ false → lex_from s (past c s) ≡ []) (sym (string_byte b s (eqb-true _ _ e))) (quote_last s) h)
      (λ e. absurd (true≢false (rw e at h)))

pub real_token : (b : ℕ) (s : List ℕ) → Real (token b s)
unfolding token kind_from
real_token b s = record { kinded = refl; right = token_right b s; string = string_content b s }

-- ---- the tokens of a text that are no blanks

-- tokens that the lexer makes, no blanks, of which only the last may be an unclosed string
pub data Lexed : List Token → Type 0 where
  none : Lexed []
  some : {t : Token} {ts : List Token} → Real t → is_blank t ≡ false → ((ts ≡ [] → ⊥) → T (is_closed t)) → Lexed ts → Lexed (t ∷ ts)

lexed_from : (s : List ℕ) (n : ℕ) → Lexed (solid (lex_from s n))
unfolding lex_from solid
lexed_from [] n = none
lexed_from (b ∷ s) (suc n) = lexed_from s n
lexed_from (b ∷ s) zero = go (lexed_from s (past b s))
  where
    last : (solid (lex_from s (past b s)) ≡ [] → ⊥) → T (is_closed (token b s))
    last h = whether (is_closed (token b s)) (λ e. true→T e) (λ e. absurd (h (ap solid (string_last b s e))))

    go : Lexed (solid (lex_from s (past b s))) → Lexed (solid (token b s ∷ lex_from s (past b s)))
    go l = whether (is_blank (token b s)) (λ e. rw (solid, e) l) (λ e. rw (solid, e) (some (real_token b s) e last l))

pub lexed_lex : (s : List ℕ) → Lexed (solid (lex s))
unfolding lex
lexed_lex s = lexed_from s 0

pub lexed_right : (xs ys : List Token) → Lexed (xs ++ ys) → Lexed ys
lexed_right [] ys l = l
lexed_right (x ∷ xs) ys (some r b c l) = lexed_right xs ys l

pub nil_both : {A : Type 0} (xs ys : List A) → xs ++ ys ≡ [] → (xs ≡ []) × (ys ≡ [])
nil_both [] ys e = (refl, e)
nil_both (x ∷ xs) ys e = absurd (cons≢nil e)

-- the tokens before a token are closed
pub lexed_closed : (xs : List Token) (t : Token) (ys : List Token) → Lexed (xs ++ (t ∷ ys)) → T (closed xs)
unfolding closed
lexed_closed [] t ys l = tt
lexed_closed (x ∷ xs) t ys (some r b c l) =
    rw (T→true (is_closed x) (c (λ e. cons≢nil (nil_both xs (t ∷ ys) e).1))) (lexed_closed xs t ys l)

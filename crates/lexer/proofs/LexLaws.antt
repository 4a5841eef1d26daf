-- Laws of the lexer's definitions: token by token, tiling, joints. Assumes nothing.
use mathlib.Core.Path.{◌≡◌, refl, sym, ap, ◌∙◌}
use mathlib.Core.Bool.{Bool, true, false, ◌&&◌, ◌||◌, and_assoc}
use mir.Val.{bool_byte}
use mathlib.Core.List.{List, [], ◌∷◌, ◌++◌, append_assoc}
use Prim.Native.Nat.{ℕ, zero, suc, ◌+◌, ◌-◌, ◌≤◌, ◌<◌, zero-le, suc-le-suc}
use native.Mathlib.Nat.{le_of_suc-le-suc, not-suc-le-zero}
use native.Mathlib.Omega.{arith}
use Rattle.std.proofs.Common.{rules}
use lib.Dec.{T}
use lib.ListN.{drop, get_or, length, length-take, take, take-append-drop}
use lib.Seq.{take-append-le, take_all}
use Rattle.syntax.specs.Kind.{DOT, L_PAREN, R_PAREN}
use Rattle.syntax.specs.Text.{is}
use Rattle.syntax.proofs.BoolLaws.{whether, and_left, and_right}
use Rattle.lexer.specs.declared.Shape.{Shape}
use Rattle.lexer.specs.declared.Shape.TheVariants.{Blanks, Quoted, Symbol, Operator, Digits, Word, Character}
use Rattle.std.specs.Char as of_char
use Rattle.syntax.proofs.EveryByte.{agree}
use Rattle.lexer.specs.Bytes.{shape_of, goes_on, is_blank, is_ident_start, is_ascii_whitespace, is_ascii_digit, is_ident_continue, is_trailing}
use Rattle.std.specs.Prelude.{position, ◌==◌, Option, Some, None, cond, min, eqb, ltb}
use borrow.Author.Tests.{ltb-true, ltb-false, eqb-true, eqb-false, eq-eqb, ne_eqb}
use Rattle.std.specs.List.{take_while, prefix_len, position_or_len, starts_with}
use Rattle.lexer.specs.Lex.{Token, run, quoted, equals, more, kind_of, past, token, lex_from, lex}
use Rattle.lexer.specs.Tokens.{joined, has_quote, is_closed, closed}

-- a run, byte by byte
pub run_true : (p : ℕ → Bool) (b : ℕ) (s : List ℕ) → p b ≡ true → run p (b ∷ s) ≡ suc (run p s)
unfolding run
run_true p b s e = rw (e, run)

pub run_false : (p : ℕ → Bool) (b : ℕ) (s : List ℕ) → p b ≡ false → run p (b ∷ s) ≡ 0
unfolding run
run_false p b s e = rw (e, run)

run_le : (p : ℕ → Bool) (s : List ℕ) → run p s ≤ length s
unfolding run
run_le p [] = zero-le
run_le p (b ∷ s) =
    let ih = run_le p s in
    whether (p b) (λ e. rw (run_true p b s e) (suc-le-suc ih)) (λ e. rw (run_false p b s e) zero-le)

-- a string literal, byte by byte
pub quoted_true : (b : ℕ) (s : List ℕ) → is "'" b ≡ true → quoted (b ∷ s) ≡ 1
unfolding quoted
quoted_true b s e = rw (e, quoted)

pub quoted_false : (b : ℕ) (s : List ℕ) → is "'" b ≡ false → quoted (b ∷ s) ≡ suc (quoted s)
unfolding quoted
quoted_false b s e = rw (e, quoted)

quoted_le : (s : List ℕ) → quoted s ≤ length s
unfolding quoted
quoted_le [] = zero-le
quoted_le (b ∷ s) =
    let ih = quoted_le s in
    whether (is "'" b) (λ e. rw (quoted_true b s e) (suc-le-suc zero-le)) (λ e. rw (quoted_false b s e) (suc-le-suc ih))

-- a `=` that may come next
pub equals_true : (b : ℕ) (s : List ℕ) → is "=" b ≡ true → equals (b ∷ s) ≡ 1
unfolding equals
equals_true b s e = rw e

pub equals_false : (b : ℕ) (s : List ℕ) → is "=" b ≡ false → equals (b ∷ s) ≡ 0
unfolding equals
equals_false b s e = rw e

equals_le : (s : List ℕ) → equals s ≤ length s
unfolding equals
equals_le [] = zero-le
equals_le (b ∷ s) = whether (is "=" b) (λ e. rw (equals_true b s e) (suc-le-suc zero-le)) (λ e. rw (equals_false b s e) zero-le)

-- a token ends within the text
pub more_le : (k : Shape) (s : List ℕ) → more k s ≤ length s
more_le Blanks s = run_le _ s
more_le Digits s = run_le _ s
more_le Word s = run_le _ s
more_le Character s = run_le _ s
more_le Quoted s = quoted_le s
more_le (Operator k m) s = equals_le s
more_le (Symbol k) s = zero-le

pub past_le : (b : ℕ) (s : List ℕ) → past b s ≤ length s
unfolding past
past_le b s = more_le (shape_of b) s

-- the tokens after the first n bytes
pub lex_from_drop : (s : List ℕ) (n : ℕ) → lex_from s n ≡ lex (drop n s)
unfolding lex_from lex
lex_from_drop [] zero = refl
lex_from_drop [] (suc n) = refl
lex_from_drop (b ∷ s) zero = refl
lex_from_drop (b ∷ s) (suc n) = lex_from_drop s n

pub lex_nil : lex [] ≡ []
unfolding lex lex_from
lex_nil = refl

pub lex_empty : (s : List ℕ) → length s ≡ 0 → lex s ≡ []
lex_empty [] z = lex_nil
lex_empty (b ∷ s) z = absurd (omega arith)

pub lex_cons : (b : ℕ) (s : List ℕ) → lex (b ∷ s) ≡ token b s ∷ lex (drop (past b s) s)
unfolding lex lex_from
lex_cons b s = ap (λ (ts : List Token). token b s ∷ ts) (lex_from_drop s (past b s))

-- the first token, as the code finds its shape, its length and then its kind
behind_is : (b : ℕ) (s : List ℕ) (k : Shape) {n : ℕ} → n ≡ more k (take (length (b ∷ s) - 1) (drop 1 (b ∷ s))) → n ≡ more k s
behind_is b s k e = e ∙ ap (more k) (take_all (length (b ∷ s) - 1) s (omega arith))

pub first_within : (text : List ℕ) (k : Shape) {n : ℕ} → 0 < length text → n ≡ more k (take (length text - 1) (drop 1 text)) → 1 + n ≤ length text
first_within [] k some e = absurd (omega arith)
first_within (b ∷ s) k some e = omega (arith, behind_is b s k e, more_le k s)

pub first_tokens : (text : List ℕ) (k : Shape) {n kind : ℕ} → 0 < length text → k ≡ shape_of (get_or text 0 0)
    → n ≡ more k (take (length text - 1) (drop 1 text)) → kind ≡ kind_of k (take (1 + n) text)
    → lex text ≡ record { kind = kind; text = take (1 + n) text } ∷ lex (drop (1 + n) text)
unfolding token past
first_tokens [] k some q e w = absurd (omega arith)
first_tokens (b ∷ s) k {n} some q e w =
    let z : 1 + n ≡ suc (more k s) = omega (arith, behind_is b s k e) in
    rw (w, z, q) (lex_cons b s)

-- token texts joined give the rule back
tile : (s : List ℕ) (n : ℕ) → joined (lex_from s n) ≡ drop n s
unfolding joined lex_from token
tile [] zero = refl
tile [] (suc n) = refl
tile (b ∷ s) zero =
    let n = past b s in
    ap (λ (u : List ℕ). b ∷ u) (ap (λ (u : List ℕ). take n s ++ u) (tile s n) ∙ take-append-drop n s)
tile (b ∷ s) (suc n) = tile s n

pub lex_joined : (s : List ℕ) → joined (lex s) ≡ s
unfolding lex
lex_joined s = tile s 0

-- A byte that ends every token but a string literal that is still open.
record Stops (c : ℕ) : Type 0 where
  blank : is_ascii_whitespace c ≡ false
  digit : is_ascii_digit c ≡ false
  word : is_ident_continue c ≡ false
  trailing : is_trailing c ≡ false
  equal : is "=" c ≡ false

module _ (c : ℕ) (b : List ℕ) where
  run_joint : (p : ℕ → Bool) → p c ≡ false → (a : List ℕ) → run p (a ++ c ∷ b) ≡ run p a
  unfolding run
  run_joint p e [] = run_false p c b e
  run_joint p e (x ∷ a) =
      let ih = run_joint p e a in
      whether (p x)
      (λ t. run_true p x (a ++ c ∷ b) t ∙ ap suc ih ∙ sym (run_true p x a t))
      (λ t. run_false p x (a ++ c ∷ b) t ∙ sym (run_false p x a t))

  quoted_joint : (a : List ℕ) → T (has_quote a) → quoted (a ++ c ∷ b) ≡ quoted a
  unfolding has_quote
  quoted_joint [] h = absurd h
  quoted_joint (x ∷ a) h =
      let ih = quoted_joint a in
      whether (is "'" x)
      (λ t. quoted_true x (a ++ c ∷ b) t ∙ sym (quoted_true x a t))
      (λ t. quoted_false x (a ++ c ∷ b) t ∙ ap suc (ih (rw t at h)) ∙ sym (quoted_false x a t))

  equals_joint : is "=" c ≡ false → (a : List ℕ) → equals (a ++ c ∷ b) ≡ equals a
  unfolding equals
  equals_joint e [] = equals_false c b e
  equals_joint e (x ∷ a) = refl

-- what a token of this shape must have behind it: a string literal its quote
Ends : Shape → List ℕ → Type 0
Ends Quoted a = T (has_quote a)
Ends k a = Unit {0}

more_joint : {c : ℕ} → Stops c → (b : List ℕ) (k : Shape) (a : List ℕ) → Ends k a → more k (a ++ c ∷ b) ≡ more k a
unfolding Ends
more_joint {c} z b Quoted a h = quoted_joint c b a h
more_joint {c} z b Blanks a h = run_joint c b (goes_on Blanks) z.blank a
more_joint {c} z b Digits a h = run_joint c b (goes_on Digits) z.digit a
more_joint {c} z b Word a h = run_joint c b (goes_on Word) z.word a
more_joint {c} z b Character a h = run_joint c b (goes_on Character) z.trailing a
more_joint {c} z b (Operator k m) a h = equals_joint c b z.equal a
more_joint {c} z b (Symbol k) a h = refl

has_quote_take : (n : ℕ) (a : List ℕ) → T (has_quote (take n a)) → T (has_quote a)
unfolding has_quote
has_quote_take zero a h = absurd h
has_quote_take (suc n) [] h = absurd h
has_quote_take (suc n) (x ∷ a) h =
    let ih = has_quote_take n a in
    whether (is "'" x) (λ t. rw t tt) (λ t. rw t (ih (rw t at h)))

-- a closed token's string literal has its quote
closed_ends : (k : Shape) (x n : ℕ) (a : List ℕ) → T (is_closed (record { kind = kind_of k (x ∷ take n a); text = x ∷ take n a })) → Ends k a
unfolding is_closed Ends
closed_ends Quoted x n a h = has_quote_take n a h
closed_ends Blanks x n a h = tt
closed_ends (Symbol k) x n a h = tt
closed_ends (Operator k m) x n a h = tt
closed_ends Digits x n a h = tt
closed_ends Word x n a h = tt
closed_ends Character x n a h = tt

module _ (c : ℕ) (b : List ℕ) (z : Stops c) where
  past_joint : (x : ℕ) (a : List ℕ) → T (is_closed (token x a)) → past x (a ++ c ∷ b) ≡ past x a
  unfolding past token
  past_joint x a h = more_joint z b (shape_of x) a (closed_ends (shape_of x) x (past x a) a h)

  token_joint : (x : ℕ) (a : List ℕ) → T (is_closed (token x a)) → token x (a ++ c ∷ b) ≡ token x a
  unfolding token
  token_joint x a h =
      let e : take (past x a) (a ++ c ∷ b) ≡ take (past x a) a = take-append-le (past x a) a (c ∷ b) (past_le x a) in
      rw (past_joint x a h, e)

  joint : (a : List ℕ) (n : ℕ) → n ≤ length a → T (closed (lex_from a n)) → lex_from (a ++ c ∷ b) n ≡ lex_from a n ++ lex (c ∷ b)
  unfolding lex_from lex closed
  joint [] zero h t = refl
  joint [] (suc n) h t = absurd (not-suc-le-zero h)
  joint (x ∷ a) (suc n) h t = joint a n (le_of_suc-le-suc h) t
  joint (x ∷ a) zero h t =
      let t₁ = and_left (is_closed (token x a)) (closed (lex_from a (past x a))) t in
      let t₂ = and_right (is_closed (token x a)) (closed (lex_from a (past x a))) t in
      rw (token_joint x a t₁, past_joint x a t₁) (ap (λ (ts : List Token). token x a ∷ ts) (joint a (past x a) (past_le x a) t₂))

-- `.`, `(` and `)`: each is a token by itself, and none goes on a token before it
pub data Joint : ℕ → Type 0 where
  dot : Joint 0x2E
  opening : Joint 0x28
  closing : Joint 0x29

unfoldable pub joint_kind : {c : ℕ} → Joint c → ℕ
joint_kind dot = DOT
joint_kind opening = L_PAREN
joint_kind closing = R_PAREN

joint_stops : {c : ℕ} → Joint c → Stops c
unfolding is_ascii_whitespace is_ascii_digit is_ident_continue is_trailing
joint_stops dot = search rules
joint_stops opening = search rules
joint_stops closing = search rules

-- such a byte parts a text in which no quote before it is unclosed
pub lex_joint : {c : ℕ} → Joint c → (a b : List ℕ) → T (closed (lex a)) → lex (a ++ c ∷ b) ≡ lex a ++ lex (c ∷ b)
unfolding lex
lex_joint {c} j a b t = joint c b (joint_stops j) a 0 zero-le t

pub lex_joint_first : {c : ℕ} (j : Joint c) (b : List ℕ) → lex (c ∷ b) ≡ record { kind = joint_kind j; text = c ∷ [] } ∷ lex b
unfolding joint_kind token past shape_of
lex_joint_first dot b = lex_cons 0x2E b
lex_joint_first opening b = lex_cons 0x28 b
lex_joint_first closing b = lex_cons 0x29 b

-- tokens one after the other
pub joined_append : (x y : List Token) → joined (x ++ y) ≡ joined x ++ joined y
unfolding joined
joined_append [] y = refl
joined_append (t ∷ x) y = rw (joined_append x y) (sym (append_assoc t.text (joined x) (joined y)))

pub closed_append : (x y : List Token) → closed (x ++ y) ≡ closed x && closed y
unfolding closed
closed_append [] y = refl
closed_append (t ∷ x) y = rw (closed_append x y) (sym (and_assoc (is_closed t) (closed x) (closed y)))

-- what the library's words for a run and a place say of `run` and `quoted`
prefix_run : (p : ℕ → Bool) (s : List ℕ) → prefix_len p s ≡ run p s
unfolding run
prefix_run p [] = refl
prefix_run p (b ∷ s) =
    let ih = prefix_run p s in
    whether (p b) (λ e. let z : 1 + prefix_len p s ≡ run p (b ∷ s) = omega (arith, ih, run_true p b s e) in rw e z) (λ e. let z = run_false p b s e in rw e (rw z))

pub run_length : (p : ℕ → Bool) (s : List ℕ) → length (take_while p s) ≡ run p s
run_length p s = simp length-take (omega (arith, prefix_run p s, run_le p s))

-- one byte more than stand before the first quote, or all
quoted_prefix : (s : List ℕ) → quoted s ≡ min (position_or_len (λ b. b == 39) s + 1) (length s)
unfolding quoted
quoted_prefix [] = refl
quoted_prefix (b ∷ s) = let ih = quoted_prefix s in whether (is "'" b) (λ e. let q = quoted_true b s e in rw e (omega (arith, q))) (λ e. let q = quoted_false b s e in rw e (omega (arith, ih, q)))

pub quoted_some : (s : List ℕ) {k : ℕ} → position (λ b. b == 39) s ≡ Some k → k + 1 ≡ quoted s
quoted_some s {k} e =
    let n = position_or_len (λ (b : ℕ). b == 39) s in
    whether (ltb n (length s))
    (λ t. let f : ◌≡◌ {A = Option ℕ} (Some n) (Some k) = rw t at e in let m : n ≡ k = cc in omega (arith, quoted_prefix s, ltb-true n (length s) t))
    (λ t. let f : ◌≡◌ {A = Option ℕ} None (Some k) = rw t at e in cc)

pub quoted_none : (s : List ℕ) → position (λ b. b == 39) s ≡ None → length s ≡ quoted s
quoted_none s e =
    let n = position_or_len (λ (b : ℕ). b == 39) s in
    whether (ltb n (length s))
    (λ t. let f : ◌≡◌ {A = Option ℕ} (Some n) None = rw t at e in cc)
    (λ t. omega (arith, quoted_prefix s, ltb-false n (length s) t))

-- what `equals` says, as a test of the front
pub equals_front : (s : List ℕ) → bool_byte (starts_with eqb s (61 ∷ [])) ≡ equals s
unfolding equals
equals_front [] = refl
equals_front (b ∷ s) =
    whether (eqb 61 b) (λ e. rw (e, eq-eqb b 61 (sym (eqb-true 61 b e))) refl) (λ e. rw (e, ne_eqb b 61 (λ q. eqb-false 61 b e (sym q))) refl)

-- a test as a number
pub byte_is : (t : Bool) → bool_byte t ≡ cond t 1 0
byte_is true = refl
byte_is false = refl

-- the library's tests of a byte are those of the definitions, compared at each byte
module _ (b : ℕ) (h : b < 256) where
  pub blank_is : of_char.is_ascii_whitespace b ≡ is_ascii_whitespace b
  unfolding is_ascii_whitespace is_blank
  blank_is = agree of_char.is_ascii_whitespace is_ascii_whitespace tt b h

  pub digit_is : of_char.is_ascii_digit b ≡ is_ascii_digit b
  unfolding is_ascii_digit
  digit_is = agree of_char.is_ascii_digit is_ascii_digit tt b h

  pub ident_start_is : is_ident_start b ≡ (of_char.is_ascii_alphabetic b || eqb b 95)
  unfolding is_ident_start
  ident_start_is = agree is_ident_start (λ b. of_char.is_ascii_alphabetic b || eqb b 95) tt b h

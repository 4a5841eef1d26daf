-- How many tokens `(` and `not` a text has at most, by its bytes alone. Assumes nothing.
use mathlib.Core.Path.{◌≡◌, refl, sym}
use mathlib.Core.Bool.{Bool, true, false, cond, ◌&&◌, ◌||◌, or-true, false≢true}
use mathlib.Core.List.{List, [], ◌∷◌}
use Prim.Native.Nat.{ℕ, zero, suc, ◌+◌, ◌≤◌, ◌<◌, zero-le}
use borrow.Author.Tests.{le-ltb}
use native.Mathlib.Omega.{arith}
use Rattle.syntax.specs.Kinds.{number}
use lib.Dec.{eqb, ltb}
use lib.ListN.{length, take, drop, get_or, length-drop}
use Rattle.syntax.specs.Kind.{IDENT, AND_KW, OR_KW, NOT_KW}
use Rattle.syntax.specs.declared.kind.Kind.{Kind}
use Rattle.syntax.specs.declared.kind.Kind.TheVariants.{Dot, RParen, EqEq, Neq, Ge, Gt, Le, Lt, Comma, Error}
use Rattle.syntax.specs.Text.{ascii, is, same}
use Rattle.syntax.proofs.BoolLaws.{both, whether, one_small}
use Rattle.syntax.proofs.TextLaws.{from}
use Rattle.lexer.specs.declared.Shape.{Shape}
use Rattle.lexer.specs.declared.Shape.TheVariants.{Blanks, Quoted, Symbol, Operator, Digits, Word, Character}
use Rattle.lexer.specs.Bytes.{shape_of, is_blank, is_ascii_digit, is_ident_start}
use Rattle.lexer.specs.Lex.{Token, word_kind, kind_of, past, token, lex_from, lex, is_opener, openers_in}
use Rattle.lexer.specs.LexScan.{openers_at}
use Rattle.lexer.specs.Read.{MAX_OPENERS}
use Rattle.lexer.proofs.ReadLaws.{lex_length}

-- the kinds of words, of which `not` alone is an opener's
not_word_lem : (x y z : Bool) → is_opener (cond x AND_KW (cond y OR_KW (cond z NOT_KW IDENT))) ≡ true → z ≡ true
not_word_lem true y z h = absurd (false≢true h)
not_word_lem false true z h = absurd (false≢true h)
not_word_lem false false true h = refl
not_word_lem false false false h = absurd (false≢true h)

-- a token of this shape with the bytes b ∷ w is an opener only if one may begin with b before c
record Opens (b c : ℕ) (w : List ℕ) (k : Shape) : Type 0 where
  opens : is_opener (kind_of k (b ∷ w)) ≡ true → openers_at b c ≡ 1

word_opens : (b c n : ℕ) (s : List ℕ) → Opens b c (take n (c ∷ s)) Word
unfolding word_kind openers_at
word_opens b c n s =
    let w = b ∷ take n (c ∷ s) in
    record { opens = λ h. go n (both (is "n" b) (same (take n (c ∷ s)) (ascii "ot")) (not_word_lem (same w (ascii "and")) (same w (ascii "or")) _ h)) }
  where
    go : (n : ℕ) → (is "n" b ≡ true) × (same (take n (c ∷ s)) (ascii "ot") ≡ true) → ◌≡◌ {A = ℕ} (cond (is "(" b || is "n" b && is "o" c) 1 0) 1
    go zero e = absurd (false≢true e.1)
    go (suc n) e = rw (e.0, (both (is "o" c) (same (take n s) (ascii "t")) e.1).0, or-true)

module _ {b c : ℕ} {w : List ℕ} where
  -- by cases on a test that picks the shape
  pick : {x y : Shape} (t : Bool) → (t ≡ true → Opens b c w x) → Opens b c w y → Opens b c w (cond t x y)
  pick true p q = p refl
  pick false p q = q

  operator_opens : (k m : Kind) → is_opener (number k) ≡ false → is_opener (number m) ≡ false → Opens b c w (Operator k m)
  operator_opens k m p q = record { opens = go (eqb (length (b ∷ w)) 1) }
    where
      go : (t : Bool) → is_opener (cond t (number k) (number m)) ≡ true → openers_at b c ≡ 1
      go true h = absurd (false≢true (cc))
      go false h = absurd (false≢true (cc))

  never_opens : (k : Shape) → is_opener (kind_of k (b ∷ w)) ≡ false → Opens b c w k
  never_opens k p = record { opens = λ h. absurd (false≢true (cc)) }

  shape_opens : Opens b c w Word → Opens b c w (shape_of b)
  unfolding shape_of openers_at
  shape_opens word =
      pick (is_blank b) (λ e. never_opens Blanks refl)
      (pick (is "'" b) (λ e. never_opens Quoted refl)
      (pick (is "." b) (λ e. never_opens (Symbol Dot) refl)
      (pick (is "(" b) (λ e. record { opens = λ h. rw e })
      (pick (is ")" b) (λ e. never_opens (Symbol RParen) refl)
      (pick (is "," b) (λ e. never_opens (Symbol Comma) refl)
      (pick (is "=" b) (λ e. operator_opens Error EqEq refl refl)
      (pick (is "!" b) (λ e. operator_opens Error Neq refl refl)
      (pick (is ">" b) (λ e. operator_opens Gt Ge refl refl)
      (pick (is "<" b) (λ e. operator_opens Lt Le refl refl)
      (pick (is_ascii_digit b) (λ e. never_opens Digits refl)
      (pick (is_ident_start b) (λ e. word) (never_opens Character refl))))))))))))

-- how many bytes of s but the last may begin an opener
unfoldable pub open_pairs : List ℕ → ℕ
open_pairs [] = 0
open_pairs (b ∷ []) = 0
open_pairs (b ∷ c ∷ s) = openers_at b c + open_pairs (c ∷ s)

pairs_end : (s : List ℕ) → length s ≤ 1 → open_pairs s ≡ 0
unfolding open_pairs
pairs_end [] h = refl
pairs_end (b ∷ []) h = refl
pairs_end (b ∷ c ∷ s) h = omega arith

openers_at_le : (b c : ℕ) → openers_at b c ≤ 1
unfolding openers_at
openers_at_le b c = one_small (is "(" b || is "n" b && is "o" c)

token_openers : (b c : ℕ) (s : List ℕ) → cond (is_opener (token b (c ∷ s)).kind) 1 0 ≤ openers_at b c
unfolding token
token_openers b c s =
    let n = past b (c ∷ s) in
    let k = is_opener (token b (c ∷ s)).kind in
    whether k
    (λ e. omega (arith, one_small k, (shape_opens (word_opens b c n s)).opens e))
    (λ e. rw e zero-le)

lex_from_openers : (s : List ℕ) (n : ℕ) → openers_in (lex_from s n) ≤ 1 + open_pairs s
unfolding lex_from openers_in open_pairs
lex_from_openers [] n = zero-le
lex_from_openers (b ∷ []) zero = omega (arith, one_small (is_opener (token b []).kind))
lex_from_openers (b ∷ []) (suc n) = zero-le
lex_from_openers (b ∷ c ∷ s) zero = omega (arith, token_openers b c s, lex_from_openers (c ∷ s) (past b (c ∷ s)))
lex_from_openers (b ∷ c ∷ s) (suc n) = omega (arith, lex_from_openers (c ∷ s) n)

-- no more tokens are openers than there are tokens, and so than there are bytes
openers_fewer : (ts : List Token) → openers_in ts ≤ length ts
unfolding openers_in
openers_fewer [] = zero-le
openers_fewer (t ∷ ts) = omega (arith, one_small (is_opener t.kind), openers_fewer ts)

pub openers_length : (s : List ℕ) → openers_in (lex s) ≤ length s
openers_length s = omega (arith, openers_fewer (lex s), lex_length s)

-- a bound that is small enough settles refusal 4
pub few_openers : (s : List ℕ) {n : ℕ} → openers_in (lex s) ≤ n → n ≤ MAX_OPENERS → false ≡ ltb MAX_OPENERS (openers_in (lex s))
few_openers s h l = sym (le-ltb MAX_OPENERS (openers_in (lex s)) (omega arith))

-- n and the bytes from i on bound the openers
pub record Bounded (rule : List ℕ) (i n : ℕ) : Type 0 where
  pub within : i ≤ length rule
  pub few : n ≤ i + 1
  pub bound : openers_in (lex rule) ≤ n + open_pairs (drop i rule)

pub bounded_start : {rule : List ℕ} → Bounded rule 0 1
unfolding lex
bounded_start {rule} = record { within = zero-le; few = omega arith; bound = lex_from_openers rule 0 }

module _ {rule : List ℕ} {i n : ℕ} (h : Bounded rule i n) where
  pub bounded_step : {k : ℕ} → i + 1 < length rule → k ≡ openers_at (get_or rule i 0) (get_or rule (i + 1) 0) → Bounded rule (i + 1) (n + k)
  unfolding open_pairs
  bounded_step {k} l e =
      let first : i < length rule = omega arith in
      let d : open_pairs (drop i rule) ≡ k + open_pairs (drop (i + 1) rule) = rw (from rule i first, from rule (i + 1) l, e) in
      record { within = omega arith; few = omega (arith, h.few, openers_at_le (get_or rule i 0) (get_or rule (i + 1) 0)); bound = omega (arith, h.bound) }

  pub bounded_end : length rule ≤ i + 1 → openers_in (lex rule) ≤ n
  bounded_end l = omega (arith, h.bound, pairs_end (drop i rule) (simp length-drop (omega arith)))

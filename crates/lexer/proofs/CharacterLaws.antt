-- Of a UTF-8 text: every token begins where a character begins, and every ERROR token is one whole character. Assumes nothing.
use mathlib.Core.Path.{◌≡◌, refl, subst}
use mathlib.Core.Bool.{Bool, true, false, not, ◌&&◌, ◌||◌, or-true, and-false}
use mathlib.Core.List.{List, [], ◌∷◌}
use Prim.Native.Nat.{ℕ, zero, suc, ◌≤◌, ◌<◌, zero-le}
use native.Mathlib.Omega.{arith}
use borrow.Author.Tests.{ltb-true, ltb-false, le-leb, lt-leb, ne_eqb, not-true}
use lib.Dec.{T, eqb, leb, ltb, leb→le, ltb→lt}
use lib.ListN.{length, take, drop}
use Rattle.syntax.specs.Kinds.{number}
use Rattle.syntax.specs.Kind.{ERROR}
use Rattle.syntax.specs.Text.{ascii, is, same}
use Rattle.syntax.specs.Utf8.{Range, Row, within, After, ill, needs, table, after_in, after, well_from, utf8, in_ranges, is_character}
use Rattle.syntax.proofs.BoolLaws.{whether, true→T, T→true, and_left, and_right}
use Rattle.syntax.proofs.EveryByte.{below, at_each, agree}
use Rattle.syntax.proofs.Utf8Laws.{well_ill, well_needs, well_in, well_out}
use Rattle.lexer.specs.declared.Shape.{Shape}
use Rattle.lexer.specs.declared.Shape.TheVariants.{Blanks, Quoted, Symbol, Operator, Digits, Word, Character}
use Rattle.lexer.specs.Bytes.{shape_of, goes_on, is_ascii_whitespace, is_ascii_digit, is_ident_continue, is_trailing}
use Rattle.lexer.specs.Lex.{run, quoted, equals, more, word_kind, kind_of, past, lex_from, lex}
use Rattle.lexer.specs.Tokens.{errors_are_characters}
use Rattle.lexer.proofs.LexLaws.{run_true, run_false, quoted_true, quoted_false, equals_true, equals_false}

-- the first bytes of the rows are below 256
Bytes : List Row → Type 0
Bytes [] = Unit {0}
Bytes (r ∷ rows) = (r.first.high < 256) × Bytes rows

high_ill : (rows : List Row) (b : ℕ) → Bytes rows → 256 ≤ b → after_in rows b ≡ ill
unfolding Bytes after_in
high_ill [] b t h = refl
high_ill (r ∷ rows) b t h =
    let e : within r.first b ≡ false = rw (lt-leb b r.first.high (omega arith)) (and-false (leb r.first.low b)) in
    rw (e, after_in) (high_ill rows b t.1 h)

-- whether the ranges are of trailing bytes alone
trailing : List Range → Bool
trailing [] = true
trailing (r ∷ rs) = (leb 0x80 r.low && leb r.high 0xBF) && trailing rs

-- whether a byte after which this must come is no trailing byte, and trailing bytes alone must come
leads : ℕ → After → Bool
unfolding trailing
leads b ill = true
leads b (needs rs) = not (is_trailing b) && trailing rs

-- the first byte of a UTF-8 text, and the text after it
record First (b : ℕ) (s : List ℕ) : Type 0 where
  byte : b < 256
  lead : is_trailing b ≡ false
  rest : List Range
  asks : after b ≡ needs rest
  trails : T (trailing rest)
  well : T (well_from s rest)

first : (b : ℕ) (s : List ℕ) → T (utf8 (b ∷ s)) → First b s
unfolding Bytes utf8 leads is_trailing
first b s h =
    whether (ltb b 256)
    (λ e. go (after b) refl (ltb-true b 256 e))
    (λ e. absurd (subst T (well_ill b s (high_ill table b (omega arith) (ltb-false b 256 e))) h))
  where
    go : (y : After) → after b ≡ y → b < 256 → First b s
    go ill e l = absurd (subst T (well_ill b s e) h)
    go (needs rs) e l =
        let t = rw e at (at_each (λ x. leads x (after x)) 256 tt b l) in
        record {
          byte = l;
          lead = not-true (is_trailing b) (T→true (not (is_trailing b)) (and_left (not (is_trailing b)) (trailing rs) t));
          rest = rs;
          asks = e;
          trails = and_right (not (is_trailing b)) (trailing rs) t;
          well = subst T (well_needs b s rs e) h;
        }

bounds : (a b c d : ℕ) → T (leb a b && leb c d) → (a ≤ b) × (c ≤ d)
bounds a b c d t = (leb→le a b (and_left (leb a b) (leb c d) t), leb→le c d (and_right (leb a b) (leb c d) t))

-- a byte that must be in the range r, and the text after it
record Next (b : ℕ) (s : List ℕ) (r : Range) (rs : List Range) : Type 0 where
  inside : within r b ≡ true
  low : 0x80 ≤ b
  high : b ≤ 0xBF
  trails : T (trailing rs)
  well : T (well_from s rs)

next : (b : ℕ) (s : List ℕ) (r : Range) (rs : List Range) → T (trailing (r ∷ rs)) → T (well_from (b ∷ s) (r ∷ rs)) → Next b s r rs
unfolding trailing
next b s r rs i h = whether (within r b) go (λ e. absurd (subst T (well_out b s r rs e) h))
  where
    go : within r b ≡ true → Next b s r rs
    go e =
        let p = leb 0x80 r.low && leb r.high 0xBF in
        let x = bounds 0x80 r.low r.high 0xBF (and_left p (trailing rs) i) in
        let y = bounds r.low b b r.high (true→T e) in
        record { inside = e; low = omega arith; high = omega arith; trails = and_right p (trailing rs) i; well = subst T (well_in b s r rs e) h }

-- the trailing bytes that s begins with are one in each of the ranges rs, and a UTF-8 text follows them
record Whole (s : List ℕ) (rs : List Range) : Type 0 where
  ranges : in_ranges (take (run is_trailing s) s) rs ≡ true
  rest : T (utf8 (drop (run is_trailing s) s))

whole : (s : List ℕ) (rs : List Range) → T (trailing rs) → T (well_from s rs) → Whole s rs
unfolding run utf8 in_ranges is_trailing
whole [] [] i h = record { ranges = refl; rest = tt }
whole [] (r ∷ rs) i h = absurd h
whole (b ∷ s) [] i h =
    let e = run_false is_trailing b s (first b s h).lead in
    record { ranges = rw e; rest = rw e h }
whole (b ∷ s) (r ∷ rs) i h =
    let n = next b s r rs i h in
    let e = run_true is_trailing b s (rw (le-leb 0x80 b n.low, le-leb b 0xBF n.high)) in
    let ih = whole s rs n.trails n.well in
    record { ranges = rw (e, n.inside) ih.ranges; rest = rw e ih.rest }

-- the bytes that pass a test are below 128, by a test at each
abbrev Ascii : (ℕ → Bool) → Type 0
Ascii p = T (below (λ b. not (p b) || ltb b 128) 256)

-- such a byte is a character by itself: nothing must come after it, and a UTF-8 text does
module _ (p : ℕ → Bool) (a : Ascii p) (b : ℕ) (s : List ℕ) (h : T (utf8 (b ∷ s))) (e : p b ≡ true) where
  ascii_after : after b ≡ needs []
  unfolding after
  ascii_after =
      let l = ltb→lt b 128 (rw e at (at_each (λ b. not (p b) || ltb b 128) 256 a b (first b s h).byte)) in
      rw (le-leb 0 b zero-le, le-leb b 0x7F (omega arith), after_in)

  ascii_next : T (utf8 s)
  unfolding utf8
  ascii_next = subst T (well_needs b s [] ascii_after) h

-- a UTF-8 text follows a run of such bytes, a `=` that may come next, and the rest of a string literal
run_next : (p : ℕ → Bool) → Ascii p → (s : List ℕ) → T (utf8 s) → T (utf8 (drop (run p s) s))
unfolding run
run_next p a [] h = h
run_next p a (b ∷ s) h =
    let ih = run_next p a s in
    whether (p b) (λ e. rw (run_true p b s e) (ih (ascii_next p a b s h e))) (λ e. rw (run_false p b s e) h)

equals_next : (s : List ℕ) → T (utf8 s) → T (utf8 (drop (equals s) s))
unfolding equals
equals_next [] h = h
equals_next (b ∷ s) h =
    whether (is "=" b)
    (λ e. rw (equals_true b s e) (ascii_next (is "=") tt b s h e))
    (λ e. rw (equals_false b s e) h)

quoted_next : (s : List ℕ) (rs : List Range) → T (trailing rs) → T (well_from s rs) → T (utf8 (drop (quoted s) s))
unfolding quoted utf8
quoted_next [] [] i h = tt
quoted_next [] (r ∷ rs) i h = absurd h
quoted_next (b ∷ s) [] i h =
    let f = first b s h in
    let ih = quoted_next s f.rest f.trails f.well in
    whether (is "'" b)
    (λ e. rw (quoted_true b s e) (ascii_next (is "'") tt b s h e))
    (λ e. rw (quoted_false b s e) ih)
quoted_next (b ∷ s) (r ∷ rs) i h =
    let n = next b s r rs i h in
    rw (quoted_false b s (ne_eqb b 0x27 (λ e. omega arith))) (quoted_next s rs n.trails n.well)

-- whether no trailing byte goes on the token that b begins: its shape is any but `Character`
alone : ℕ → Bool
alone b = not (goes_on (shape_of b) 0x80)

alone_ascii : Ascii alone
unfolding alone shape_of is_ascii_whitespace is_ident_continue is_trailing
alone_ascii = tt

word_kind_lem : (w : List ℕ) → eqb (word_kind w) ERROR ≡ false
unfolding word_kind
word_kind_lem w =
    whether (same w (ascii "and")) (λ x. rw x)
    (λ x. whether (same w (ascii "or")) (λ y. rw (x, y))
    (λ y. whether (same w (ascii "not")) (λ z. rw (x, y, z)) (λ z. rw (x, y, z))))

module _ (b : ℕ) (s : List ℕ) (h : T (utf8 (b ∷ s))) where
  alone_next : alone b ≡ true → T (utf8 s)
  alone_next e = ascii_next alone alone_ascii b s h e

  more_next : (k : Shape) → shape_of b ≡ k → T (utf8 (drop (more k s) s))
  unfolding alone is_ascii_whitespace is_ident_continue
  more_next Blanks e = run_next is_ascii_whitespace tt s (alone_next (rw e))
  more_next Digits e = run_next is_ascii_digit tt s (alone_next (rw e))
  more_next Word e = run_next is_ident_continue tt s (alone_next (rw e))
  more_next Character e = let f = first b s h in (whole s f.rest f.trails f.well).rest
  more_next Quoted e = let f = first b s h in quoted_next s f.rest f.trails f.well
  more_next (Operator k m) e = equals_next s (alone_next (rw e))
  more_next (Symbol k) e = alone_next (rw e)

  -- two bytes are an ERROR where a trailing byte goes on the token, and nowhere else
  pair_kind : eqb (kind_of (shape_of b) (0 ∷ 0 ∷ [])) ERROR ≡ goes_on (shape_of b) 0x80
  unfolding shape_of word_kind is_ascii_whitespace is_ident_continue is_trailing
  pair_kind = agree (λ b. eqb (kind_of (shape_of b) (0 ∷ 0 ∷ [])) ERROR) (λ b. goes_on (shape_of b) 0x80) tt b (first b s h).byte

  token_character : (k : Shape) → shape_of b ≡ k → (x : List ℕ) → take (more k s) s ≡ x → (not (eqb (kind_of k (b ∷ x)) ERROR) || is_character (b ∷ x)) ≡ true
  unfolding is_character alone
  token_character Blanks e x q = refl
  token_character Digits e x q = refl
  token_character Word e x q = rw (word_kind_lem (b ∷ x))
  token_character Character e x q = let f = first b s h in rw (f.asks, is_character, ← q) (whole s f.rest f.trails f.well).ranges
  token_character Quoted e x q = refl
  token_character (Operator k m) e [] q = rw (ascii_after alone alone_ascii b s h (rw e), is_character) (or-true (not (eqb (number k) ERROR)))
  token_character (Operator k m) e (c ∷ x) q = rw (ne_eqb (length (b ∷ c ∷ x)) 1 (λ z. omega arith), rw e at pair_kind)
  token_character (Symbol k) e x q = rw (rw e at pair_kind)

-- what follows the first token of a UTF-8 text is a UTF-8 text: every token begins where a character begins
pub utf8_next : (b : ℕ) (s : List ℕ) → T (utf8 (b ∷ s)) → T (utf8 (drop (past b s) s))
unfolding past
utf8_next b s h = more_next b s h (shape_of b) refl

characters_from : (s : List ℕ) (n : ℕ) → T (utf8 (drop n s)) → T (errors_are_characters (lex_from s n))
unfolding errors_are_characters lex_from
characters_from [] n h = tt
characters_from (b ∷ s) zero h =
    rw (token_character b s h (shape_of b) refl (take (past b s) s) refl) (characters_from s (past b s) (utf8_next b s h))
characters_from (b ∷ s) (suc n) h = characters_from s n h

-- every ERROR token of a UTF-8 text is one whole character
pub error_characters : (s : List ℕ) → T (utf8 s) → T (errors_are_characters (lex s))
unfolding lex
error_characters s h = characters_from s 0 h

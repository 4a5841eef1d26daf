-- What a reader finds in the token rows of a rule. Assumes nothing.
use mathlib.Core.Path.{◌≡◌, refl, sym, ap, ◌∙◌}
use mathlib.Core.List.{List, [], ◌∷◌}
use Prim.Native.Nat.{ℕ, zero, suc, ◌+◌, ◌*◌, ◌-◌, ◌≤◌, ◌<◌}
use native.Mathlib.Numerals.{add-one}
use native.Mathlib.Omega.{arith}
use borrow.Author.Tests.{ltb-true, ltb-false}
use lib.Dec.{eqb, ltb}
use lib.ListN.{length, take, drop, get_or, drop_of_length-le}
use Rattle.std.specs.Prelude.{Option, Some, None}
use Rattle.syntax.specs.Kind.{WHITESPACE}
use Rattle.syntax.proofs.BoolLaws.{whether}
use Rattle.lexer.specs.Lex.{Token, lex, token_rows}
use Rattle.reader.specs.declared.Row.{Row}
use Rattle.reader.specs.Reader.{rows_of, row_at, kind_at, blanks, past_ws}
use Rattle.reader.specs.Reader as reader
use Rattle.reader.proofs.ReaderLaws.{row_here, row_some, row_none}
use Rattle.trees.specs.Green.{width}
use Rattle.trees.specs.Look.{skip_ws, first_kind, tail_of}
use Rattle.trees.proofs.TokenLaws as tokens

-- ---- past blanks

skip_rows : (at : ℕ) (ts : List Token) → (drop (blanks (rows_of (token_rows at ts))) ts ≡ skip_ws ts) × (blanks (rows_of (token_rows at ts)) ≤ length ts)
unfolding token_rows rows_of blanks skip_ws
skip_rows at [] = (refl, omega arith)
skip_rows at (t ∷ ts) =
    let r = skip_rows (at + length t.text) ts in
    whether (eqb t.kind WHITESPACE)
    (λ y. rw (y, skip_ws, blanks) (r.0, omega (arith, r.1)))
    (λ n. rw (n, skip_ws, blanks) (refl, omega arith))

past_rows : (at : ℕ) (ts : List Token) (i : ℕ) → drop (i + blanks (drop i (rows_of (token_rows at ts)))) ts ≡ skip_ws (drop i ts)
unfolding token_rows rows_of blanks skip_ws
past_rows at ts zero = ap (λ (n : ℕ). drop n ts) (omega arith) ∙ (skip_rows at ts).0
past_rows at [] (suc i) = drop_of_length-le [] {i = suc i + 0} (omega arith)
past_rows at (t ∷ ts) (suc i) =
    let n = blanks (drop i (rows_of (token_rows (at + length t.text) ts))) in
    let e : suc i + n ≡ suc (i + n) = omega arith in
    ap (λ (m : ℕ). drop m (t ∷ ts)) e ∙ past_rows (at + length t.text) ts i

rows_within : (at : ℕ) (ts : List Token) (i : ℕ) → i ≤ length ts → i + blanks (drop i (rows_of (token_rows at ts))) ≤ length ts
unfolding token_rows rows_of
rows_within at ts zero h = omega (arith, (skip_rows at ts).1)
rows_within at [] (suc i) h = absurd (omega arith)
rows_within at (t ∷ ts) (suc i) h = omega (arith, rows_within (at + length t.text) ts i (omega arith))

pub tail_drop : (ts : List Token) (i : ℕ) → drop (i + 1) ts ≡ tail_of (drop i ts)
tail_drop ts i = rw add-one (go ts i)
  where
    go : (us : List Token) (i : ℕ) → drop (suc i) us ≡ tail_of (drop i us)
    go [] zero = refl
    go [] (suc i) = refl
    go (u ∷ us) zero = refl
    go (u ∷ us) (suc i) = go us i

kind_rows : (at : ℕ) (ts : List Token) (i : ℕ) → kind_at (token_rows at ts) i ≡ first_kind (drop i ts)
unfolding kind_at row_at rows_of token_rows
kind_rows at [] zero = refl
kind_rows at [] (suc i) = refl
kind_rows at (t ∷ ts) zero = refl
kind_rows at (t ∷ ts) (suc i) = kind_rows (at + length t.text) ts i

module _ (ts : List Token) {rows : List ℕ} (e : rows ≡ token_rows 0 ts) (i : ℕ) where
  pub kind_is : kind_at rows i ≡ first_kind (drop i ts)
  kind_is = rw e (kind_rows 0 ts i)

  pub past_here : drop (past_ws rows i) ts ≡ skip_ws (drop i ts)
  unfolding past_ws
  past_here = rw e (past_rows 0 ts i)

  pub past_within : i ≤ length ts → past_ws rows i ≤ length ts
  unfolding past_ws
  past_within h = rw e (rows_within 0 ts i h)

  pub current_is : reader.current_kind rows i ≡ first_kind (skip_ws (drop i ts))
  unfolding reader.current_kind
  current_is = rw e (kind_rows 0 ts (past_ws (token_rows 0 ts) i) ∙ ap first_kind (rw e at past_here))

-- ---- the row of a token

pub record Seen (rule : List ℕ) (i : ℕ) (r : Row) : Type 0 where
  pub token : Token
  pub here : drop i (lex rule) ≡ token ∷ drop (i + 1) (lex rule)
  pub before : i < length (lex rule)
  pub kind : r.kind ≡ token.kind
  pub first : r.first ≡ width (take i (lex rule))
  pub end : r.end ≡ r.first + length token.text
  pub next : width (take (i + 1) (lex rule)) ≡ r.end
  pub within : r.end ≤ length rule
  pub text : take (r.end - r.first) (drop r.first rule) ≡ token.text

module _ (rule : List ℕ) {rows : List ℕ} (e : rows ≡ token_rows 0 (lex rule)) (i : ℕ) where
  pub unseen : None ≡ row_at rows i → drop i (lex rule) ≡ []
  unseen n =
      whether (ltb (length rows) (3 * i + 3))
      (λ t. tokens.none_in (lex rule) e i (omega (arith, tokens.rows_length (lex rule) e, ltb-true _ _ t)))
      (λ t. let q : ◌≡◌ {A = Option Row} None (Some (row_here rows i)) = n ∙ sym (row_some rows i (ltb-false _ _ t)) in absurd (cc))

  pub seen : {r : Row} → Some r ≡ row_at rows i → Seen rule i r
  seen {r} s =
      whether (ltb (length rows) (3 * i + 3))
      (λ t. let q : ◌≡◌ {A = Option Row} (Some r) None = s ∙ sym (row_none rows i (ltb-true _ _ t)) in absurd (cc))
      (λ t.
      let q : ◌≡◌ {A = Option Row} (Some r) (Some (row_here rows i)) = s ∙ sym (row_some rows i (ltb-false _ _ t)) in
      let same : r ≡ row_here rows i = cc in
      let w = tokens.row_in (lex rule) e i (omega (arith, ltb-false _ _ t)) in
      let first : get_or rows (3 * i + 1) 0 ≡ width (take i (lex rule)) = omega (arith, w.first) in
      let long : get_or rows (3 * i + 2) 0 - get_or rows (3 * i + 1) 0 ≡ length w.token.text = omega (arith, w.first, w.end) in
      rw same (record {
        token = w.token;
        here = w.here;
        before = omega (arith, tokens.rows_length (lex rule) e, ltb-false _ _ t);
        kind = w.kind;
        first = first;
        end = omega (arith, w.first, w.end);
        next = omega (arith, w.next, w.end);
        within = omega (arith, w.end, tokens.text_within rule w);
        text = rw (long, first) (tokens.text_part rule w);
      }))

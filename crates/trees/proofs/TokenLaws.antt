-- What the token table holds at a cursor. Assumes nothing.
use mathlib.Core.Path.{◌≡◌, refl, sym, ap, ◌∙◌}
use mathlib.Core.List.{List, [], ◌∷◌, ◌++◌}
use Prim.Native.Nat.{ℕ, zero, suc, ◌+◌, ◌*◌, ◌≤◌, ◌<◌}
use native.Mathlib.Omega.{arith}
use lib.ListN.{length, take, drop, get_or, drop_of_length-le, length-append}
use lib.Seq.{drop-drop, take-append_seam, drop-append_seam}
use Rattle.lexer.specs.Lex.{Token, lex, token_rows}
use Rattle.lexer.specs.Tokens.{joined}
use Rattle.lexer.proofs.LexLaws.{lex_joined}
use Rattle.lexer.proofs.ReadLaws.{token_rows_length}
use Rattle.trees.specs.Green.{width}
use Rattle.trees.specs.Writing.{Ready}
use Rattle.trees.specs.declared.Cursor.{Cursor}
use Rattle.trees.proofs.GreenLaws.{width_split}

-- the bytes of a rule's tokens are the rule's
width_joined : (ts : List Token) → width ts ≡ length (joined ts)
unfolding width joined
width_joined [] = refl
width_joined (t ∷ ts) = omega (arith, width_joined ts, length-append t.text (joined ts))

pub width_lex : (rule : List ℕ) → width (lex rule) ≡ length rule
width_lex rule = width_joined (lex rule) ∙ ap length (lex_joined rule)

-- the token at i, and what its row holds; the rows begin at byte o
pub record Row (o : ℕ) (tokens : List ℕ) (ts : List Token) (i : ℕ) : Type 0 where
  pub token : Token
  pub here : drop i ts ≡ token ∷ drop (i + 1) ts
  pub kind : get_or tokens (3 * i) 0 ≡ token.kind
  pub first : get_or tokens (3 * i + 1) 0 ≡ o + width (take i ts)
  pub end : get_or tokens (3 * i + 2) 0 ≡ o + width (take i ts) + length token.text
  pub next : width (take (i + 1) ts) ≡ width (take i ts) + length token.text

row_of : (o : ℕ) (ts : List Token) (i : ℕ) → i < length ts → Row o (token_rows o ts) ts i
unfolding token_rows width
row_of o [] i h = absurd (omega arith)
row_of o (t ∷ ts) zero h = record { token = t; here = refl; kind = refl; first = omega arith; end = omega arith; next = omega arith }
row_of o (t ∷ ts) (suc i) h =
    let r = row_of (o + length t.text) ts i (omega arith) in
    let rows = t.kind ∷ o ∷ (o + length t.text) ∷ token_rows (o + length t.text) ts in
    let a : 3 * suc i ≡ suc (suc (suc (3 * i))) = omega arith in
    let b : 3 * suc i + 1 ≡ suc (suc (suc (3 * i + 1))) = omega arith in
    let d : 3 * suc i + 2 ≡ suc (suc (suc (3 * i + 2))) = omega arith in
    let s : suc i + 1 ≡ suc (i + 1) = omega arith in
    record {
      token = r.token;
      here = rw s r.here;
      kind = ap (λ (k : ℕ). get_or rows k 0) a ∙ r.kind;
      first = ap (λ (k : ℕ). get_or rows k 0) b ∙ r.first ∙ omega arith;
      end = ap (λ (k : ℕ). get_or rows k 0) d ∙ r.end ∙ omega arith;
      next = rw s (omega (arith, r.next));
    }

-- a table that has the rows of tokens: three numbers for each, at each place a row, past the last nothing
module _ (ts : List Token) {tokens : List ℕ} (e : tokens ≡ token_rows 0 ts) where
  pub rows_length : length tokens ≡ 3 * length ts
  rows_length = omega (arith, ap length e, token_rows_length 0 ts)

  pub row_in : (i : ℕ) → 3 * i < length tokens → Row 0 tokens ts i
  row_in i h = let k : i < length ts = omega (arith, rows_length) in rw e (row_of 0 ts i k)

  pub none_in : (i : ℕ) → length tokens ≤ 3 * i → drop i ts ≡ []
  none_in i h = drop_of_length-le ts {i = i} (omega (arith, rows_length))

module _ {ts : List Token} {tokens : List ℕ} {c : Cursor} (r : Ready ts tokens c) where
  pub table_length : length tokens ≡ 3 * length ts
  table_length = rows_length ts r.rows

-- a token's bytes are a part of the rule
joined_drop : (ts : List Token) (i : ℕ) → drop (width (take i ts)) (joined ts) ≡ joined (drop i ts)
unfolding width joined
joined_drop ts zero = refl
joined_drop [] (suc i) = refl
joined_drop (t ∷ ts) (suc i) =
    sym (drop-drop (width (take i ts)) (length t.text) (t.text ++ joined ts))
    ∙ ap (λ (u : List ℕ). drop (width (take i ts)) u) (drop-append_seam t.text (joined ts)) ∙ joined_drop ts i

module _ (rule : List ℕ) {tokens : List ℕ} {i : ℕ} (w : Row 0 tokens (lex rule) i) where
  pub text_part : take (length w.token.text) (drop (width (take i (lex rule))) rule) ≡ w.token.text
  unfolding joined
  text_part =
      let e : drop (width (take i (lex rule))) rule ≡ w.token.text ++ joined (drop (i + 1) (lex rule)) =
      ap (λ (u : List ℕ). drop (width (take i (lex rule))) u) (sym (lex_joined rule)) ∙ joined_drop (lex rule) i ∙ ap joined w.here in
      rw e (take-append_seam w.token.text (joined (drop (i + 1) (lex rule))))

  pub text_within : width (take i (lex rule)) + length w.token.text ≤ length rule
  unfolding width
  text_within =
      let e : width (drop i (lex rule)) ≡ length w.token.text + width (drop (i + 1) (lex rule)) = ap width w.here in
      omega (arith, width_split i (lex rule), width_lex rule)

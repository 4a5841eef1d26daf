-- Reading a rule token by token: counting its openers, writing its rows, and what a check that it passed says. Assumes nothing.
use mathlib.Core.Path.{◌≡◌, refl, sym, ap, ◌∙◌}
use mathlib.Core.Bool.{Bool, true, false, cond, not}
use mathlib.Core.List.{List, [], ◌∷◌, ◌++◌, append_assoc}
use Prim.Native.Nat.{ℕ, zero, suc, zero-le, suc-le-suc, ◌+◌, ◌-◌, ◌*◌, ◌≤◌}
use native.Mathlib.Omega.{arith}
use borrow.Author.Tests.{ltb-false}
use lib.Dec.{ltb}
use lib.ListN.{length, take, drop, length-append, length-drop}
use lib.Seq.{sets, length-sets, drop-drop, length-take-le}
use borrow.Rule.Slice.PartMut.{put_mid}
use Rattle.std.proofs.lemmas.List.Edits.{sets-eq}
use Rattle.syntax.specs.Table.{with_rows}
use Rattle.syntax.specs.Utf8.{utf8}
use Rattle.syntax.specs.declared.refusal.Refusal.{Refusal}
use Rattle.syntax.proofs.BoolLaws.{neither}
use Rattle.syntax.proofs.TableLaws.{sets_append, sets_front}
use Rattle.syntax.specs.Refusal.{Check}
use Rattle.std.specs.Prelude.{Ok, Err}
use Rattle.lexer.specs.Lex.{Token, past, lex_from, lex, token_rows, is_opener, openers_in}
use Rattle.lexer.specs.Tokens.{joined}
use Rattle.lexer.specs.Read.{Lexed, MAX_RULE, TOKEN_ROW, tokens_short, tables_short, check_rule, check_room, tokens_read, Reads}
use Rattle.lexer.proofs.LexLaws.{lex_joined}

-- a rule has no more tokens than bytes
lex_from_length : (s : List ℕ) (n : ℕ) → length (lex_from s n) ≤ length s
unfolding lex_from
lex_from_length [] n = zero-le
lex_from_length (b ∷ s) zero = suc-le-suc (lex_from_length s (past b s))
lex_from_length (b ∷ s) (suc n) = omega (arith, lex_from_length s n)

pub lex_length : (s : List ℕ) → length (lex s) ≤ length s
unfolding lex
lex_length s = lex_from_length s 0

-- n openers are found among all tokens but those that are left
pub record Counted (all left : List Token) (n : ℕ) : Type 0 where
  pub fewer : n + length left ≤ length all
  pub count : n + openers_in left ≡ openers_in all

pub counted_start : {all left : List Token} → left ≡ all → Counted all left 0
counted_start e = rw e record { fewer = omega arith; count = omega arith }

module _ {all left rest : List Token} {t : Token} {n : ℕ} (c : Counted all left n) (e : left ≡ t ∷ rest) where
  next_openers : openers_in left ≡ cond (is_opener t.kind) 1 0 + openers_in rest
  unfolding openers_in
  next_openers = rw e

  pub counted_step : is_opener t.kind ≡ true → Counted all rest (n + 1)
  counted_step k =
      let next : openers_in left ≡ 1 + openers_in rest = next_openers ∙ rw k in
      record { fewer = omega (arith, c.fewer, ap length e); count = omega (arith, c.count) }

  pub counted_skip : is_opener t.kind ≡ false → Counted all rest n
  counted_skip k =
      let next : openers_in left ≡ 0 + openers_in rest = next_openers ∙ rw k in
      record { fewer = omega (arith, c.fewer, ap length e); count = omega (arith, c.count) }

pub counted_end : {all left : List Token} {n : ℕ} → Counted all left n → left ≡ [] → n ≡ openers_in all
unfolding openers_in
counted_end c e = let z : openers_in [] ≡ 0 = refl in omega (arith, c.count, ap openers_in e)

-- all tokens but those that are left stand in the first n rows of t, which was t₀, and have `at` bytes: writing the others behind them ends
-- as writing all does
pub record Written (all left : List Token) (t₀ t : List ℕ) (at n : ℕ) : Type 0 where
  pub bytes : at + length (joined left) ≡ length (joined all)
  pub long : length t ≡ length t₀
  pub count : n + length left ≡ length all
  pub rows : sets t (n * TOKEN_ROW) (token_rows at left) ≡ sets t₀ 0 (token_rows 0 all)

pub written_start : {all left : List Token} {t : List ℕ} → left ≡ all → Written all left t t 0 0
written_start e = rw e record { bytes = omega arith; long = refl; count = omega arith; rows = refl }

module _ {all left rest : List Token} {tok : Token} {t₀ t : List ℕ} {at n : ℕ} (w : Written all left t₀ t at n) (e : left ≡ tok ∷ rest) where
  next_bytes : length (joined left) ≡ length tok.text + length (joined rest)
  unfolding joined
  next_bytes = rw e (length-append tok.text (joined rest))

  next_rows : token_rows at left ≡ tok.kind ∷ at ∷ (at + length tok.text) ∷ token_rows (at + length tok.text) rest
  unfolding token_rows
  next_rows = rw e

  pub written_step : {t' : List ℕ} {end : ℕ} → end ≡ at + length tok.text → t' ≡ sets t (TOKEN_ROW * n) (tok.kind ∷ at ∷ end ∷ []) → Written all rest t₀ t' end (n + 1)
  written_step {t'} {end} q p =
      let row = tok.kind ∷ at ∷ end ∷ [] in
      let three : (n + 1) * TOKEN_ROW ≡ n * TOKEN_ROW + TOKEN_ROW = omega arith in
      let here : TOKEN_ROW * n ≡ n * TOKEN_ROW = omega arith in
      let others : row ++ token_rows end rest ≡ token_rows at left = rw q (sym next_rows) in
      record {
        bytes = omega (arith, w.bytes, next_bytes);
        long = ap length p ∙ length-sets t (TOKEN_ROW * n) row ∙ w.long;
        count = omega (arith, w.count, ap length e);
        rows = rw (three, p, here) (sym (sets_append row (token_rows end rest) t (n * TOKEN_ROW))) ∙ ap (sets t (n * TOKEN_ROW)) others ∙ w.rows;
      }

pub written_within : (rule : List ℕ) {left rest : List Token} {tok : Token} {t₀ t : List ℕ} {at n : ℕ} → Written (lex rule) left t₀ t at n → left ≡ tok ∷ rest
    → at + length tok.text ≤ length rule
written_within rule w e = omega (arith, w.bytes, next_bytes w e, ap length (lex_joined rule))

pub token_rows_length : (at : ℕ) (ts : List Token) → length (token_rows at ts) ≡ length ts * TOKEN_ROW
unfolding token_rows
token_rows_length at [] = refl
token_rows_length at (t ∷ ts) = omega (arith, token_rows_length (at + length t.text) ts)

pub written_end : (rule : List ℕ) {left : List Token} {t₀ t : List ℕ} {at n : ℕ} → Written (lex rule) left t₀ t at n → left ≡ [] → length rule * TOKEN_ROW ≤ length t₀
    → (n ≡ length (lex rule)) × (t ≡ with_rows (token_rows 0 (lex rule)) t₀)
unfolding token_rows
written_end rule {t₀ = t₀} {t = t} w z room =
    let rows = token_rows 0 (lex rule) in
    let r : t ≡ sets t₀ 0 rows = rw z at w.rows in
    (omega (arith, w.count, ap length z), r ∙ sets_front rows t₀ (omega (arith, token_rows_length 0 (lex rule), lex_length rule)))

never : {r : Refusal} → ◌≡◌ {A = Check} (Err r) (Ok tt) → ⊥
never e = let z : ◌≡◌ {A = ℕ} 0 1 = cc in omega arith

-- a test that refuses was not met where the check passed
not_met : (t : Bool) (r : Refusal) (x : Check) → cond t (Err r) x ≡ Ok tt → (t ≡ false) × (x ≡ Ok tt)
not_met true r x e = absurd (never e)
not_met false r x e = (refl, e)

-- what `check_rule` passes has lengths that refusals 1 and 3 pass
pub passed_lengths : (rule : List ℕ) (tokens tree errors : ℕ) → check_rule rule tokens tree errors ≡ Ok tt
    → (ltb MAX_RULE (length rule) ≡ false) × (tables_short (length rule) tokens tree errors ≡ false)
unfolding check_rule
passed_lengths rule tokens tree errors e =
    let long = not_met (ltb MAX_RULE (length rule)) _ _ e in
    let utf = not_met (not (utf8 rule)) _ _ long.1 in
    (long.0, (not_met (tables_short (length rule) tokens tree errors) _ _ utf.1).0)

-- so `lex` has room for it
pub passed_has_room : (rule : List ℕ) (tokens tree errors : ℕ) → check_rule rule tokens tree errors ≡ Ok tt → check_room rule tokens ≡ Ok tt
unfolding check_room
passed_has_room rule tokens tree errors e =
    let l = passed_lengths rule tokens tree errors e in
    rw (l.0, (neither (tokens_short (length rule) tokens) _ l.1).0)

-- a check that passed reads as another that passed does
pub passed_reads : {k m : Check} {rule before after : List ℕ} {r : Lexed} → k ≡ Ok tt → m ≡ Ok tt
    → Reads m rule before after r → Reads k rule before after r
passed_reads p q h = rw p (rw q at h)

-- a number of tokens that was given is at most the most bytes of a rule
pub tokens_few : (rule : List ℕ) (tokens tree errors n : ℕ) → Ok n ≡ tokens_read (check_rule rule tokens tree errors) rule → n ≤ MAX_RULE
tokens_few rule tokens tree errors n e = go (check_rule rule tokens tree errors) refl e
  where
    go : (k : Check) → check_rule rule tokens tree errors ≡ k → Ok n ≡ tokens_read k rule → n ≤ MAX_RULE
    go (Ok tt) p q =
        let same : n ≡ length (lex rule) = cc in
        omega (arith, ltb-false MAX_RULE (length rule) (passed_lengths rule tokens tree errors p).0, lex_length rule)
    go (Err r) p q = let z : ◌≡◌ {A = ℕ} 0 1 = cc in omega arith

-- some numbers in the place of as many
pub put_is : (t row ys : List ℕ) (at n : ℕ) → at + n ≤ length t → length ys ≡ length (take (at + n - at) (drop at t)) → ys ≡ row
    → put_mid at (at + n - at) t ys ≡ sets t at row
put_is t row ys at n h l e =
    let k : at + n - at ≡ n = omega arith in
    let m : length row ≡ n = ap length (sym e) ∙ l ∙ rw k (length-take-le n (drop at t) (omega (arith, length-drop at t))) in
    rw (e, k, drop-drop) (sym (append_assoc (take at t) row (drop (at + n) t)) ∙ sym (rw m at (sets-eq row t at (omega arith))))

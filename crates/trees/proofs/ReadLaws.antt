-- From the parser's functions to what a caller is told. Assumes nothing.
use mathlib.Core.Path.{◌≡◌, refl, sym, ap, ◌∙◌}
use mathlib.Core.Bool.{false}
use mathlib.Core.List.{List}
use Prim.Native.Nat.{ℕ, ◌+◌, ◌*◌, ◌/◌, ◌≤◌}
use native.Mathlib.Omega.{arith}
use borrow.Author.Tests.{ltb-false, le-ltb}
use lib.Dec.{ltb}
use lib.ListN.{length, take, drop, length-append}
use lib.Seq.{sets, take_at}
use Rattle.syntax.specs.Table.{with_rows}
use Rattle.syntax.specs.declared.refusal.Refusal.{Refusal}
use Rattle.syntax.proofs.BoolLaws.{neither}
use Rattle.syntax.proofs.TableLaws.{sets_front}
use Rattle.lexer.specs.Lex.{lex, token_rows}
use Rattle.lexer.specs.Read.{Lexed, MAX_RULE, TOKEN_ROW, TREE_ROW, ERROR_ROW, rows_needed, tokens_short, tables_short, check_rule, check_room}
use Rattle.syntax.specs.Refusal.{Check}
use Rattle.std.specs.Prelude.{Ok, Err}
use Rattle.lexer.proofs.ReadLaws.{lex_length, token_rows_length, passed_lengths}
use Rattle.trees.specs.Green.{size}
use Rattle.trees.specs.Parse.{parse_root, parse_expr}
use Rattle.trees.specs.Rows.{tree_rows, error_rows}
use Rattle.trees.specs.Writing.{Asks, Did}
use Rattle.trees.specs.Read.{Reading, check_tables, rows_read, Reads}
use Rattle.trees.specs.declared.Cursor.{Cursor}
use Rattle.trees.specs.declared.Rows.{Rows}
use Rattle.trees.proofs.GreenLaws.{tree_rows_length, error_rows_length}
use Rattle.trees.proofs.TokenLaws.{width_lex}
use Rattle.trees.proofs.BoundLaws.{rows_bound, errors_bound}

-- a table that has room has it for the rows of any rule of n bytes
pub record Room (n a b c : ℕ) : Type 0 where
  pub tokens : 3 * n ≤ a
  pub tree : 4 * (8 * n + 8) ≤ b
  pub errors : 4 * (8 * n + 8) ≤ c

pub room : (n tokens tree errors : ℕ) → tables_short n tokens tree errors ≡ false → Room n tokens tree errors
room n tokens tree errors e =
    let a = neither (tokens_short n tokens) _ e in
    let b = neither (ltb (tree / TREE_ROW) (rows_needed n)) _ a.1 in
    record {
      tokens = omega (arith, ltb-false (tokens / TOKEN_ROW) n a.0);
      tree = omega (arith, ltb-false (tree / TREE_ROW) (rows_needed n) b.0);
      errors = omega (arith, ltb-false (errors / ERROR_ROW) (rows_needed n) b.1);
    }

-- what `lex` has done where there is room: n tokens, their rows at the front of the table that held before
pub record Lexes (rule before after : List ℕ) (n : ℕ) : Type 0 where
  pub count : n ≡ length (lex rule)
  pub few : n ≤ length rule
  pub table : after ≡ with_rows (token_rows 0 (lex rule)) before
  pub rows : take (3 * n) after ≡ token_rows 0 (lex rule)
  pub part : 3 * n ≡ length (take (3 * n) after)
  pub within : 3 * n ≤ length after

module _ {rule before after : List ℕ} {r : Lexed} (short : length rule ≤ MAX_RULE) (fits : 3 * length rule ≤ length before)
    (l : Rattle.lexer.specs.Read.Reads (check_room rule (length before)) rule before after r) where
  passed : check_room rule (length before) ≡ Ok tt
  unfolding check_room
  passed = rw (le-ltb _ _ short, le-ltb (length before / TOKEN_ROW) (length rule) (omega arith))

  pub lexes : {n : ℕ} → r ≡ Ok n → Lexes rule before after n
  lexes {n} e =
      let a : r ≡ Ok (length (lex rule)) = rw passed at l.answer in
      let count : n ≡ length (lex rule) = cc in
      let table : after ≡ with_rows (token_rows 0 (lex rule)) before = rw passed at l.table in
      let long : length (token_rows 0 (lex rule)) ≡ 3 * n = omega (arith, token_rows_length 0 (lex rule)) in
      let rows : take (3 * n) after ≡ token_rows 0 (lex rule) = rw table (take_at (token_rows 0 (lex rule)) _ (3 * n) long) in
      record {
        count = count;
        few = omega (arith, lex_length rule);
        table = table;
        rows = rows;
        part = sym (ap length rows ∙ long);
        within = omega (arith, ap length table, length-append (token_rows 0 (lex rule)) (drop (length (token_rows 0 (lex rule))) before));
      }

  pub lex_refuses_not : {x : Refusal} → r ≡ Err x → ⊥
  lex_refuses_not {x} e =
      let a : r ≡ Ok (length (lex rule)) = rw passed at l.answer in
      let z : ◌≡◌ {A = ℕ} 0 1 = cc in
      omega arith

abbrev pub start : Cursor
start = record { token = 0; byte = 0; row = 0; error = 0 }

-- what the root's rows are in the tables
pub record Rooted (rule tree₀ tree₁ errors₀ errors₁ : List ℕ) (r : Cursor) : Type 0 where
  pub tree : tree₁ ≡ with_rows (tree_rows 0 0 (parse_expr rule).made) tree₀
  pub errors : errors₁ ≡ with_rows (error_rows (length rule) (parse_expr rule).errors) errors₀
  pub rows : r.row / 4 ≡ size (parse_expr rule).made
  pub found : r.error / 4 ≡ length (parse_expr rule).errors

pub rooted : (rule : List ℕ) {tokens t₀ t₁ e₀ e₁ : List ℕ} {r : Cursor} → Did (lex rule) t₀ t₁ e₀ e₁ 0 start r parse_root
    → Asks (lex rule) tokens t₀ e₀ 0 start parse_root → Rooted rule t₀ t₁ e₀ e₁ r
unfolding parse_expr
rooted rule {t₀ = t₀} {e₀ = e₀} d a =
    record {
      tree = d.wrote.tree ∙ sets_front (tree_rows 0 0 (parse_root (lex rule)).made) t₀ (omega (arith, tree_rows_length 0 0 (parse_root (lex rule)).made, a.fits.room));
      errors =
          d.wrote.errors ∙ ap (λ (n : ℕ). sets e₀ 0 (error_rows n (parse_root (lex rule)).errors)) (width_lex rule)
          ∙ sets_front (error_rows (length rule) (parse_root (lex rule)).errors) e₀ (omega (arith, error_rows_length (length rule) (parse_root (lex rule)).errors, a.room));
      rows = omega (arith, d.wrote.row);
      found = omega (arith, d.wrote.error);
    }

-- a check that passed reads as another that passed does, and one that refused gives its refusal and leaves the tables
pub passed_reads : {k m : Check} {rule a b c d e f : List ℕ} {r : Reading} → k ≡ Ok tt → m ≡ Ok tt
    → Reads m rule a b c d e f r → Reads k rule a b c d e f r
passed_reads p q h = rw p (rw q at h)

pub refused_reads : {k : Check} {rule a c e : List ℕ} {r : Refusal} → k ≡ Err r → Reads k rule a a c c e e (Err r)
refused_reads e = rw e record { answer = refl; tokens = refl; tree = refl; errors = refl }

-- what `check_rule` passes, `parse_rule` has room for
pub passed_has_room : (rule : List ℕ) (tokens tree errors : ℕ) → check_rule rule tokens tree errors ≡ Ok tt
    → check_tables (length rule) tokens tree errors ≡ Ok tt
unfolding check_tables
passed_has_room rule tokens tree errors e = let l = passed_lengths rule tokens tree errors e in rw (l.0, l.1)

abbrev pub counted : ℕ → ℕ → ℕ → Rows
counted a b c = record { tokens = a; tree = b; errors = c }

pub rows_read_lem : {a b c a' b' c' : ℕ} → a ≡ a' → b ≡ b' → c ≡ c' → ◌≡◌ {A = Reading} (Ok (counted a b c)) (Ok (counted a' b' c'))
rows_read_lem p q s = cc

-- numbers of rows that were given are small
pub rows_few : (rule : List ℕ) (tokens tree errors : ℕ) {a b c : ℕ} → Ok (counted a b c) ≡ rows_read (check_rule rule tokens tree errors) rule
    → (a ≤ 500) × (b ≤ 3505) × (c ≤ 3004)
rows_few rule tokens tree errors {a} {b} {c} e = go (check_rule rule tokens tree errors) refl e
  where
    go : (k : Check) → check_rule rule tokens tree errors ≡ k → Ok (counted a b c) ≡ rows_read k rule → (a ≤ 500) × (b ≤ 3505) × (c ≤ 3004)
    go (Ok tt) p q =
        let all : counted a b c ≡ counted (length (lex rule)) (size (parse_expr rule).made) (length (parse_expr rule).errors) = cc in
        let x : a ≡ length (lex rule) = ap (λ (n : Rows). n.tokens) all in
        let y : b ≡ size (parse_expr rule).made = ap (λ (n : Rows). n.tree) all in
        let z : c ≡ length (parse_expr rule).errors = ap (λ (n : Rows). n.errors) all in
        let l = ltb-false MAX_RULE (length rule) (passed_lengths rule tokens tree errors p).0 in
        (omega (arith, lex_length rule), omega (arith, rows_bound rule), omega (arith, errors_bound rule))
    go (Err r) p q = let w : ◌≡◌ {A = ℕ} 0 1 = cc in absurd (omega arith)

-- Looks ahead and blanks, token by token, and the loops over them. Assumes nothing.
use mathlib.Core.Path.{◌≡◌, refl, sym, ap, ◌∙◌}
use mathlib.Core.List.{List, [], ◌∷◌}
use mathlib.Core.Bool.{Bool, true, false, ◌&&◌, and-true, and-false, false≢true}
use Prim.Native.Nat.{ℕ, zero, suc, ◌+◌, ◌*◌, ◌-◌, ◌≤◌, ◌<◌}
use native.Mathlib.Omega.{arith}
use borrow.Author.Tests.{eq-eqb, ne_eqb, eqb-true, eqb-false}
use lib.Dec.{eqb}
use lib.ListN.{length, drop, get_or, drop_of_length-le}
use lib.Seq.{drop-drop}
use Rattle.std.specs.Prelude.{Some, is_some, not}
use Rattle.std.specs.Option.{option_eq}
use Rattle.syntax.specs.Kinds.{number}
use Rattle.syntax.specs.declared.kind.Kind.{Kind}
use Rattle.syntax.specs.Kind.{WHITESPACE, L_PAREN, R_PAREN, INT_LIT, NONE}
use Rattle.lexer.specs.Lex.{Token, lex, token_rows}
use Rattle.trees.specs.Look.{skip_ws, head_kind, first_kind, at_kind, is_comparison, ends_in_comparison, has_count_compare_ahead, op_ahead, has_binary_op_at_level}
use Rattle.trees.specs.Green.{size}
use Rattle.trees.specs.Parse.{done, next, fails, fails_ahead, ◌▹◌, eat_ws, next_is, remaining}
use Rattle.trees.specs.Writing.{Ready, Fits, Asks, Without, none, more, NoneFrom}
use Rattle.trees.specs.declared.Cursor.{Cursor}
use Rattle.trees.proofs.TokenLaws.{Row, row_in, rows_length, table_length}
use Rattle.trees.proofs.TreeLaws.{Kinds, kinds_lex, kinds_drop, kinds_skip}

-- ---- blanks and what is left

-- no kind has the number of none
pub kind_named : (k : Kind) → number k < NONE
kind_named Kind.Whitespace = omega arith
kind_named Kind.Ident = omega arith
kind_named Kind.StringLit = omega arith
kind_named Kind.Dot = omega arith
kind_named Kind.LParen = omega arith
kind_named Kind.RParen = omega arith
kind_named Kind.EqEq = omega arith
kind_named Kind.Neq = omega arith
kind_named Kind.Ge = omega arith
kind_named Kind.Gt = omega arith
kind_named Kind.Le = omega arith
kind_named Kind.Lt = omega arith
kind_named Kind.IntLit = omega arith
kind_named Kind.Comma = omega arith
kind_named Kind.AndKw = omega arith
kind_named Kind.OrKw = omega arith
kind_named Kind.NotKw = omega arith
kind_named Kind.Error = omega arith
kind_named Kind.Root = omega arith
kind_named Kind.PipelineExpr = omega arith
kind_named Kind.DotCall = omega arith
kind_named Kind.CallArgs = omega arith
kind_named Kind.BinaryExpr = omega arith
kind_named Kind.UnaryExpr = omega arith
kind_named Kind.CompareExpr = omega arith
kind_named Kind.CallExpr = omega arith
kind_named Kind.ParenExpr = omega arith
kind_named Kind.Literal = omega arith
kind_named Kind.IdentExpr = omega arith
kind_named Kind.ContainsExpr = omega arith
kind_named Kind.CountCompareExpr = omega arith

-- a token that is next is there
pub next_there : (k : Kind) (ts : List Token) → next_is (number k) ts ≡ true → 0 < length ts
unfolding next_is
next_there k ts e = go ts (eqb-true _ _ e)
  where
    go : (us : List Token) → head_kind us ≡ number k → 0 < length us
    go [] q = let h = kind_named k in absurd (omega arith)
    go (u ∷ us) q = omega arith

module _ (ts : List Token) where
  pub eat_blank : next_is WHITESPACE ts ≡ true → eat_ws ts ≡ (next ▹ eat_ws) ts
  unfolding next_is eat_ws ◌▹◌ next
  eat_blank e = go ts (eqb-true _ _ e)
    where
      go : (us : List Token) → head_kind us ≡ WHITESPACE → eat_ws us ≡ (next ▹ eat_ws) us
      go [] q = let z : ◌≡◌ {A = ℕ} NONE WHITESPACE = q in absurd (omega arith)
      go (t ∷ us) q = rw (eq-eqb _ _ q, eat_ws)

  pub eat_stop : next_is WHITESPACE ts ≡ false → eat_ws ts ≡ done ts
  unfolding next_is eat_ws done
  eat_stop n = go ts (eqb-false _ _ n)
    where
      go : (us : List Token) → (head_kind us ≡ WHITESPACE → ⊥) → eat_ws us ≡ done us
      go [] q = refl
      go (t ∷ us) q = rw (ne_eqb _ _ q, eat_ws)

-- all tokens left
module _ (ts : List Token) where
  pub remaining_next : 0 < length ts → remaining ts ≡ (next ▹ remaining) ts
  unfolding remaining ◌▹◌ next
  remaining_next h = go ts h
    where
      go : (us : List Token) → 0 < length us → remaining us ≡ (next ▹ remaining) us
      go [] q = absurd (omega arith)
      go (u ∷ us) q = refl

  pub remaining_end : length ts ≤ 0 → remaining ts ≡ done ts
  unfolding remaining done
  remaining_end h = go ts h
    where
      go : (us : List Token) → length us ≤ 0 → remaining us ≡ done us
      go [] q = refl
      go (u ∷ us) q = absurd (omega arith)

-- room for the next token's row
pub next_room : {ts : List Token} {tokens t : List ℕ} {c : Cursor} → Fits ts tokens t c next → 0 < length (drop c.token ts) → c.row + 4 ≤ length t
unfolding next size
next_room {ts} {c = c} f h = let e : size (next (drop c.token ts)).made ≡ 1 = go (drop c.token ts) h in omega (arith, f.room)
  where
    go : (us : List Token) → 0 < length us → size (next us).made ≡ 1
    go [] q = absurd (omega arith)
    go (u ∷ us) q = refl

-- a test that gives the same either way
either : {A : Type 0} (t : Bool) {x y z : A} → x ≡ z → y ≡ z → (elim t [ true ↦ x | false ↦ y ]) ≡ z
either true p q = p
either false p q = q

-- ---- a comparison at the end, looked for from there a token at a time

-- from i on there are blanks alone, or an integer among them: what this makes of the two kinds before it
pub record Ending (ts : List Token) (integer : Bool) (i : ℕ) : Type 0 where
  pub within : i ≤ length ts
  pub comes : (second last : ℕ) → ends_in_comparison second last (drop i ts) ≡ elim integer [ true ↦ is_comparison last | false ↦ is_comparison second && eqb last INT_LIT ]

pub ending_start : (ts : List Token) → Ending ts false (length ts)
unfolding ends_in_comparison
ending_start ts = record { within = omega arith; comes = λ second last. rw (drop_of_length-le ts {i = length ts} (omega arith)) }

-- where whatever stands before i changes nothing, the tokens up to i may be passed
ends_later : {v : Bool} (i : ℕ) (ts : List Token) → ((second last : ℕ) → ends_in_comparison second last (drop i ts) ≡ v) → (second last : ℕ) → ends_in_comparison second last ts ≡ v
unfolding ends_in_comparison
ends_later zero ts h second last = h second last
ends_later (suc i) [] h second last = h second last
ends_later (suc i) (t ∷ ts) h second last = either (eqb t.kind WHITESPACE) (ends_later i ts h second last) (ends_later i ts h last t.kind)

module _ {tokens : List ℕ} {ts : List Token} {i : ℕ} (e : tokens ≡ token_rows 0 ts) (h : 0 < i) {integer : Bool} (g : Ending ts integer i) where
  before : Row 0 tokens ts (i - 1)
  before = row_in ts e (i - 1) (omega (arith, rows_length ts e, g.within))

  after : drop (i - 1 + 1) ts ≡ drop i ts
  after = let q : i - 1 + 1 ≡ i = omega arith in ap (λ (n : ℕ). drop n ts) q

  pub ending_blank : get_or tokens (3 * (i - 1)) 0 ≡ WHITESPACE → Ending ts integer (i - 1)
  unfolding ends_in_comparison
  ending_blank q =
      record {
        within = omega (arith, g.within);
        comes = λ second last. rw (before.here, eq-eqb before.token.kind WHITESPACE (sym before.kind ∙ q), ends_in_comparison, after) (g.comes second last);
      }

  passed : {v : Bool} (c : ℕ) → c < i → ((second last : ℕ) → ends_in_comparison second last (drop (i - 1) ts) ≡ v) → ends_in_comparison NONE NONE (drop c ts) ≡ v
  passed c l a =
      let q : c + (i - 1 - c) ≡ i - 1 = omega arith in
      ends_later (i - 1 - c) (drop c ts) (rw (drop-drop, q) a) NONE NONE

  module _ (n : get_or tokens (3 * (i - 1)) 0 ≡ WHITESPACE → ⊥) where
    solid_before : {b : Bool} → integer ≡ b → (second last : ℕ) → ends_in_comparison second last (drop (i - 1) ts)
        ≡ elim b [ true ↦ is_comparison (get_or tokens (3 * (i - 1)) 0) | false ↦ is_comparison last && eqb (get_or tokens (3 * (i - 1)) 0) INT_LIT ]
    unfolding ends_in_comparison
    solid_before f second last =
        rw (before.here, ne_eqb before.token.kind WHITESPACE (λ q. n (before.kind ∙ q)), ends_in_comparison, after, ← before.kind)
        (rw f at (g.comes last (get_or tokens (3 * (i - 1)) 0)))

    pub ending_integer : integer ≡ false → get_or tokens (3 * (i - 1)) 0 ≡ INT_LIT → Ending ts true (i - 1)
    ending_integer f q =
        record {
          within = omega (arith, g.within);
          comes = λ second last. solid_before f second last ∙ rw (eq-eqb _ _ q) (and-true (is_comparison last));
        }

    pub ends_compared : integer ≡ true → {r : Bool} → r ≡ is_comparison (get_or tokens (3 * (i - 1)) 0) → (c : ℕ) → c < i → r ≡ has_count_compare_ahead (drop c ts)
    unfolding has_count_compare_ahead
    ends_compared t a c l = a ∙ sym (passed c l (solid_before t))

    pub ends_other : integer ≡ false → (get_or tokens (3 * (i - 1)) 0 ≡ INT_LIT → ⊥) → (c : ℕ) → c < i → false ≡ has_count_compare_ahead (drop c ts)
    unfolding has_count_compare_ahead
    ends_other f q c l = sym (passed c l λ second last. solid_before f second last ∙ rw (ne_eqb _ _ q) (and-false (is_comparison last)))

pub ends_none : {ts : List Token} {integer : Bool} {i : ℕ} → Ending ts integer i → (c : ℕ) → c ≤ i → i ≤ c → false ≡ has_count_compare_ahead (drop c ts)
unfolding has_count_compare_ahead is_comparison
ends_none {ts} {integer} {i} g c l h = let q : c ≡ i = omega arith in rw q (sym (g.comes NONE NONE ∙ either integer refl refl))

-- ---- an operator ahead, a token at a time; k is the kind that the table has at i

module _ {tokens : List ℕ} {ts : List Token} {i : ℕ} (w : Row 0 tokens ts i) where
  is : {k : ℕ} → get_or tokens (3 * i) 0 ≡ k → eqb w.token.kind k ≡ true
  is e = eq-eqb _ _ (sym w.kind ∙ e)

  is_not : {k : ℕ} → (get_or tokens (3 * i) 0 ≡ k → ⊥) → eqb w.token.kind k ≡ false
  is_not n = ne_eqb _ _ (λ q. n (w.kind ∙ q))

  module _ (op depth : ℕ) (found : Bool) where
    pub op_blank : get_or tokens (3 * i) 0 ≡ WHITESPACE → op_ahead op depth found (drop (i + 1) ts) ≡ op_ahead op depth found (drop i ts)
    unfolding op_ahead
    op_blank e = rw (w.here, is e, op_ahead)

    module _ (n : get_or tokens (3 * i) 0 ≡ WHITESPACE → ⊥) where
      pub op_open : get_or tokens (3 * i) 0 ≡ L_PAREN → op_ahead op (depth + 1) true (drop (i + 1) ts) ≡ op_ahead op depth found (drop i ts)
      unfolding op_ahead
      op_open e = rw (w.here, is_not n, is e, op_ahead)

      module _ (m : get_or tokens (3 * i) 0 ≡ L_PAREN → ⊥) where
        module _ (e : get_or tokens (3 * i) 0 ≡ R_PAREN) where
          pub op_shut : depth ≡ 0 → false ≡ op_ahead op depth found (drop i ts)
          unfolding op_ahead
          op_shut z = rw (w.here, is_not n, is_not m, is e, eq-eqb depth 0 z, op_ahead)

          pub op_close : (depth ≡ 0 → ⊥) → op_ahead op (depth - 1) found (drop (i + 1) ts) ≡ op_ahead op depth found (drop i ts)
          unfolding op_ahead
          op_close z = rw (w.here, is_not n, is_not m, is e, ne_eqb depth 0 z, op_ahead)

        module _ (o : get_or tokens (3 * i) 0 ≡ R_PAREN → ⊥) where
          pub op_other : eqb w.token.kind op && (eqb depth 0 && found) ≡ false
              → op_ahead op depth true (drop (i + 1) ts) ≡ op_ahead op depth found (drop i ts)
          unfolding op_ahead
          op_other e = rw (w.here, is_not n, is_not m, is_not o, e, op_ahead)

          pub op_past : (get_or tokens (3 * i) 0 ≡ op → ⊥) → op_ahead op depth true (drop (i + 1) ts) ≡ op_ahead op depth found (drop i ts)
          op_past a = op_other (rw (is_not a))

          pub op_deep : (depth ≡ 0 → ⊥) → op_ahead op depth true (drop (i + 1) ts) ≡ op_ahead op depth found (drop i ts)
          op_deep a = op_other (rw (ne_eqb depth 0 a) (and-false (eqb w.token.kind op)))

          pub op_first : depth ≡ 0 → found ≡ false → op_ahead op depth true (drop (i + 1) ts) ≡ op_ahead op depth found (drop i ts)
          op_first a f = op_other (rw (f, eq-eqb depth 0 a) (and-false (eqb w.token.kind op)))

          pub op_here : get_or tokens (3 * i) 0 ≡ op → depth ≡ 0 → found ≡ true → true ≡ op_ahead op depth found (drop i ts)
          unfolding op_ahead
          op_here a z f =
              rw (w.here, is_not n, is_not m, is_not o, is a, eq-eqb depth 0 z, f, op_ahead)

-- ---- places from which on no token is of a kind

-- before such a place each token has a row
pub row_before : {ts : List Token} {tokens : List ℕ} {c : Cursor} {op n : ℕ} → Ready ts tokens c → NoneFrom op ts n → (i : ℕ) → i < n → Row 0 tokens ts i
row_before {ts} r b i h = row_in ts r.rows i (omega (arith, table_length r, b.within))

-- where no token is of its kind an operator is not ahead
op_without : (op depth : ℕ) (found : Bool) {ts : List Token} → Without op ts → op_ahead op depth found ts ≡ false
unfolding op_ahead
op_without op depth found none = refl
op_without op depth found {ts = t ∷ ts} (more n w) =
    either (eqb t.kind WHITESPACE) (op_without op depth found w)
    (either (eqb t.kind L_PAREN) (op_without op (depth + 1) true w)
    (either (eqb t.kind R_PAREN) (either (eqb depth 0) refl (op_without op (depth - 1) found w)) (rw (ne_eqb t.kind op n) (op_without op depth true w))))

-- so it is not ahead from such a place on
without_drop : {k : ℕ} {ts : List Token} (m : ℕ) → Without k ts → Without k (drop m ts)
without_drop zero w = w
without_drop (suc m) none = none
without_drop (suc m) (more n w) = without_drop m w

pub op_end : {op n : ℕ} (depth : ℕ) (found : Bool) {ts : List Token} → NoneFrom op ts n → (i : ℕ) → n ≤ i → false ≡ op_ahead op depth found (drop i ts)
op_end {op} {n} depth found {ts} b i h =
    let e : n + (i - n) ≡ i = omega arith in
    sym (op_without op depth found (rw (drop-drop, e) at (without_drop (i - n) b.rest)))

pub none_ahead : {op n : ℕ} {ts : List Token} → NoneFrom op ts n → (i : ℕ) → n ≤ i → has_binary_op_at_level op (drop i ts) ≡ false
unfolding has_binary_op_at_level
none_ahead b i h = sym (op_end 0 false b i h)

-- such places are the end, and that of a token of another kind where the place past it is one
pub none_end : (k : ℕ) (ts : List Token) → NoneFrom k ts (length ts)
none_end k ts = record { within = omega arith; rest = rw (drop_of_length-le ts {i = length ts} (omega arith)) none }

pub none_back : {k : ℕ} {tokens : List ℕ} {ts : List Token} {i : ℕ} → tokens ≡ token_rows 0 ts → NoneFrom k ts i → 0 < i → (get_or tokens (3 * (i - 1)) 0 ≡ k → ⊥)
    → NoneFrom k ts (i - 1)
none_back {k} {ts = ts} {i = i} e b h n =
    let w = row_in ts e (i - 1) (omega (arith, rows_length ts e, b.within)) in
    let s : i ≡ i - 1 + 1 = omega arith in
    record { within = omega (arith, b.within); rest = rw w.here (more (λ q. n (w.kind ∙ q)) (rw s at b.rest)) }

-- ---- tests of the code as tests of the definitions

-- so a test for a kind fails at the end of text
pub head_test : (k : ℕ) → k < NONE → (us : List Token) → option_eq eqb (first_kind us) (Some k) ≡ eqb (head_kind us) k
head_test k h [] = sym (ne_eqb NONE k (λ e. omega arith))
head_test k h (u ∷ us) = refl

module _ (k : Kind) (ts : List Token) where
  pub kind_test : option_eq eqb (first_kind (skip_ws ts)) (Some (number k)) ≡ at_kind (number k) ts
  unfolding at_kind
  kind_test = head_test (number k) (kind_named k) (skip_ws ts)

  pub next_test : option_eq eqb (first_kind ts) (Some (number k)) ≡ next_is (number k) ts
  unfolding next_is
  next_test = head_test (number k) (kind_named k) ts

-- a token that has a kind is there
pub some_there : (us : List Token) → is_some (first_kind us) ≡ true → 0 < length us
some_there [] e = absurd (false≢true e)
some_there (u ∷ us) e = omega arith

pub none_there : (us : List Token) → is_some (first_kind us) ≡ false → length us ≤ 0
none_there [] e = omega arith
none_there (u ∷ us) e = absurd (false≢true (sym e))

-- and the test for the end passes nowhere else in a rule, whose tokens are of kinds
pub end_test : (rule : List ℕ) (i : ℕ) {r : Bool} → is_some (first_kind (skip_ws (drop i (lex rule)))) ≡ not r → r ≡ at_kind NONE (drop i (lex rule))
unfolding at_kind Kinds
end_test rule i {r} e =
    let us = skip_ws (drop i (lex rule)) in
    other (is_some (first_kind us)) r e ∙ go us (kinds_skip (drop i (lex rule)) (kinds_drop i (lex rule) (kinds_lex rule)))
  where
    other : (a r : Bool) → a ≡ not r → r ≡ not a
    other a true e = rw e
    other a false e = rw e

    go : (us : List Token) → Kinds us → not (is_some (first_kind us)) ≡ eqb (head_kind us) NONE
    go [] k = refl
    go (u ∷ us) k = sym (ne_eqb u.kind NONE (λ e. let h = k.0 in omega arith))

-- room for an error's row
pub fail_room : {ts : List Token} {tokens t e : List ℕ} {l : ℕ} {c : Cursor} (form k : ℕ) → Asks ts tokens t e l c (fails form k) → c.error + 4 ≤ length e
unfolding fails
fail_room form k f = omega (arith, f.room)

pub fail_ahead_room : {ts : List Token} {tokens t e : List ℕ} {l : ℕ} {c : Cursor} (form : ℕ) → Asks ts tokens t e l c (fails_ahead form) → c.error + 4 ≤ length e
unfolding fails_ahead
fail_ahead_room form f = omega (arith, f.room)

-- The numbers of an answer, one part after the other, and what is left of all that is lent with it. Assumes nothing.
use mathlib.Core.Path.{◌≡◌, sym, ap, ◌∙◌}
use mathlib.Core.Bool.{true, false}
use mathlib.Core.List.{List, ◌++◌, append_assoc}
use Prim.Native.Nat.{ℕ, ◌≤◌, ◌<◌}
use native.Mathlib.Omega.{arith}
use borrow.Author.Tests.{lt-ltb, le-ltb}
use borrow.Rule.Slice.PartMut.{put_mid}
use lib.ListN.{length, drop, length-append}
use lib.Seq.{take_at, drop_at, drop-drop}
use Rattle.syntax.specs.Table.{with_rows}
use Rattle.lexer.specs.Read.{check_rule}
use Rattle.trees.specs.Read.{Reading, Reads}
use Rattle.trees.proofs.ReadLaws.{rows_few}
use Rattle.board.specs.Check.{MAX_IMAGE}
use Rattle.calls.specs.Numbers.{outcome_amount}
use Rattle.eval.specs.declared.Answer.{Answer}
use Rattle.eval.specs.Run.{lent, Runs}
use Rattle.eval.proofs.AmountLaws.{run_few, run_rows_few}
use Rattle.abi.specs.Numbers.{ANSWER, PART, outcome_numbers, row_numbers, reading_numbers, is_short, ReadAnswer, RunAnswer, RowsFew}

-- ---- both parts

-- one part is written behind the other
pub parts_written : {first second xs ys : List ℕ} (t : List ℕ) → length xs ≡ PART → length ys ≡ PART → xs ≡ first → ys ≡ second
    → put_mid PART PART (xs ++ drop PART t) ys ≡ with_rows (first ++ second) t
parts_written {xs = xs} {ys = ys} t m n p q =
    (λ i. take_at xs (drop PART t) PART m i ++ (ys ++ drop PART (drop_at xs (drop PART t) PART m i)))
    ∙ ap (λ (d : List ℕ). xs ++ (ys ++ d)) (drop-drop PART PART t)
    ∙ sym (append_assoc xs ys (drop ANSWER t))
    ∙ ap (λ (k : ℕ). (xs ++ ys) ++ drop k t) long
    ∙ (λ i. with_rows (p i ++ q i) t)
  where
    long : ANSWER ≡ length (xs ++ ys)
    long = omega (arith, length-append xs ys, m, n)

-- ---- a reading

module _ {rule tokens tree errors answer : List ℕ} where
  pub read_short : length answer < ANSWER → ReadAnswer rule tokens tokens tree tree errors errors answer answer 0
  read_short h = record { result = rw s; answer = rw s; tokens = rw s; tree = rw s; errors = rw s }
    where
      s : is_short answer ≡ true
      s = lt-ltb (length answer) ANSWER h

module _ {rule tokens₀ tokens₁ tree₀ tree₁ errors₀ errors₁ : List ℕ} {x : Reading}
    (h : Reads (check_rule rule (length tokens₀) (length tree₀) (length errors₀)) rule tokens₀ tokens₁ tree₀ tree₁ errors₀ errors₁ x) where
  pub read_rows : RowsFew x
  read_rows = record { few = λ rows e. rows_few rule (length tokens₀) (length tree₀) (length errors₀) (sym e ∙ h.answer) }

  pub read_answer : {first second answer₀ answer₁ : List ℕ} → ANSWER ≤ length answer₀
      → first ≡ reading_numbers x → second ≡ row_numbers x → answer₁ ≡ with_rows (first ++ second) answer₀
      → ReadAnswer rule tokens₀ tokens₁ tree₀ tree₁ errors₀ errors₁ answer₀ answer₁ 1
  read_answer {answer₀ = answer₀} k p q w =
      record {
        result = rw s;
        answer =
            rw s
            (w ∙ (λ i. with_rows (p i ++ q i) answer₀)
            ∙ ap (λ (y : Reading). with_rows (reading_numbers y ++ row_numbers y) answer₀) h.answer);
        tokens = rw s h.tokens;
        tree = rw s h.tree;
        errors = rw s h.errors;
      }
    where
      s : is_short answer₀ ≡ false
      s = le-ltb (length answer₀) ANSWER k

-- ---- a run

module _ {rule image tokens tree errors collection answer : List ℕ} where
  pub run_short : length answer < ANSWER → RunAnswer rule image tokens tokens tree tree errors errors collection collection answer answer 0
  run_short h = record { result = rw s; answer = rw s; tokens = rw s; tree = rw s; errors = rw s; collection = rw s }
    where
      s : is_short answer ≡ true
      s = lt-ltb (length answer) ANSWER h

module _ {rule image tokens₀ tokens₁ tree₀ tree₁ errors₀ errors₁ collection₀ collection₁ : List ℕ} {a : Answer}
    (h : Runs rule image tokens₀ tokens₁ tree₀ tree₁ errors₀ errors₁ collection₀ collection₁ a) where
  pub run_amount : outcome_amount a.outcome ≤ MAX_IMAGE
  run_amount = rw h.outcome (run_few rule image (lent tokens₀ tree₀ errors₀ collection₀)).few

  pub run_rows : RowsFew a.reading
  run_rows = record { few = λ rows e. run_rows_few rule image (lent tokens₀ tree₀ errors₀ collection₀) (sym e ∙ h.reads.answer) }

  pub run_answer : {first second answer₀ answer₁ : List ℕ} → ANSWER ≤ length answer₀
      → first ≡ outcome_numbers a.outcome a.verdict → second ≡ row_numbers a.reading → answer₁ ≡ with_rows (first ++ second) answer₀
      → RunAnswer rule image tokens₀ tokens₁ tree₀ tree₁ errors₀ errors₁ collection₀ collection₁ answer₀ answer₁ 1
  run_answer {answer₀ = answer₀} k p q w =
      record {
        result = rw s;
        answer =
            rw s
            (w ∙ (λ i. with_rows (p i ++ q i) answer₀)
            ∙ (λ i. with_rows (outcome_numbers (h.outcome i) (h.verdict i) ++ row_numbers (h.reads.answer i)) answer₀));
        tokens = rw s h.reads.tokens;
        tree = rw s h.reads.tree;
        errors = rw s h.reads.errors;
        collection = rw s h.collection;
      }
    where
      s : is_short answer₀ ≡ false
      s = le-ltb (length answer₀) ANSWER k

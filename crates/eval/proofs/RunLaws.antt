-- A run by its parts: refused by 1 to 8, or read and evaluated. Assumes nothing.
use mathlib.Core.Path.{◌≡◌, refl, sym, ap, ap₂, ◌∙◌, subst}
use mathlib.Core.Bool.{true, false}
use mathlib.Core.List.{List, [], ◌∷◌}
use Prim.Native.Nat.{ℕ, ◌*◌}
use native.Mathlib.Omega.{arith}
use lib.ListN.{length, take, drop, length-append}
use lib.Seq.{take_at}
use borrow.Author.Tests.{ltb-false}
use Rattle.syntax.specs.Table.{with_rows}
use Rattle.syntax.specs.Refusal.{Check}
use Rattle.syntax.specs.declared.refusal.Refusal.{Refusal}
use Rattle.syntax.specs.declared.refusal.Refusal.TheVariants.{ParseErrors}
use Rattle.lexer.specs.Lex.{lex}
use Rattle.lexer.specs.Read.{MAX_RULE, TREE_ROW, check_rule}
use Rattle.lexer.proofs.ReadLaws.{passed_lengths}
use Rattle.trees.specs.Green.{size, dot_calls}
use Rattle.trees.specs.Parse.{Error, parse_root, parse_expr, in_node}
use Rattle.trees.specs.Rows.{tree_rows}
use Rattle.trees.specs.Read.{Reading, Reads, check_tables, rows_read, tree_table}
use Rattle.trees.specs.declared.Rows.{Rows}
use Rattle.std.specs.Prelude.{Ok, Err}
use Rattle.trees.proofs.GreenLaws.{tree_rows_length}
use Rattle.trees.proofs.CallLaws.{calls_bound}
use Rattle.trees.proofs.ReadLaws.{passed_reads, refused_reads, passed_has_room}
use Rattle.board.specs.Check.{check_image}
use Rattle.board.proofs.BoardLaws.{passed_well_formed, passed_room}
use Rattle.predicate.specs.Rows.{place_of, forest, forest_from, children_at}
use Rattle.predicate.proofs.ReadBackLaws.{read_back}
use Rattle.meaning.specs.Value.{Outcome, refused, collection_table}
use Rattle.meaning.specs.Calls.{is_empty}
use Rattle.meaning.specs.Outcome.{first_inner, eval_node, outcome_of, outcome, then_check, check_run, after_check, run, verdict_of}
use Rattle.calls.specs.Answer.{Outcome as Given, answer_of, verdict_for, verdict_of_answer}
use Rattle.calls.proofs.AnswerLaws.{verdict_is}
use Rattle.eval.specs.declared.Answer.{Answer}
use Rattle.eval.specs.Pipeline.{FewCalls, Lent, Evaluates}
use Rattle.eval.specs.Run.{lent, Runs, Answers, ReadRule}
use Rattle.eval.proofs.PipelineLaws.{inner_fewer}

-- ---- a rule that was read

-- the rows of the tree stand for it: the root's children
pub root_children : (rule : List ℕ) → children_at rule (tree_rows 0 0 (parse_expr rule).made) 0 ≡ first_inner (parse_expr rule).made
unfolding forest_from forest place_of tree_rows parse_expr parse_root in_node first_inner
root_children rule = ap first_inner (read_back rule)

module _ {rule tree : List ℕ} {rows : Rows} (r : ReadRule rule tree rows) (image : List ℕ) where
  -- it has parse errors
  pub read_errors : {table : List ℕ} → (rows.errors ≡ 0 → ⊥) → Evaluates (outcome image rule) table table (Err ParseErrors)
  unfolding outcome outcome_of
  read_errors {table} h = record { outcome = ap answer_of (sym is); table = ap (λ (o : Outcome). collection_table o table) (sym is) }
    where
      some : (es : List Error) → rows.errors ≡ length es → is_empty es ≡ false
      some [] e = absurd (h e)
      some (e ∷ es) q = refl

      is : outcome image rule ≡ refused ParseErrors
      is = rw (some (parse_expr rule).errors r.errors_are)

  -- or none, and then its calls are few
  pub read_few : rows.errors ≡ 0 → FewCalls rule (take (TREE_ROW * rows.tree) tree) 0
  read_few e =
      let root : children_at rule (take (TREE_ROW * rows.tree) tree) 0 ≡ first_inner (parse_expr rule).made = ap (λ (t : List ℕ). children_at rule t 0) r.front ∙ root_children rule in
      record { few = omega (arith, ap dot_calls root, inner_fewer (parse_expr rule).made, calls_bound rule, r.short, r.errors_are) }

  pub read_given : {table after : List ℕ} {g : Given} → rows.errors ≡ 0 → Evaluates (eval_node image (children_at rule (take (TREE_ROW * rows.tree) tree) 0)) table after g
      → Evaluates (outcome image rule) table after g
  unfolding outcome outcome_of
  read_given {table} {after} {g} e v = subst (λ (o : Outcome). Evaluates o table after g) (sym is) v
    where
      none : (es : List Error) → length es ≡ 0 → is_empty es ≡ true
      none [] q = refl
      none (e ∷ es) q = absurd (omega arith)

      is : outcome image rule ≡ eval_node image (children_at rule (take (TREE_ROW * rows.tree) tree) 0)
      is =
          rw (none (parse_expr rule).errors (sym r.errors_are ∙ e))
          (ap (eval_node image) (sym (ap (λ (t : List ℕ). children_at rule t 0) r.front ∙ root_children rule)))

-- ---- the checks

checks_passed : (a b : Check) → then_check a b ≡ Ok tt → (a ≡ Ok tt) × (b ≡ Ok tt)
checks_passed (Ok _) b e = (refl, e)
checks_passed (Err r) b e = let z : ◌≡◌ {A = ℕ} 0 1 = cc in absurd (omega arith)

module _ (rule image tokens tree errors collection : List ℕ) where
  -- both pass, or one refuses
  pub both_passed : check_rule rule (length tokens) (length tree) (length errors) ≡ Ok tt → check_image image (length collection) ≡ Ok tt
      → check_run rule image (lent tokens tree errors collection) ≡ Ok tt
  unfolding check_run
  both_passed e f = ap₂ then_check e f

  pub rule_refused : {r : Refusal} → check_rule rule (length tokens) (length tree) (length errors) ≡ Err r
      → check_run rule image (lent tokens tree errors collection) ≡ Err r
  unfolding check_run
  rule_refused e = ap (λ (k : Check). then_check k (check_image image (length collection))) e

  pub image_refused : {r : Refusal} → check_rule rule (length tokens) (length tree) (length errors) ≡ Ok tt → check_image image (length collection) ≡ Err r
      → check_run rule image (lent tokens tree errors collection) ≡ Err r
  unfolding check_run
  image_refused e f = ap₂ then_check e f

  -- a run that a check refuses
  pub runs_refused : {r : Refusal} {a : Answer} → check_run rule image (lent tokens tree errors collection) ≡ Err r → Answers (Err r) (Err r) a
      → Runs rule image tokens tokens tree tree errors errors collection collection a
  unfolding run
  runs_refused {r} {a} e w =
      record {
        outcome = w.outcome_is ∙ ap answer_of (sym is);
        verdict = w.verdict_is ∙ ap (λ (o : Outcome). verdict_for (verdict_of o)) (sym is);
        reads = subst (λ (x : Reading). Reads (check_run rule image (lent tokens tree errors collection)) rule tokens tokens tree tree errors errors x) (sym w.reading_is) (refused_reads e);
        collection = ap (λ (o : Outcome). collection_table o collection) (sym is);
      }
    where
      is : run rule image (lent tokens tree errors collection) ≡ refused r
      is = ap (λ (k : Check). after_check k (outcome image rule)) e

  -- a run that passes them
  module _ (p : check_run rule image (lent tokens tree errors collection) ≡ Ok tt) where
    parts : (check_rule rule (length tokens) (length tree) (length errors) ≡ Ok tt) × (check_image image (length collection) ≡ Ok tt)
    unfolding check_run
    parts = checks_passed (check_rule rule (length tokens) (length tree) (length errors)) (check_image image (length collection)) p

    pub checked_lent : Lent image collection
    checked_lent = record { well = passed_well_formed image (length collection) parts.1; room = passed_room image (length collection) parts.1 }

    tables_passed : check_tables (length rule) (length tokens) (length tree) (length errors) ≡ Ok tt
    tables_passed = passed_has_room rule (length tokens) (length tree) (length errors) parts.0

    module _ {tokens₁ tree₁ errors₁ : List ℕ} {x : Reading}
        (h : Reads (check_tables (length rule) (length tokens) (length tree) (length errors)) rule tokens tokens₁ tree tree₁ errors errors₁ x) where
      reading : x ≡ rows_read (Ok tt) rule
      reading = h.answer ∙ ap (λ (k : Check). rows_read k rule) tables_passed

      -- nothing else is refused
      pub not_refused : {r : Refusal} → x ≡ Err r → ⊥
      not_refused e =
          let q = reading in
          let z : ◌≡◌ {A = ℕ} 0 1 = cc in
          omega arith

      pub checked_read : {rows : Rows} → x ≡ Ok rows → ReadRule rule tree₁ rows
      checked_read {rows} e =
          let q = reading in
          let all : rows ≡ record { tokens = length (lex rule); tree = size (parse_expr rule).made; errors = length (parse_expr rule).errors } = cc in
          let y : rows.tree ≡ size (parse_expr rule).made = ap (λ (r : Rows). r.tree) all in
          let z : rows.errors ≡ length (parse_expr rule).errors = ap (λ (r : Rows). r.errors) all in
          let t : tree₁ ≡ with_rows (tree_rows 0 0 (parse_expr rule).made) tree = h.tree ∙ ap (λ (k : Check). tree_table k rule tree) tables_passed in
          let long : length (tree_rows 0 0 (parse_expr rule).made) ≡ TREE_ROW * rows.tree = omega (arith, tree_rows_length 0 0 (parse_expr rule).made) in
          record {
            rows_are = y;
            errors_are = z;
            front = rw t (take_at (tree_rows 0 0 (parse_expr rule).made) _ (TREE_ROW * rows.tree) long);
            within = omega (arith, ap length t, long, length-append (tree_rows 0 0 (parse_expr rule).made) (drop (length (tree_rows 0 0 (parse_expr rule).made)) tree));
            short = ltb-false MAX_RULE (length rule) (passed_lengths rule (length tokens) (length tree) (length errors) parts.0).0;
          }

      pub runs_read : {collection₁ : List ℕ} {g : Given} {y : Reading} {a : Answer} → Evaluates (outcome image rule) collection collection₁ g → x ≡ y → Answers g y a
          → Runs rule image tokens tokens₁ tree tree₁ errors errors₁ collection collection₁ a
      unfolding run
      runs_read {g = g} {a = a} v e w =
          record {
            outcome = w.outcome_is ∙ v.outcome ∙ ap answer_of (sym is);
            verdict = w.verdict_is ∙ ap verdict_of_answer v.outcome ∙ verdict_is (outcome image rule) ∙ ap (λ (o : Outcome). verdict_for (verdict_of o)) (sym is);
            reads = subst (λ (x : Reading). Reads (check_run rule image (lent tokens tree errors collection)) rule tokens tokens₁ tree tree₁ errors errors₁ x) (e ∙ sym w.reading_is) (passed_reads p tables_passed h);
            collection = v.table ∙ ap (λ (o : Outcome). collection_table o collection) (sym is);
          }
        where
          is : run rule image (lent tokens tree errors collection) ≡ outcome image rule
          is = ap (λ (k : Check). after_check k (outcome image rule)) p

-- What a pass means, and what is never one. Assumes nothing.
use Rattle.std.specs.Prelude.{Ok, Err}
use Prim.Native.Nat.{ℕ}
use mathlib.Core.Path.{◌≡◌, refl, sym, ap, ◌∙◌, subst}
use mathlib.Core.Bool.{Bool, true, false, cond}
use mathlib.Core.List.{List, [], ◌∷◌, cons≢nil}
use Rattle.syntax.specs.Refusal.{Check}
use Rattle.syntax.specs.declared.refusal.Refusal.{Refusal}
use Rattle.syntax.specs.declared.refusal.Refusal.TheVariants.{ParseErrors}
use Rattle.trees.specs.Parse.{Error, parse_expr}
use Rattle.meaning.specs.Value.{Outcome, collection, boolean, refused}
use Rattle.meaning.specs.Calls.{is_empty}
use Rattle.meaning.specs.Outcome.{Lent, check_run, after_check, eval_node, first_inner, outcome_of, outcome, run, Verdict, Pass, Fail, Refused, Open, verdict_of}

-- a verdict other than pass is none
abbrev IsPass : Verdict → Type 0
IsPass Pass = Unit
IsPass Fail = ⊥
IsPass Refused = ⊥
IsPass Open = ⊥

is_pass : (v : Verdict) → v ≡ Pass → IsPass v
is_pass v e = subst IsPass (sym e) tt

-- nothing that is refused is a pass
pub no_pass_refused : (rule image : List ℕ) (lent : Lent) (r : Refusal) → run rule image lent ≡ refused r → verdict_of (run rule image lent) ≡ Pass → ⊥
no_pass_refused rule image lent r e p = is_pass (verdict_of (refused r)) (sym (ap verdict_of e) ∙ p)

-- parse errors are refused
pub errors_refused : (image rule : List ℕ) → ((parse_expr rule).errors ≡ [] → ⊥) → outcome image rule ≡ refused ParseErrors
unfolding outcome outcome_of
errors_refused image rule n = go (parse_expr rule).errors n
  where
    go : (es : List Error) → (es ≡ [] → ⊥) → cond (is_empty es) (eval_node image (first_inner (parse_expr rule).made)) (refused ParseErrors) ≡ refused ParseErrors
    go [] h = absurd (h refl)
    go (e ∷ es) h = refl

-- a pass: refusals 1 to 8 did not come, there were no parse errors, and the outcome is true
pub record Passed (rule image : List ℕ) (lent : Lent) : Type 0 where
  pub checked : check_run rule image lent ≡ Ok tt
  pub clean : (parse_expr rule).errors ≡ []
  pub warned : Bool
  pub holds : outcome image rule ≡ boolean true warned

module _ (rule image : List ℕ) (lent : Lent) (p : verdict_of (run rule image lent) ≡ Pass) where
  pass_checked : check_run rule image lent ≡ Ok tt
  unfolding run
  pass_checked = go (check_run rule image lent) p
    where
      go : (c : Check) → verdict_of (after_check c (outcome image rule)) ≡ Pass → c ≡ Ok tt
      go (Ok tt) h = refl
      go (Err r) h = absurd (is_pass Refused h)

  pass_outcome : verdict_of (outcome image rule) ≡ Pass
  unfolding run
  pass_outcome = rw pass_checked at p

  pass_clean : (parse_expr rule).errors ≡ []
  pass_clean = go (parse_expr rule).errors refl
    where
      go : (es : List Error) → (parse_expr rule).errors ≡ es → (parse_expr rule).errors ≡ []
      go [] e = e
      go (x ∷ es) e =
          let r : outcome image rule ≡ refused ParseErrors = errors_refused image rule (λ n. cons≢nil (sym e ∙ n)) in
          absurd (is_pass Refused (sym (ap verdict_of r) ∙ pass_outcome))

  -- a pass means that there were no parse errors and the outcome is true
  pub pass_means : Passed rule image lent
  pass_means = go (outcome image rule) refl pass_outcome
    where
      go : (o : Outcome) → outcome image rule ≡ o → verdict_of o ≡ Pass → Passed rule image lent
      go (boolean true w) e h = record { checked = pass_checked; clean = pass_clean; warned = w; holds = e }
      go (boolean false w) e h = absurd (is_pass Fail h)
      go (refused r) e h = absurd (is_pass Refused h)
      go (collection s ms) e h = absurd (is_pass Open h)
      go (Outcome.count n) e h = absurd (is_pass Open h)

-- a rule with parse errors never has the verdict pass
pub no_pass_with_errors : (rule image : List ℕ) (lent : Lent) → ((parse_expr rule).errors ≡ [] → ⊥) → verdict_of (run rule image lent) ≡ Pass → ⊥
no_pass_with_errors rule image lent n p = n (pass_means rule image lent p).clean

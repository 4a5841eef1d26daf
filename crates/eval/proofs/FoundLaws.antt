-- What was found of profiles: nothing at first, then what the notes tell. Assumes nothing.
use mathlib.Core.Path.{◌≡◌, refl, sym, ap, ◌∙◌}
use mathlib.Core.List.{List}
use Prim.Native.Nat.{ℕ, ◌<◌}
use native.Mathlib.Omega.{arith}
use lib.Dec.{eqb}
use lib.ListN.{length, get_or, set, replicate, length-replicate, get_or-replicate, get_or-eq_default}
use lib.Seq.{get_or-set_same, get_or-set_other}
use borrow.Author.Tests.{eqb-true, eqb-false}
use Rattle.std.specs.Prelude.{Option, Some, None}
use Rattle.syntax.proofs.BoolLaws.{whether}
use Rattle.predicate.specs.declared.atom.Member.{Member}
use Rattle.profile.specs.Profile.{PROFILES, profile_of}
use Rattle.eval.specs.declared.found.Found.{Found}
use Rattle.eval.specs.declared.found.Found.TheVariants.{Nothing, Asked, Told}
use Rattle.eval.specs.declared.step.Step.{Step}
use Rattle.eval.specs.declared.walk.Walk.{Walk}
use Rattle.eval.specs.Found.{step_of, step_by, FoundSo}
use Rattle.eval.specs.Step.{StepIs, Steps}
use Rattle.eval.specs.Walk.{calls_at, SoundOf}
use Rattle.eval.proofs.MemoLaws.{placed_plain}

nothing_by : (n : ℕ) (p : Option ℕ) → step_by (replicate n Nothing) p ≡ None
nothing_by n None = refl
nothing_by n (Some k) =
    let nothing : get_or (replicate n Nothing) k Nothing ≡ Nothing = grind (arith, get_or-replicate, get_or-eq_default, length-replicate) in
    ap step_of nothing

pub found_none : (w : Walk) (i : ℕ) → FoundSo w i (replicate PROFILES Nothing)
found_none w i =
    record {
      so = λ m step e.
          let none = nothing_by PROFILES (profile_of w.pipeline.image.now w.sorts.held m) in
          absurd cc;
    }

-- the step of a member
pub found_step : {w : Walk} {i : ℕ} {m : Member} {found : List Found} {p : Option ℕ} {r : Option Step} → FoundSo w i found
    → p ≡ profile_of w.pipeline.image.now w.sorts.held m → r ≡ step_by found p → {step : Step} → r ≡ Some step
    → StepIs w.pipeline.image.now (calls_at w.pipeline i) m step
found_step {m = m} {found = found} f p r {step} e = f.so m step (sym (ap (step_by found) p) ∙ sym r ∙ e)

-- one more
module _ {w : Walk} {i k : ℕ} {found : List Found} (f : FoundSo w i found) (h : k < length found) where
  more : (x : Found) → ((m : Member) (step : Step) → profile_of w.pipeline.image.now w.sorts.held m ≡ Some k → step_of x ≡ Some step → StepIs w.pipeline.image.now (calls_at w.pipeline i) m step)
      → FoundSo w i (set found k x)
  more x so = record { so = λ m step e. go m step (profile_of w.pipeline.image.now w.sorts.held m) refl e }
    where
      go : (m : Member) (step : Step) (p : Option ℕ) → profile_of w.pipeline.image.now w.sorts.held m ≡ p → step_by (set found k x) p ≡ Some step
          → StepIs w.pipeline.image.now (calls_at w.pipeline i) m step
      go m step None q e = absurd cc
      go m step (Some l) q e =
          whether (eqb l k)
          (λ t.
          let here : l ≡ k = eqb-true l k t in
          so m step (q ∙ ap Some here) (sym (ap step_of (ap (λ (n : ℕ). get_or (set found k x) n Nothing) here ∙ get_or-set_same found k x Nothing h)) ∙ e))
          (λ t. f.so m step (ap (step_by found) q ∙ sym (ap step_of (get_or-set_other found k l x Nothing (eqb-false l k t))) ∙ e))

  -- that they are asked
  pub found_asked : {x : Found} → x ≡ Asked → FoundSo w i (set found k x)
  found_asked {x} a = more x (λ m step q e. absurd (none (sym (ap step_of a) ∙ e)))
    where
      none : {step : Step} → None ≡ Some step → ⊥
      none e = cc

  -- or what the notes tell of them, where nothing is marked
  pub found_told : {x : Found} {step : Step} {r : Option Step} → x ≡ Told step → SoundOf w.pipeline w.sorts w.notes.now → length w.sorts.marked.now ≡ 0
      → Steps w.pipeline.calls.now i k w.notes.now r → r ≡ Some step → FoundSo w i (set found k x)
  found_told {x} {step} a n z s t =
      more x
      (λ m other q e.
      s.so w.pipeline.rule.now w.pipeline.image.now w.pipeline.tree.now w.sorts m n (sym (placed_plain w.pipeline.image.now w.sorts m (sym q) z ∙ refl)) other (t ∙ sym (ap step_of a) ∙ e))

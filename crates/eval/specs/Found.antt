-- What was found of the members with a profile while members are sent; no public contract needs this file. Assumes nothing: these are
-- definitions.
use Rattle.std.specs.Prelude.{ℕ, List, Option, Some, None, ◌≡◌, get_or}
use Rattle.predicate.specs.declared.atom.Member.{Member}
use Rattle.profile.specs.Profile.{profile_of}
use Rattle.eval.specs.declared.found.Found.{Found}
use Rattle.eval.specs.declared.found.Found.TheVariants.{Nothing, Asked, Told}
use Rattle.eval.specs.declared.step.Step.{Step}
use Rattle.eval.specs.declared.walk.Walk.{Walk}
use Rattle.eval.specs.Step.{StepIs}
use Rattle.eval.specs.Walk.{calls_at}

-- the step that was found
abbrev pub step_of : Found → Option Step
step_of Nothing = None
step_of Asked = None
step_of (Told step) = Some step

-- that of the members with a profile, if they have one
abbrev pub step_by : List Found → Option ℕ → Option Step
step_by found None = None
step_by found (Some k) = step_of (get_or found k Nothing)

-- what was found is so of each member of the board who is sent on from the i-th call
pub record FoundSo (w : Walk) (i : ℕ) (found : List Found) : Type 0 where
  pub so : (m : Member) (step : Step) → step_by found (profile_of w.pipeline.image.now w.sorts.held m) ≡ Some step
      → StepIs w.pipeline.image.now (calls_at w.pipeline i) m step

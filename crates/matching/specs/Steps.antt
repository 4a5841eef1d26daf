-- The places of a text looked at in one step: what only the private functions' contracts need. Assumes nothing: these are definitions.
use Rattle.std.specs.Prelude.{◌≡◌, ℕ, ◌+◌, ◌≤◌, ◌<◌, Bool, ◌&&◌, cond, List, eqb, get_or}
use Rattle.std.specs.Int.{bit_at}

-- how many places are looked at in one step
abbrev pub STEP : ℕ
STEP = 16

-- whether one byte stands at a place and another so far behind it
unfoldable pub has_ends : List ℕ → (first last gap : ℕ) → ℕ → Bool
has_ends text first last gap at = eqb (get_or text at 0) first && eqb (get_or text (at + gap) 0) last

-- the bits of a number are those of the places in a step from a place on: whether each passes a test
pub record Marked (passes : ℕ → Bool) (at marks : ℕ) : Type 0 where
  pub within : (k : ℕ) → k < STEP → bit_at marks k ≡ cond (passes (at + k)) 1 0
  pub beyond : (k : ℕ) → STEP ≤ k → bit_at marks k ≡ 0

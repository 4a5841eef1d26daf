-- Writing a message into a lent place. Assumes nothing: these are definitions.
use Rattle.std.specs.Prelude.{ℕ, ◌≡◌, Bool, cond, List, ltb, length}
use Rattle.std.specs.declared.option.Option.{Option}
use Rattle.std.specs.declared.option.Option.TheVariants.{None, Some}
use Rattle.syntax.specs.Table.{with_rows}

-- whether a place is shorter than a message
abbrev pub too_long : List ℕ → List ℕ → Bool
too_long message out = ltb (length out) (length message)

-- what is given: the number of bytes written, or none where there is no room
abbrev pub written : List ℕ → List ℕ → Option ℕ
written message out = cond (too_long message out) None (Some (length message))

-- what the place then holds: the message at its front and the rest as it was, or what it held
abbrev pub out_after : List ℕ → List ℕ → List ℕ
out_after message out = cond (too_long message out) out (with_rows message out)

-- the answer r and the place after, of writing a message into a place that held before
pub record Writes (message before after : List ℕ) (r : Option ℕ) : Type 0 where
  pub answer : r ≡ written message before
  pub out : after ≡ out_after message before

-- `args_place` gives the place found, or the tree's length. Assumes nothing.
use mathlib.Core.Path.{ap, ◌∙◌}
use lib.ListN.{length}
use Rattle.std.specs.Prelude.{ℕ, Option, unwrap_or}
use Rattle.eval.specs.Ready.{args_place}
use Rattle.eval.proofs.ready.args_place.Goals as goal

pub returns : goal.returns
unfolding args_place
returns c = c.unwrap_or.ensures ∙ ap (λ (found : Option ℕ). unwrap_or found (length c.args.tree.now)) (rw c.into.ensures at c.child_of_kind.ensures)

-- `node::child` finds the first child of a kind; fewer numbers than a row have none. Assumes nothing.
use native.Mathlib.Omega.{arith}
use lib.ListN.{length-drop}
use Rattle.predicate.proofs.RowLaws.{found_none}
use Rattle.predicate.proofs.node.child.Goals as goal

pub returns-in_default : goal.returns-in_default
returns-in_default c = found_none _ _ _ (omega (arith, c.in_default.len_below, length-drop 4 c.args.node.now))

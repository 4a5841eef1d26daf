-- What is left of the table falls from call to call. Assumes nothing.
use Prim.Native.Nat.{◌-◌}
use lib.ListN.{length}
use Rattle.predicate.proofs.+find_atom.Given as goal

abbrev pub decreases-find_atom : goal.decreases-find_atom
decreases-find_atom l = length l.tree.now - l.at

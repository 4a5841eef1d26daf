-- `asks_below` looks at the rows below, by the laws of `Telling`. Assumes nothing.
use Prim.Native.Nat.{◌-◌}
use lib.ListN.{length}
use Rattle.eval.proofs.MarkedLaws.{Telling}
use Rattle.eval.proofs.marked.Sorts.asks_below.Given as goal

abbrev pub invariant-loop-member : goal.invariant-loop-member
invariant-loop-member l = Telling l.rule l.tree l.at l.member l.self l.level l.row

abbrev pub decreases-loop-member : goal.decreases-loop-member
decreases-loop-member l = length l.tree - l.row

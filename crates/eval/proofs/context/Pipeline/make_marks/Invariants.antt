-- `make_marks` marks one row after the other. Assumes nothing.
use mathlib.Core.Path.{◌≡◌}
use lib.ListN.{length}
use Rattle.eval.specs.Marked.{HASES, Made}
use Rattle.eval.proofs.context.Pipeline.make_marks.Given as goal

abbrev pub invariant-loop-n : goal.invariant-loop-n
invariant-loop-n l = (length l.marked ≡ HASES) × Made l.self.rule.now l.self.image.now l.self.tree.now l.marked l.n

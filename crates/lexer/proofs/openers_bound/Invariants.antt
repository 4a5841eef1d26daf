-- `openers_bound` counts byte by byte. Assumes nothing.
use Rattle.lexer.proofs.OpenerLaws.{Bounded}
use Rattle.lexer.proofs.openers_bound.Given as goal

abbrev pub invariant-loop-i : goal.invariant-loop-i
invariant-loop-i l = Bounded l.rule l.i l.n

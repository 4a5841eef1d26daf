-- `openers_bound` counts byte by byte. Assumes nothing.
use native.Mathlib.Omega.{arith}
use Rattle.lexer.proofs.OpenerLaws.{bounded_start, bounded_step, bounded_end}
use Rattle.lexer.proofs.openers_bound.Goals as goal

pub loop-i-init : goal.loop-i-init
loop-i-init c = bounded_start

pub overflow_add-n : goal.overflow_add-n
overflow_add-n c = omega (arith, (bounded_step c.loop-i.invariant (omega arith) c.openers_at-n.ensures).few)

pub loop-i-preserved : goal.loop-i-preserved
loop-i-preserved c = bounded_step c.loop-i.invariant (omega arith) c.openers_at-n.ensures

pub returns : goal.returns
returns c = bounded_end c.loop-i.invariant (omega arith)

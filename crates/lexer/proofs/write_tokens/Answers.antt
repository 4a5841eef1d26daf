-- `write_tokens` writes a row for each token, and finishing from each place ends as the whole does. Assumes nothing.
use mathlib.Core.Path.{refl}
use native.Mathlib.Omega.{arith}
use Rattle.lexer.proofs.ReadLaws.{written_start, written_within, written_step, written_end}
use Rattle.lexer.proofs.write_tokens.Goals as goal

pub loop-kind-init : goal.loop-kind-init
loop-kind-init c = written_start (rw c.into_iter-kind-iterator.ensures.into_iter_gives)

pub overflow_add-end : goal.overflow_add-end
overflow_add-end c = omega (arith, written_within _ c.loop-kind.invariant (c.in-Some.ensures {u = tt}).steps)

pub overflow_cast-at : goal.overflow_cast-at
overflow_cast-at c = omega (arith, written_within _ c.loop-kind.invariant (c.in-Some.ensures {u = tt}).steps)

pub overflow_cast-end : goal.overflow_cast-end
overflow_cast-end c = omega (arith, written_within _ c.loop-kind.invariant (c.in-Some.ensures {u = tt}).steps)

pub loop-kind-preserved : goal.loop-kind-preserved
loop-kind-preserved c = written_step c.loop-kind.invariant (c.in-Some.ensures {u = tt}).steps refl (rw c.into.ensures at c.put_row.ensures)

pub returns : goal.returns
returns c = written_end _ c.loop-kind.invariant c.in-None.ensures.steps.0 c.requires.1

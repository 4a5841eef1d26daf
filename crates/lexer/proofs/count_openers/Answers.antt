-- `count_openers` counts token by token. Assumes nothing.
use mathlib.Core.Path.{sym, ◌∙◌}
use Rattle.lexer.proofs.ReadLaws.{counted_start, counted_step, counted_skip, counted_end}
use Rattle.lexer.proofs.count_openers.Goals as goal

pub loop-token-init : goal.loop-token-init
loop-token-init c = counted_start (rw c.into_iter-token-iterator.ensures.into_iter_gives)

pub loop-token-preserved-then-is_opener : goal.loop-token-preserved-then-is_opener
loop-token-preserved-then-is_opener c = counted_step c.loop-token.invariant (c.in-Some.ensures {u = tt}).steps (sym c.is_opener.ensures ∙ c.if-is_opener.true)

pub loop-token-preserved : goal.loop-token-preserved
loop-token-preserved c = counted_skip c.loop-token.invariant (c.in-Some.ensures {u = tt}).steps (sym c.is_opener.ensures ∙ c.if-is_opener.false)

pub returns : goal.returns
returns c = counted_end c.loop-token.invariant c.in-None.ensures.steps.0

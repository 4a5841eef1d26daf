-- `last_call` looks at the rows from the last on. Assumes nothing.
use mathlib.Core.Path.{sym, ◌∙◌}
use Rattle.witness.proofs.WitnessLaws.{past_start, past_more, past_found, past_none}
use Rattle.witness.proofs.last_call.Goals as goal

pub loop-i-init : goal.loop-i-init
loop-i-init c = past_start _

pub returns-then-is_call : goal.returns-then-is_call
returns-then-is_call c = past_found c.loop-i.invariant c.loop-i-test.true (sym c.is_call.ensures ∙ c.if-is_call.true)

pub loop-i-preserved : goal.loop-i-preserved
loop-i-preserved c = past_more c.loop-i.invariant c.loop-i-test.true (sym c.is_call.ensures ∙ c.if-is_call.false)

pub returns : goal.returns
returns c = past_none c.loop-i.invariant c.loop-i-test.false

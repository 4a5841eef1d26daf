-- `kind_after` gives the plan's entry: the kind so far is that after the calls read. Assumes nothing.
use Rattle.eval.proofs.ReadyLaws.{kinds_start, kinds_refused, kinds_on, kinds_end}
use Rattle.std.proofs.Common.{rules}
use native.Mathlib.Omega.{arith}
use Rattle.eval.proofs.ready.kind_after.Goals as goal

pub loop-call-init : goal.loop-call-init
loop-call-init c = kinds_start _ _

pub returns-in_err-kind : goal.returns-in_err-kind
returns-in_err-kind c = kinds_refused c.loop-call.invariant (omega arith) c.next_kind.ensures (c.in_err-kind.was {u = tt}) (search rules)

pub loop-call-preserved : goal.loop-call-preserved
loop-call-preserved c = kinds_on c.loop-call.invariant (omega arith) c.next_kind.ensures (c.in_ok-kind.was {u = tt})

pub returns : goal.returns
returns c = kinds_end c.loop-call.invariant (omega arith)

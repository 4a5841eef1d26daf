-- `integer` gives `integer_for`: the digits read so far write n. Assumes nothing.
use mathlib.Core.Path.{◌∙◌}
use native.Mathlib.Omega.{arith}
use Rattle.calls.proofs.CompareLaws.{read_none, read_more, read_large, read_whole}
use Rattle.calls.proofs.compare.integer.Goals as goal

pub loop-b-init : goal.loop-b-init
loop-b-init c = read_none _

pub returns-in_err-checked_mul : goal.returns-in_err-checked_mul
returns-in_err-checked_mul c =
    c.from_residual.ensures ∙ read_large c.loop-b.invariant c.loop-b-test.true (omega (arith, c.in_err-checked_mul.ensures))

pub returns-in_err-n : goal.returns-in_err-n
returns-in_err-n c =
    c.from_residual-in_err-n.ensures ∙ read_large c.loop-b.invariant c.loop-b-test.true (omega (arith, c.in_err-n.ensures, c.in_ok-checked_mul.ensures, c.digit_of.ensures))

pub loop-b-preserved : goal.loop-b-preserved
loop-b-preserved c =
    read_more c.loop-b.invariant _ c.loop-b-test.true (omega (arith, c.in_ok-n.ensures, c.in_ok-checked_mul.ensures, c.digit_of.ensures))
    (omega (arith, c.in_ok-n.ensures))

pub returns : goal.returns
returns c = read_whole c.loop-b.invariant c.loop-b-test.false

-- `marked::bits_at` gives `bits_at`, by the four bits. Assumes nothing.
use native.Mathlib.Omega.{arith}
use Rattle.eval.proofs.MarkedLaws.{bits_past, bits_outside, bits_inside}
use Rattle.eval.proofs.marked.bits_at.Goals as goal

pub returns-then-record_count-component : goal.returns-then-record_count-component
returns-then-record_count-component c = bits_past _ _ _ _ (omega (arith, c.record_count.ensures, c.if-record_count-component.true))

pub returns-then-place-ge-BLOCK : goal.returns-then-place-ge-BLOCK
returns-then-place-ge-BLOCK c = bits_outside _ _ _ _ (omega (arith, c.record_count.ensures, c.if-record_count-component.false)) c.if-place-ge-BLOCK.true

pub returns : goal.returns
returns c = bits_inside _ _ _ _ (omega (arith, c.record_count.ensures)) (omega arith) c.bit-first.ensures c.bit-second.ensures c.bit-third.ensures c.bit-fourth.ensures

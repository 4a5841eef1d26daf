-- `write_shown` appends a text byte by byte, each as it is shown. Assumes nothing.
use Rattle.texts.specs.Text.{shown}
use Rattle.texts.proofs.AppendLaws.{walks_all, walks_on, walks_end}
use Rattle.texts.proofs.Writer.write_shown.Goals as goal

pub loop-b-init : goal.loop-b-init
unfolding shown
loop-b-init c = walks_all

pub loop-b-preserved : goal.loop-b-preserved
loop-b-preserved c = walks_on c.loop-b.invariant c.loop-b-test.true (rw c.shown_byte.ensures at c.append_byte.ensures)

pub returns : goal.returns
returns c = walks_end c.loop-b.invariant c.loop-b-test.false

-- `write_columns` appends what stands under each byte. Assumes nothing.
use Rattle.texts.specs.Place.{columns}
use Rattle.texts.proofs.AppendLaws.{walks_all, walks_on, walks_end}
use Rattle.texts.proofs.place.write_columns.Goals as goal

pub loop-b-init : goal.loop-b-init
unfolding columns
loop-b-init c = walks_all

pub loop-b-preserved : goal.loop-b-preserved
loop-b-preserved c = walks_on c.loop-b.invariant c.loop-b-test.true c.write_column.ensures

pub returns : goal.returns
returns c = walks_end c.loop-b.invariant c.loop-b-test.false

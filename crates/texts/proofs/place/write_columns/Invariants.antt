-- `write_columns` appends what stands under each byte. Assumes nothing.
use Rattle.texts.specs.Place.{column, columns}
use Rattle.texts.proofs.AppendLaws.{Walks}
use Rattle.texts.proofs.place.write_columns.Given as goal

abbrev pub invariant-loop-b : goal.invariant-loop-b
invariant-loop-b l = Walks (column l.mark) l.text (columns l.mark l.text) l.initial.out l.out l.b-index

-- `write_mark` appends five texts. Assumes nothing.
use Rattle.texts.proofs.AppendLaws.{wrote_then}
use Rattle.texts.proofs.place.write_mark.Goals as goal

pub returns : goal.returns
returns c = wrote_then (wrote_then (wrote_then (wrote_then c.append.ensures c.write_columns.ensures) c.append-2.ensures) c.write_columns-2.ensures) c.append-3.ensures

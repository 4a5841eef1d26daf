-- `write_line` appends three texts. Assumes nothing.
use Rattle.texts.proofs.AppendLaws.{wrote_then}
use Rattle.texts.proofs.place.write_line.Goals as goal

pub returns : goal.returns
returns c = wrote_then (wrote_then c.append.ensures c.write_shown.ensures) c.append-2.ensures

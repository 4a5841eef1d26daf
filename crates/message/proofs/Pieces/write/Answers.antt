-- `write` appends three pieces. Assumes nothing.
use Rattle.texts.proofs.AppendLaws.{wrote_then}
use Rattle.message.proofs.Pieces.write.Goals as goal

pub returns : goal.returns
returns c = wrote_then (wrote_then c.append.ensures c.append-2.ensures) c.append-3.ensures

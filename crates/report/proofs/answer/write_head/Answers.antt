-- `write_head` appends two lines. Assumes nothing.
use Rattle.texts.proofs.AppendLaws.{wrote_then}
use Rattle.report.proofs.answer.write_head.Goals as goal

pub returns : goal.returns
returns c = wrote_then (wrote_then (rw c.verdict.ensures at c.write_verdict.ensures) c.append.ensures) (wrote_then c.write_outcome.ensures c.append-2.ensures)

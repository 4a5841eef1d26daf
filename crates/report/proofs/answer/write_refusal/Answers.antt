-- `write_refusal` appends a refusal's number and why. Assumes nothing.
use Rattle.texts.proofs.AppendLaws.{wrote_then}
use Rattle.report.proofs.answer.write_refusal.Goals as goal

pub returns : goal.returns
returns c = wrote_then (rw (c.from.ensures, c.from-number.ensures) at c.write_numbered.ensures) (rw c.reason.ensures at c.append.ensures)

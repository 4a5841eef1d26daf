-- `write_counted` appends a number and a thing, and an `s` where the number is not 1. Assumes nothing.
use borrow.Author.Tests.{eq-eqb, ne_eqb}
use Rattle.texts.proofs.AppendLaws.{wrote_then, wrote_none}
use Rattle.report.proofs.answer.write_counted.Goals as goal

pub returns-then-n-ne1 : goal.returns-then-n-ne1
returns-then-n-ne1 c = rw (ne_eqb _ _ c.if-n-ne1.true) (wrote_then (wrote_then c.write_number.ensures c.append.ensures) c.append-then-n-ne1.ensures)

pub returns-else-n-ne1 : goal.returns-else-n-ne1
returns-else-n-ne1 c = rw (eq-eqb _ _ c.if-n-ne1.false) (wrote_then (wrote_then c.write_number.ensures c.append.ensures) wrote_none)

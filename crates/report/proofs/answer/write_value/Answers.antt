-- `write_value` appends the words of each kind of value. Assumes nothing.
use Rattle.texts.proofs.AppendLaws.{wrote_then}
use Rattle.report.proofs.answer.write_value.Goals as goal

pub returns-in-BoolWithWarning : goal.returns-in-BoolWithWarning
returns-in-BoolWithWarning c = rw c.in-BoolWithWarning.is (wrote_then c.write_truth-in-BoolWithWarning.ensures c.append.ensures)

pub returns-in-Count : goal.returns-in-Count
returns-in-Count c = rw c.in-Count.is (wrote_then c.append-in-Count.ensures c.write_number.ensures)

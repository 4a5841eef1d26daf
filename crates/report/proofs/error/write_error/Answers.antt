-- `write_error` appends a line and a place. Assumes nothing.
use Rattle.texts.proofs.AppendLaws.{wrote_then}
use Rattle.report.specs.Error.{error_text}
use Rattle.report.proofs.error.write_error.Goals as goal

pub returns : goal.returns
unfolding error_text
returns c = wrote_then (wrote_then c.write_message.ensures c.append.ensures) c.write_place.ensures

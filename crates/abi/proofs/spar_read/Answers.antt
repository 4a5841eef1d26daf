-- `spar_read` gives in numbers what `parse_expr` gives. Assumes nothing.
use Rattle.abi.proofs.AnswerLaws.{read_rows}
use Rattle.abi.proofs.spar_read.Goals as goal

pub row_numbers-requires : goal.row_numbers-requires
row_numbers-requires c = read_rows c.parse_expr-reading.ensures

-- `spar_run` gives in numbers what `run` gives. Assumes nothing.
use Rattle.abi.proofs.AnswerLaws.{run_amount, run_rows}
use Rattle.abi.proofs.spar_run.Goals as goal

pub outcome_numbers-first-requires : goal.outcome_numbers-first-requires
outcome_numbers-first-requires c = run_amount c.run-given.ensures

pub row_numbers-requires : goal.row_numbers-requires
row_numbers-requires c = run_rows c.run-given.ensures

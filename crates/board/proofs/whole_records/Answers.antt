-- `whole_records` gives `whole_records`. Assumes nothing.
use Rattle.board.proofs.whole_records.Goals as goal

pub returns : goal.returns
returns c = rw (← c.section_length.ensures, ← c.record_size.ensures.0)

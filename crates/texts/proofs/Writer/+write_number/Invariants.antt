-- The number falls. Assumes nothing.
use Rattle.texts.proofs.Writer.+write_number.Given as goal

abbrev pub decreases-write_number : goal.decreases-write_number
decreases-write_number l = l.n

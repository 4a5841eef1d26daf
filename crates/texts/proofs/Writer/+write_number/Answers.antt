-- `write_number` writes the digits of the tenth, and then the last. Assumes nothing.
use mathlib.Core.Path.{refl}
use Rattle.texts.proofs.NumberLaws.{number_few, number_many}
use Rattle.texts.proofs.Writer.+write_number.Goals as goal
use Rattle.texts.proofs.Writer.+write_number.Goals.{then-n-ge10, else-n-ge10}

pub returns : goal.returns
returns t c =
    elim c.if-n-ge10.branch [
      | then-n-ge10 w ↦ number_many w.if-n-ge10.true c.ranges.n.fits refl w.write_number.ensures (rw w.self-is at c.append_byte.ensures)
      | else-n-ge10 w ↦ number_few w.if-n-ge10.false refl (rw w.self-is at c.append_byte.ensures)
    ]

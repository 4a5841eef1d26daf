-- `row` gives the three numbers of the row at its place, where there is one. Assumes nothing.
use native.Mathlib.Omega.{arith}
use Rattle.reader.proofs.ReaderLaws.{row_some, row_none}
use Rattle.reader.proofs.Reader.row.Goals as goal

pub returns-then-self : goal.returns-then-self
returns-then-self c = row_none _ _ (omega (arith, c.if-self.true))

pub returns : goal.returns
returns c = row_some _ _ (omega (arith, c.if-self.false))

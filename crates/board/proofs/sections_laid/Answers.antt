-- `sections_laid` gives `sections_laid`, pair by pair. Assumes nothing.
use Rattle.board.specs.Image.{pair_offset, pair_length}
use Rattle.board.specs.Check.{sections_laid}
use Rattle.board.proofs.CheckLaws.{laying_off, laying_on, laying_done}
use Rattle.board.proofs.sections_laid.Goals as goal

pub returns-then-offset-end : goal.returns-then-offset-end
unfolding sections_laid pair_offset
returns-then-offset-end c = laying_off c.loop-n.invariant c.loop-n-test.true c.word-offset.ensures c.if-offset-end.true

pub loop-n-preserved : goal.loop-n-preserved
unfolding pair_offset pair_length
loop-n-preserved c = laying_on c.loop-n.invariant c.loop-n-test.true c.word-offset.ensures c.if-offset-end.false c.word-length.ensures

pub returns : goal.returns
unfolding sections_laid
returns c = laying_done c.loop-n.invariant c.loop-n-test.false

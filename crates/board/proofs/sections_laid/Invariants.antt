-- `sections_laid` gives `sections_laid`, pair by pair. Assumes nothing.
use lib.ListN.{length}
use Rattle.board.specs.Image.{SECTIONS, pair_offset, pair_length}
use Rattle.board.specs.Check.{PAIRS_SIZE}
use Rattle.board.proofs.CheckLaws.{Laying}
use Rattle.board.proofs.sections_laid.Given as goal

abbrev pub invariant-loop-n : goal.invariant-loop-n
invariant-loop-n l = Laying (pair_offset l.image) (pair_length l.image) SECTIONS PAIRS_SIZE (length l.image) l.n l.end

-- `Sectioned::strings_laid` gives `strings_laid`, pair by pair. Assumes nothing.
use Rattle.board.specs.Image.{string_offset, string_length}
use Rattle.board.proofs.CheckLaws.{Laying}
use Rattle.board.proofs.Sectioned.strings_laid.Given as goal

abbrev pub invariant-loop-n : goal.invariant-loop-n
invariant-loop-n l = Laying (string_offset l.image) (string_length l.image) l.n-end 0 l.letters l.n l.next

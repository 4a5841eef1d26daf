-- `Sectioned::strings_utf8` gives `strings_utf8`, string by string. Assumes nothing.
use Rattle.syntax.specs.Utf8.{utf8}
use Rattle.board.specs.Image.{text}
use Rattle.board.proofs.CheckLaws.{Passing}
use Rattle.board.proofs.Sectioned.strings_utf8.Given as goal

abbrev pub invariant-loop-n : goal.invariant-loop-n
invariant-loop-n l = Passing (λ n. utf8 (text l.image n)) l.count l.n

-- `eat_ws` writes blanks, and going on from each place ends as the whole does. Assumes nothing.
use lib.ListN.{length}
use Rattle.trees.specs.Parse.{eat_ws}
use Rattle.parser.specs.Parser.{left}
use Rattle.parser.proofs.ParserLaws.{Ongoing}
use Rattle.parser.proofs.ExprParser.eat_ws.Given as goal

abbrev pub invariant-loop-self : goal.invariant-loop-self
invariant-loop-self l = Ongoing l.initial.self l.self eat_ws eat_ws

abbrev pub decreases-loop-self : goal.decreases-loop-self
decreases-loop-self l = length (left l.self)

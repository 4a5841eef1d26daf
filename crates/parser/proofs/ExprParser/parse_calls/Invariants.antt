-- `parse_calls` follows its definition: going on from each call ends as the whole does. Assumes nothing.
use lib.ListN.{length}
use Rattle.trees.specs.Parse.{parse, Calls}
use Rattle.parser.specs.Parser.{left}
use Rattle.parser.proofs.ParserLaws.{Ongoing}
use Rattle.parser.proofs.ExprParser.parse_calls.Given as goal

abbrev pub invariant-loop-self : goal.invariant-loop-self
invariant-loop-self l = Ongoing l.initial.self l.self (parse Calls) (parse Calls)

abbrev pub decreases-loop-self : goal.decreases-loop-self
decreases-loop-self l = length (left l.self)

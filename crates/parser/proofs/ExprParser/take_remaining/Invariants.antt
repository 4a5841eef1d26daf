-- `take_remaining` writes all tokens left, and going on from each place ends as the whole does. Assumes nothing.
use mathlib.Core.Path.{◌≡◌}
use lib.ListN.{length}
use Rattle.trees.specs.Parse.{remaining}
use Rattle.parser.specs.Parser.{left}
use Rattle.parser.proofs.ParserLaws.{Ongoing, with_place}
use Rattle.parser.proofs.ExprParser.take_remaining.Given as goal

abbrev pub invariant-loop-token : goal.invariant-loop-token
invariant-loop-token l = (l.self.tokens ≡ l.initial.self.tokens) × Ongoing l.initial.self (with_place l.self l.at) remaining remaining

abbrev pub decreases-loop-token : goal.decreases-loop-token
decreases-loop-token l = length (left (with_place l.self l.at))

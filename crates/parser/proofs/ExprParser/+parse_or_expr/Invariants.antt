-- The functions that call each other follow their definitions, one step each, and their loops from each of their steps on; tokens left fall
-- around the cycle. Assumes nothing.
use Prim.Native.Nat.{◌+◌, ◌*◌}
use lib.ListN.{length}
use Rattle.trees.specs.Parse.{parse, OrRest, AndRest}
use Rattle.parser.specs.Parser.{left}
use Rattle.parser.proofs.ParserLaws.{Ongoing}
use Rattle.parser.proofs.ExprParser.+parse_or_expr.Given as goal

abbrev pub decreases-parse_or_expr : goal.decreases-parse_or_expr
decreases-parse_or_expr l = 3 * length (left l.self.now) + 2

abbrev pub decreases-parse_and_expr : goal.decreases-parse_and_expr
decreases-parse_and_expr l = 3 * length (left l.self.now) + 1

abbrev pub decreases-parse_atom : goal.decreases-parse_atom
decreases-parse_atom l = 3 * length (left l.self.now)

abbrev pub invariant-parse_or_expr-loop-self : goal.invariant-parse_or_expr-loop-self
invariant-parse_or_expr-loop-self l = Ongoing l.initial.self l.self (parse OrRest) (parse OrRest)

abbrev pub decreases-parse_or_expr-loop-self : goal.decreases-parse_or_expr-loop-self
decreases-parse_or_expr-loop-self l = length (left l.self)

abbrev pub invariant-parse_and_expr-loop-self : goal.invariant-parse_and_expr-loop-self
invariant-parse_and_expr-loop-self l = Ongoing l.initial.self l.self (parse AndRest) (parse AndRest)

abbrev pub decreases-parse_and_expr-loop-self : goal.decreases-parse_and_expr-loop-self
decreases-parse_and_expr-loop-self l = length (left l.self)

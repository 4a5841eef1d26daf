-- `has_binary_op_at_level` scans the tokens left up to `end`, and going on from each token ends as the whole does. Assumes nothing.
use mathlib.Core.Path.{◌≡◌}
use Prim.Native.Nat.{◌≤◌}
use lib.ListN.{drop}
use Rattle.syntax.specs.Kinds.{number}
use Rattle.lexer.specs.Lex.{lex}
use Rattle.trees.specs.Look.{op_ahead, has_binary_op_at_level}
use Rattle.parser.specs.Parser.{left}
use Rattle.parser.proofs.ExprParser.has_binary_op_at_level.Given as goal

abbrev pub invariant-loop-i : goal.invariant-loop-i
invariant-loop-i l =
    record {
      shallow : l.depth ≤ l.i;
      same : op_ahead (number l.fn.op) l.depth l.found_first_atom (drop l.i (lex l.self.rule.now)) ≡ has_binary_op_at_level (number l.fn.op) (left l.self);
    }

-- `start_node` writes the row of a node. Assumes nothing.
use native.Mathlib.Omega.{arith}
use Rattle.parser.proofs.ParserLaws.{node_room, node_level}
use Rattle.parser.proofs.ExprParser.start_node.Goals as goal

pub put_row-requires : goal.put_row-requires
put_row-requires c = node_room _ c.requires

pub overflow_add-self-2 : goal.overflow_add-self-2
overflow_add-self-2 c = omega (arith, node_level _ c.requires)

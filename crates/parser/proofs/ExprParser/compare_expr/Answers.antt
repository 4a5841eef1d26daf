-- `compare_expr` follows its definition. Assumes nothing.
use Rattle.trees.proofs.ParseLaws.{compare_expr_is}
use Rattle.parser.proofs.ParserLaws.{asks_is, asks_node, asks_first, asks_then, inside, did_is, did_node, did_then}
use Rattle.parser.proofs.ExprParser.compare_expr.Goals as goal

pub start_node-node-requires : goal.start_node-node-requires
start_node-node-requires c = (_, asks_is compare_expr_is c.requires)

pub bump-requires : goal.bump-requires
bump-requires c = asks_first _ (asks_first _ (asks_node (asks_is compare_expr_is c.requires) c.start_node-node.ensures))

pub expect-requires : goal.expect-requires
expect-requires c = asks_then (asks_first _ (asks_node (asks_is compare_expr_is c.requires) c.start_node-node.ensures)) c.bump.ensures

pub literal-requires : goal.literal-requires
literal-requires c = asks_then (asks_node (asks_is compare_expr_is c.requires) c.start_node-node.ensures) (did_then c.bump.ensures c.expect.ensures)

pub finish_node-requires : goal.finish_node-requires
finish_node-requires c = inside (asks_is compare_expr_is c.requires) c.start_node-node.ensures (did_then (did_then c.bump.ensures c.expect.ensures) c.literal.ensures)

pub returns : goal.returns
returns c = did_is compare_expr_is (did_node c.start_node-node.ensures (did_then (did_then c.bump.ensures c.expect.ensures) c.literal.ensures) c.finish_node.ensures)

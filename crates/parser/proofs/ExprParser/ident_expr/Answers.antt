-- `ident_expr` follows its definition. Assumes nothing.
use Rattle.trees.proofs.ParseLaws.{ident_expr_is}
use Rattle.parser.proofs.ParserLaws.{asks_is, asks_node, inside, did_is, did_node}
use Rattle.parser.proofs.ExprParser.ident_expr.Goals as goal

pub start_node-node-requires : goal.start_node-node-requires
start_node-node-requires c = (_, asks_is ident_expr_is c.requires)

pub bump-requires : goal.bump-requires
bump-requires c = asks_node (asks_is ident_expr_is c.requires) c.start_node-node.ensures

pub finish_node-requires : goal.finish_node-requires
finish_node-requires c = inside (asks_is ident_expr_is c.requires) c.start_node-node.ensures c.bump.ensures

pub returns : goal.returns
returns c = did_is ident_expr_is (did_node c.start_node-node.ensures c.bump.ensures c.finish_node.ensures)

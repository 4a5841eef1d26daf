-- `parse_root` follows its definition. Assumes nothing.
use Rattle.trees.proofs.ParseLaws.{parse_root_is}
use Rattle.parser.proofs.ParserLaws.{asks_is, asks_node, asks_first, asks_then, inside, did_is, did_node, did_then}
use Rattle.parser.proofs.ExprParser.parse_root.Goals as goal

pub start_node-node-requires : goal.start_node-node-requires
start_node-node-requires c = (_, asks_is parse_root_is c.requires)

pub parse_pipeline_or_count_compare-requires : goal.parse_pipeline_or_count_compare-requires
parse_pipeline_or_count_compare-requires c = asks_first _ (asks_first _ (asks_node (asks_is parse_root_is c.requires) c.start_node-node.ensures))

pub eat_ws-requires : goal.eat_ws-requires
eat_ws-requires c = asks_then (asks_first _ (asks_node (asks_is parse_root_is c.requires) c.start_node-node.ensures)) c.parse_pipeline_or_count_compare.ensures

pub left_over-requires : goal.left_over-requires
left_over-requires c = asks_then (asks_node (asks_is parse_root_is c.requires) c.start_node-node.ensures) (did_then c.parse_pipeline_or_count_compare.ensures c.eat_ws.ensures)

pub finish_node-requires : goal.finish_node-requires
finish_node-requires c = inside (asks_is parse_root_is c.requires) c.start_node-node.ensures (did_then (did_then c.parse_pipeline_or_count_compare.ensures c.eat_ws.ensures) c.left_over.ensures)

pub returns : goal.returns
returns c = did_is parse_root_is (did_node c.start_node-node.ensures (did_then (did_then c.parse_pipeline_or_count_compare.ensures c.eat_ws.ensures) c.left_over.ensures) c.finish_node.ensures)

-- `parse_pipeline` follows its definition. Assumes nothing.
use Rattle.trees.proofs.ParseLaws.{parse_pipeline_is}
use Rattle.parser.proofs.ParserLaws.{asks_is, asks_node, asks_first, asks_then, inside, did_is, did_node, did_then}
use Rattle.parser.proofs.ExprParser.parse_pipeline.Goals as goal

pub start_node-node-requires : goal.start_node-node-requires
start_node-node-requires c = (_, asks_is parse_pipeline_is c.requires)

pub parse_source-requires : goal.parse_source-requires
parse_source-requires c = asks_first _ (asks_node (asks_is parse_pipeline_is c.requires) c.start_node-node.ensures)

pub parse_calls-requires : goal.parse_calls-requires
parse_calls-requires c = asks_then (asks_node (asks_is parse_pipeline_is c.requires) c.start_node-node.ensures) c.parse_source.ensures

pub finish_node-requires : goal.finish_node-requires
finish_node-requires c = inside (asks_is parse_pipeline_is c.requires) c.start_node-node.ensures (did_then c.parse_source.ensures c.parse_calls.ensures)

pub returns : goal.returns
returns c = did_is parse_pipeline_is (did_node c.start_node-node.ensures (did_then c.parse_source.ensures c.parse_calls.ensures) c.finish_node.ensures)

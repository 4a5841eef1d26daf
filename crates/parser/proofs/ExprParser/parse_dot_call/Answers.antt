-- `parse_dot_call` follows its definition. Assumes nothing.
use Rattle.trees.proofs.ParseLaws.{parse_dot_call_is}
use Rattle.parser.proofs.ParserLaws.{asks_is, asks_node, asks_first, asks_then, inside, did_is, did_node, did_then}
use Rattle.parser.proofs.ExprParser.parse_dot_call.Goals as goal

pub start_node-node-requires : goal.start_node-node-requires
start_node-node-requires c = (_, asks_is parse_dot_call_is c.requires)

pub expect-requires : goal.expect-requires
expect-requires c = asks_first _ (asks_node (asks_is parse_dot_call_is c.requires) c.start_node-node.ensures)

pub parse_method-requires : goal.parse_method-requires
parse_method-requires c = asks_then (asks_node (asks_is parse_dot_call_is c.requires) c.start_node-node.ensures) c.expect.ensures

pub finish_node-requires : goal.finish_node-requires
finish_node-requires c = inside (asks_is parse_dot_call_is c.requires) c.start_node-node.ensures (did_then c.expect.ensures c.parse_method.ensures)

pub returns : goal.returns
returns c = did_is parse_dot_call_is (did_node c.start_node-node.ensures (did_then c.expect.ensures c.parse_method.ensures) c.finish_node.ensures)

-- `no_args` follows its definition. Assumes nothing.
use Rattle.trees.proofs.ParseLaws.{no_args_is}
use Rattle.parser.proofs.ParserLaws.{asks_is, asks_node, asks_first, asks_then, inside, did_is, did_node, did_then}
use Rattle.parser.proofs.ExprParser.no_args.Goals as goal

pub start_node-node-requires : goal.start_node-node-requires
start_node-node-requires c = (_, asks_is no_args_is c.requires)

pub expect-requires : goal.expect-requires
expect-requires c = asks_first _ (asks_node (asks_is no_args_is c.requires) c.start_node-node.ensures)

pub expect-requires-2 : goal.expect-requires-2
expect-requires-2 c = asks_then (asks_node (asks_is no_args_is c.requires) c.start_node-node.ensures) c.expect.ensures

pub finish_node-requires : goal.finish_node-requires
finish_node-requires c = inside (asks_is no_args_is c.requires) c.start_node-node.ensures (did_then c.expect.ensures c.expect-2.ensures)

pub returns : goal.returns
returns c = did_is no_args_is (did_node c.start_node-node.ensures (did_then c.expect.ensures c.expect-2.ensures) c.finish_node.ensures)

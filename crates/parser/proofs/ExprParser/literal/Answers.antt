-- `literal` follows its definition. Assumes nothing.
use Rattle.trees.proofs.ParseLaws.{literal_is}
use Rattle.parser.proofs.ParserLaws.{asks_is, asks_node, inside, did_is, did_node}
use Rattle.parser.proofs.ExprParser.literal.Goals as goal

pub start_node-node-requires : goal.start_node-node-requires
start_node-node-requires c = (_, asks_is literal_is c.requires)

pub expect-requires : goal.expect-requires
expect-requires c = asks_node (asks_is literal_is c.requires) c.start_node-node.ensures

pub finish_node-requires : goal.finish_node-requires
finish_node-requires c = inside (asks_is literal_is c.requires) c.start_node-node.ensures c.expect.ensures

pub returns : goal.returns
returns c = did_is literal_is (did_node c.start_node-node.ensures c.expect.ensures c.finish_node.ensures)

-- `parse_pipeline_or_count_compare` follows its definition. Assumes nothing.
use Rattle.trees.proofs.ParseLaws.{parse_compare_is}
use Rattle.parser.proofs.ParserLaws.{asks_is, asks_node, asks_first, asks_then, asks_true, asks_false, inside, did_is, did_node, did_then, did_true, did_false}
use Rattle.parser.proofs.ExprParser.parse_pipeline_or_count_compare.Goals as goal

pub start_node-node-requires : goal.start_node-node-requires
start_node-node-requires c = (_, asks_true _ _ c.has_count_compare_ahead.ensures c.if-has_count_compare_ahead.true (asks_is parse_compare_is c.requires))

pub parse_pipeline-requires : goal.parse_pipeline-requires
parse_pipeline-requires c = asks_first _ (asks_first _ (asks_node (asks_true _ _ c.has_count_compare_ahead.ensures c.if-has_count_compare_ahead.true (asks_is parse_compare_is c.requires)) c.start_node-node.ensures))

pub bump-requires : goal.bump-requires
bump-requires c = asks_then (asks_first _ (asks_node (asks_true _ _ c.has_count_compare_ahead.ensures c.if-has_count_compare_ahead.true (asks_is parse_compare_is c.requires)) c.start_node-node.ensures)) c.parse_pipeline.ensures

pub bump-requires-then-has_count_compare_ahead : goal.bump-requires-then-has_count_compare_ahead
bump-requires-then-has_count_compare_ahead c = asks_then (asks_node (asks_true _ _ c.has_count_compare_ahead.ensures c.if-has_count_compare_ahead.true (asks_is parse_compare_is c.requires)) c.start_node-node.ensures) (did_then c.parse_pipeline.ensures c.bump.ensures)

pub finish_node-requires : goal.finish_node-requires
finish_node-requires c = inside (asks_true _ _ c.has_count_compare_ahead.ensures c.if-has_count_compare_ahead.true (asks_is parse_compare_is c.requires)) c.start_node-node.ensures (did_then (did_then c.parse_pipeline.ensures c.bump.ensures) c.bump-then-has_count_compare_ahead.ensures)

pub parse_pipeline-requires-else-has_count_compare_ahead : goal.parse_pipeline-requires-else-has_count_compare_ahead
parse_pipeline-requires-else-has_count_compare_ahead c = asks_false _ _ c.has_count_compare_ahead.ensures c.if-has_count_compare_ahead.false (asks_is parse_compare_is c.requires)

pub returns-then-has_count_compare_ahead : goal.returns-then-has_count_compare_ahead
returns-then-has_count_compare_ahead c = did_is parse_compare_is (did_true _ _ c.has_count_compare_ahead.ensures c.if-has_count_compare_ahead.true (did_node c.start_node-node.ensures (did_then (did_then c.parse_pipeline.ensures c.bump.ensures) c.bump-then-has_count_compare_ahead.ensures) c.finish_node.ensures))

pub returns-else-has_count_compare_ahead : goal.returns-else-has_count_compare_ahead
returns-else-has_count_compare_ahead c = did_is parse_compare_is (did_false _ _ c.has_count_compare_ahead.ensures c.if-has_count_compare_ahead.false c.parse_pipeline-else-has_count_compare_ahead.ensures)

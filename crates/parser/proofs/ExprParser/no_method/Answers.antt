-- `no_method` follows its definition. Assumes nothing.
use Rattle.trees.proofs.ParseLaws.{no_method_is}
use Rattle.parser.proofs.ParserLaws.{asks_is, asks_first, asks_then, asks_false, did_is, did_then, did_true, did_false, did_done, ready_then}
use Rattle.parser.proofs.ExprParser.no_method.Goals as goal

pub fail_ahead-requires : goal.fail_ahead-requires
fail_ahead-requires c = asks_first _ (asks_is no_method_is c.requires)

pub bump-requires : goal.bump-requires
bump-requires c = asks_false _ _ c.at_eof.ensures c.if-not-at_eof.true (asks_then (asks_is no_method_is c.requires) c.fail_ahead.ensures)

pub returns-then-not-at_eof : goal.returns-then-not-at_eof
returns-then-not-at_eof c = did_is no_method_is (did_then c.fail_ahead.ensures (did_false _ _ c.at_eof.ensures c.if-not-at_eof.true c.bump.ensures))

pub returns-else-not-at_eof : goal.returns-else-not-at_eof
returns-else-not-at_eof c = did_is no_method_is (did_then c.fail_ahead.ensures (did_true _ _ c.at_eof.ensures c.if-not-at_eof.false (did_done (ready_then c.fail_ahead.ensures c.requires.ready))))

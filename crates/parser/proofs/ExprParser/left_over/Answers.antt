-- `left_over` follows its definition. Assumes nothing.
use Rattle.trees.proofs.ParseLaws.{left_over_is}
use Rattle.parser.proofs.ParserLaws.{asks_is, asks_first, asks_then, asks_false, did_is, did_then, did_true, did_false, did_done}
use Rattle.parser.proofs.ExprParser.left_over.Goals as goal

pub fail-requires : goal.fail-requires
fail-requires c = asks_first _ (asks_false _ _ c.at_eof.ensures c.if-not-at_eof.true (asks_is left_over_is c.requires))

pub take_remaining-requires : goal.take_remaining-requires
take_remaining-requires c = asks_then (asks_false _ _ c.at_eof.ensures c.if-not-at_eof.true (asks_is left_over_is c.requires)) c.fail.ensures

pub returns-then-not-at_eof : goal.returns-then-not-at_eof
returns-then-not-at_eof c = did_is left_over_is (did_false _ _ c.at_eof.ensures c.if-not-at_eof.true (did_then c.fail.ensures c.take_remaining.ensures))

pub returns-else-not-at_eof : goal.returns-else-not-at_eof
returns-else-not-at_eof c = did_is left_over_is (did_true _ _ c.at_eof.ensures c.if-not-at_eof.false (did_done c.requires.ready))

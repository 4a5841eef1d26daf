-- `parse_method` follows its definition, test by test. Assumes nothing.
use Rattle.trees.proofs.ParseLaws.{parse_method_is}
use Rattle.parser.proofs.ParserLaws.{asks_is, asks_first, asks_then, asks_true, asks_false, did_is, did_then, did_true, did_false, predicate_method, count_method, plain_method}
use Rattle.parser.proofs.ExprParser.parse_method.Goals as goal

pub bump-requires : goal.bump-requires
bump-requires c = asks_first _ (asks_true _ _ (predicate_method _ c.current_text-method.ensures c.is_predicate_method.ensures) c.if-is_predicate_method.true (asks_is parse_method_is c.requires))

pub predicate_args-requires : goal.predicate_args-requires
predicate_args-requires c = asks_then (asks_true _ _ (predicate_method _ c.current_text-method.ensures c.is_predicate_method.ensures) c.if-is_predicate_method.true (asks_is parse_method_is c.requires)) c.bump.ensures

pub bump-requires-then-same : goal.bump-requires-then-same
bump-requires-then-same c = asks_first _ (asks_true _ _ (count_method _ c.current_text-method.ensures c.same.ensures) c.if-same.true (asks_false _ _ (predicate_method _ c.current_text-method.ensures c.is_predicate_method.ensures) c.if-is_predicate_method.false (asks_is parse_method_is c.requires)))

pub no_args-requires : goal.no_args-requires
no_args-requires c = asks_then (asks_true _ _ (count_method _ c.current_text-method.ensures c.same.ensures) c.if-same.true (asks_false _ _ (predicate_method _ c.current_text-method.ensures c.is_predicate_method.ensures) c.if-is_predicate_method.false (asks_is parse_method_is c.requires))) c.bump-then-same.ensures

pub bump-requires-then-is_plain_method : goal.bump-requires-then-is_plain_method
bump-requires-then-is_plain_method c = asks_true _ _ (plain_method _ c.current_text-method.ensures c.is_plain_method.ensures) c.if-is_plain_method.true (asks_false _ _ (count_method _ c.current_text-method.ensures c.same.ensures) c.if-same.false (asks_false _ _ (predicate_method _ c.current_text-method.ensures c.is_predicate_method.ensures) c.if-is_predicate_method.false (asks_is parse_method_is c.requires)))

pub no_method-requires : goal.no_method-requires
no_method-requires c = asks_false _ _ (plain_method _ c.current_text-method.ensures c.is_plain_method.ensures) c.if-is_plain_method.false (asks_false _ _ (count_method _ c.current_text-method.ensures c.same.ensures) c.if-same.false (asks_false _ _ (predicate_method _ c.current_text-method.ensures c.is_predicate_method.ensures) c.if-is_predicate_method.false (asks_is parse_method_is c.requires)))

pub returns-then-is_predicate_method : goal.returns-then-is_predicate_method
returns-then-is_predicate_method c = did_is parse_method_is (did_true _ _ (predicate_method _ c.current_text-method.ensures c.is_predicate_method.ensures) c.if-is_predicate_method.true (did_then c.bump.ensures c.predicate_args.ensures))

pub returns-then-same : goal.returns-then-same
returns-then-same c = did_is parse_method_is (did_false _ _ (predicate_method _ c.current_text-method.ensures c.is_predicate_method.ensures) c.if-is_predicate_method.false (did_true _ _ (count_method _ c.current_text-method.ensures c.same.ensures) c.if-same.true (did_then c.bump-then-same.ensures c.no_args.ensures)))

pub returns-then-is_plain_method : goal.returns-then-is_plain_method
returns-then-is_plain_method c = did_is parse_method_is (did_false _ _ (predicate_method _ c.current_text-method.ensures c.is_predicate_method.ensures) c.if-is_predicate_method.false (did_false _ _ (count_method _ c.current_text-method.ensures c.same.ensures) c.if-same.false (did_true _ _ (plain_method _ c.current_text-method.ensures c.is_plain_method.ensures) c.if-is_plain_method.true c.bump-then-is_plain_method.ensures)))

pub returns-else-is_plain_method : goal.returns-else-is_plain_method
returns-else-is_plain_method c = did_is parse_method_is (did_false _ _ (predicate_method _ c.current_text-method.ensures c.is_predicate_method.ensures) c.if-is_predicate_method.false (did_false _ _ (count_method _ c.current_text-method.ensures c.same.ensures) c.if-same.false (did_false _ _ (plain_method _ c.current_text-method.ensures c.is_plain_method.ensures) c.if-is_plain_method.false c.no_method.ensures)))

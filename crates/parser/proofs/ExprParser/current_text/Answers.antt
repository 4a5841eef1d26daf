-- `current_text` is the part of the rule that the row of the first token that is no blank names. Assumes nothing.
use Rattle.parser.proofs.ParserLaws.{text_here, text_end, text_within}
use Rattle.parser.proofs.ExprParser.current_text.Goals as goal

pub returns-in_default : goal.returns-in_default
returns-in_default c = text_end c.requires c.token_ahead.ensures c.in_default.is

pub slice_bounds-result-count : goal.slice_bounds-result-count
slice_bounds-result-count c = (text_within c.requires c.token_ahead.ensures c.in-Some.is).0

pub slice_bounds-result-start : goal.slice_bounds-result-start
slice_bounds-result-start c = (text_within c.requires c.token_ahead.ensures c.in-Some.is).0

pub slice_bounds-result-end-2 : goal.slice_bounds-result-end-2
slice_bounds-result-end-2 c = (text_within c.requires c.token_ahead.ensures c.in-Some.is).1

pub returns : goal.returns
returns c = text_here c.requires c.token_ahead.ensures c.in-Some.is

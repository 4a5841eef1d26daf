-- `is_ident` asks for the kind and the text of one token. Assumes nothing.
use mathlib.Core.Path.{sym, ◌∙◌}
use borrow.Author.Tests.{eq-eqb, ne_eqb}
use Rattle.parser.proofs.ParserLaws.{ident_here, ident_end, text_within}
use Rattle.parser.proofs.ExprParser.is_ident.Goals as goal

pub returns-in_default : goal.returns-in_default
returns-in_default c = sym (ident_end c.requires.ready c.requires.ahead _ c.in_default.is)

pub returns-then-row : goal.returns-then-row
returns-then-row c = sym (ident_here c.requires.ready c.requires.ahead _ c.in-Some.is ∙ rw (ne_eqb _ _ c.if-row.true))

pub slice_bounds-same-count : goal.slice_bounds-same-count
slice_bounds-same-count c = (text_within c.requires.ready c.requires.ahead c.in-Some.is).0

pub slice_bounds-same-start : goal.slice_bounds-same-start
slice_bounds-same-start c = (text_within c.requires.ready c.requires.ahead c.in-Some.is).0

pub slice_bounds-same-end : goal.slice_bounds-same-end
slice_bounds-same-end c = (text_within c.requires.ready c.requires.ahead c.in-Some.is).1

pub returns : goal.returns
returns c = c.same.ensures ∙ sym (ident_here c.requires.ready c.requires.ahead _ c.in-Some.is ∙ rw (eq-eqb _ _ c.if-row.false))

-- `eat_ws` writes blanks, and going on from each place ends as the whole does. Assumes nothing.
use mathlib.Core.Path.{sym, ◌∙◌}
use Rattle.syntax.specs.declared.kind.Kind.{Kind}
use Rattle.trees.proofs.LookLaws.{next_there, eat_blank, eat_stop}
use Rattle.parser.proofs.ParserLaws.{next_fewer, ongoing_as, ongoing_asks, ongoing_next, ongoing_end}
use Rattle.parser.proofs.ExprParser.eat_ws.Goals as goal

pub put_token-requires : goal.put_token-requires
put_token-requires c = ongoing_asks _ (ongoing_as (eat_blank _ (sym c.next_is.ensures ∙ c.loop-self-test.true)) c.loop-self.invariant)

pub loop-self-smaller : goal.loop-self-smaller
loop-self-smaller c = next_fewer (next_there Kind.Whitespace _ (sym c.next_is.ensures ∙ c.loop-self-test.true)) c.put_token.ensures

pub loop-self-preserved : goal.loop-self-preserved
loop-self-preserved c = ongoing_next _ (ongoing_as (eat_blank _ (sym c.next_is.ensures ∙ c.loop-self-test.true)) c.loop-self.invariant) c.put_token.ensures

pub returns : goal.returns
returns c = ongoing_end (ongoing_as (eat_stop _ (sym c.next_is.ensures ∙ c.loop-self-test.false)) c.loop-self.invariant)

-- `parse_calls` follows its definition: going on from each call ends as the whole does. Assumes nothing.
use mathlib.Core.Path.{sym, ◌∙◌}
use native.Mathlib.Omega.{arith}
use Rattle.syntax.specs.declared.kind.Kind.{Kind}
use Rattle.trees.proofs.WritingLaws.{choose_true, choose_false}
use Rattle.trees.proofs.CycleLaws.{calls_step}
use Rattle.parser.proofs.ParserLaws.{ongoing_as, ongoing_asks, ongoing_next, ongoing_end, no_more, dot_fewer, eaten_kind}
use Rattle.parser.proofs.ExprParser.parse_calls.Goals as goal

pub eat_ws-requires : goal.eat_ws-requires
eat_ws-requires c = ongoing_asks _ (ongoing_as (calls_step _) c.loop-self.invariant)

pub parse_dot_call-requires : goal.parse_dot_call-requires
parse_dot_call-requires c = ongoing_asks _ (ongoing_as (choose_true _ _ _ _ (sym (eaten_kind c.eat_ws.ensures Kind.Dot c.next_is.ensures) ∙ c.if-not-next_is.false)) (ongoing_next _ (ongoing_as (calls_step _) c.loop-self.invariant) c.eat_ws.ensures))

pub loop-self-smaller : goal.loop-self-smaller
loop-self-smaller c = omega (arith, no_more c.eat_ws.ensures, dot_fewer (eaten_kind c.eat_ws.ensures Kind.Dot c.next_is.ensures) c.if-not-next_is.false c.parse_dot_call.ensures)

pub loop-self-preserved : goal.loop-self-preserved
loop-self-preserved c = ongoing_next _ (ongoing_as (choose_true _ _ _ _ (sym (eaten_kind c.eat_ws.ensures Kind.Dot c.next_is.ensures) ∙ c.if-not-next_is.false)) (ongoing_next _ (ongoing_as (calls_step _) c.loop-self.invariant) c.eat_ws.ensures)) c.parse_dot_call.ensures

pub returns : goal.returns
returns c = ongoing_end (ongoing_as (choose_false _ _ _ _ (sym (eaten_kind c.eat_ws.ensures Kind.Dot c.next_is.ensures) ∙ c.if-not-next_is.true)) (ongoing_next _ (ongoing_as (calls_step _) c.loop-self.invariant) c.eat_ws.ensures))

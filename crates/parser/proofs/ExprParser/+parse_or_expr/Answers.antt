-- The functions that call each other follow their definitions, one step each, and their loops from each of their steps on; tokens left fall
-- around the cycle. Assumes nothing.
use mathlib.Core.Path.{sym, ap, ◌∙◌}
use native.Mathlib.Omega.{arith}
use lib.ListN.{length}
use Rattle.syntax.specs.declared.kind.Kind.{Kind}
use Rattle.trees.proofs.ParseLaws.{atom_here_is}
use Rattle.trees.proofs.CycleLaws.{alone, or_step, and_step, atom_step, or_more, or_end, and_more, and_end}
use Rattle.parser.proofs.ParserLaws.{asks_is, asks_as, asks_node, asks_first, asks_then, asks_true, asks_false, inside, did_is, did_as, did_node, did_then, did_true, did_false, ongoing_start, ongoing_as, ongoing_asks, ongoing_next, ongoing_end, no_more, bump_fewer, node_fewer, started_left, eaten_kind}
use Rattle.parser.proofs.ExprParser.+parse_or_expr.Goals as goal

pub parse_and_expr-parse_atom-requires : goal.parse_and_expr-parse_atom-requires
parse_and_expr-parse_atom-requires t c = (omega arith, asks_false _ _ c.has_binary_op_at_level.ensures c.if-not-has_binary_op_at_level.true (asks_as (and_step _) c.requires))

pub parse_and_expr-returns-then-not-has_binary_op_at_level : goal.parse_and_expr-returns-then-not-has_binary_op_at_level
parse_and_expr-returns-then-not-has_binary_op_at_level t c = did_as (and_step _) (did_false _ _ c.has_binary_op_at_level.ensures c.if-not-has_binary_op_at_level.true c.parse_atom.ensures)

pub parse_and_expr-start_node-node-requires : goal.parse_and_expr-start_node-node-requires
parse_and_expr-start_node-node-requires t c = (_, asks_true _ _ c.has_binary_op_at_level.ensures c.if-not-has_binary_op_at_level.false (asks_as (and_step _) c.requires))

pub parse_and_expr-parse_atom-requires-2 : goal.parse_and_expr-parse_atom-requires-2
parse_and_expr-parse_atom-requires-2 t c = (omega (arith, ap length (started_left c.start_node-node.ensures)), asks_first _ (asks_node (asks_true _ _ c.has_binary_op_at_level.ensures c.if-not-has_binary_op_at_level.false (asks_as (and_step _) c.requires)) c.start_node-node.ensures))

pub parse_and_expr-loop-self-init : goal.parse_and_expr-loop-self-init
parse_and_expr-loop-self-init t c = ongoing_start (asks_then (asks_node (asks_true _ _ c.has_binary_op_at_level.ensures c.if-not-has_binary_op_at_level.false (asks_as (and_step _) c.requires)) c.start_node-node.ensures) c.parse_atom-2.ensures)

pub parse_and_expr-bump-requires : goal.parse_and_expr-bump-requires
parse_and_expr-bump-requires t c = asks_first _ (ongoing_asks _ (ongoing_as (and_more _ (sym c.at_kind.ensures ∙ c.loop-self-test.true)) c.loop-self.invariant))

pub parse_and_expr-parse_atom-requires-in-loop-self : goal.parse_and_expr-parse_atom-requires-in-loop-self
parse_and_expr-parse_atom-requires-in-loop-self t c = (omega (arith, ap length (started_left c.start_node-node.ensures), no_more c.parse_atom-2.ensures, bump_fewer Kind.AndKw c.at_kind.ensures c.loop-self-test.true c.bump.ensures), asks_then (ongoing_asks _ (ongoing_as (and_more _ (sym c.at_kind.ensures ∙ c.loop-self-test.true)) c.loop-self.invariant)) c.bump.ensures)

pub parse_and_expr-loop-self-smaller : goal.parse_and_expr-loop-self-smaller
parse_and_expr-loop-self-smaller t c = omega (arith, bump_fewer Kind.AndKw c.at_kind.ensures c.loop-self-test.true c.bump.ensures, no_more c.parse_atom-in-loop-self.ensures)

pub parse_and_expr-loop-self-preserved : goal.parse_and_expr-loop-self-preserved
parse_and_expr-loop-self-preserved t c = ongoing_next _ (ongoing_as (and_more _ (sym c.at_kind.ensures ∙ c.loop-self-test.true)) c.loop-self.invariant) (did_then c.bump.ensures c.parse_atom-in-loop-self.ensures)

pub parse_and_expr-finish_node-requires : goal.parse_and_expr-finish_node-requires
parse_and_expr-finish_node-requires t c = inside (asks_true _ _ c.has_binary_op_at_level.ensures c.if-not-has_binary_op_at_level.false (asks_as (and_step _) c.requires)) c.start_node-node.ensures (did_then c.parse_atom-2.ensures (ongoing_end (ongoing_as (and_end _ (sym c.at_kind.ensures ∙ c.loop-self-test.false)) c.loop-self.invariant)))

pub parse_and_expr-returns : goal.parse_and_expr-returns
parse_and_expr-returns t c = did_as (and_step _) (did_true _ _ c.has_binary_op_at_level.ensures c.if-not-has_binary_op_at_level.false (did_node c.start_node-node.ensures (did_then c.parse_atom-2.ensures (ongoing_end (ongoing_as (and_end _ (sym c.at_kind.ensures ∙ c.loop-self-test.false)) c.loop-self.invariant))) c.finish_node.ensures))

pub parse_or_expr-parse_and_expr-requires : goal.parse_or_expr-parse_and_expr-requires
parse_or_expr-parse_and_expr-requires t c = (omega arith, asks_false _ _ c.has_binary_op_at_level.ensures c.if-not-has_binary_op_at_level.true (asks_as (or_step _) c.requires))

pub parse_or_expr-returns-then-not-has_binary_op_at_level : goal.parse_or_expr-returns-then-not-has_binary_op_at_level
parse_or_expr-returns-then-not-has_binary_op_at_level t c = did_as (or_step _) (did_false _ _ c.has_binary_op_at_level.ensures c.if-not-has_binary_op_at_level.true c.parse_and_expr.ensures)

pub parse_or_expr-start_node-node-requires : goal.parse_or_expr-start_node-node-requires
parse_or_expr-start_node-node-requires t c = (_, asks_true _ _ c.has_binary_op_at_level.ensures c.if-not-has_binary_op_at_level.false (asks_as (or_step _) c.requires))

pub parse_or_expr-parse_and_expr-requires-2 : goal.parse_or_expr-parse_and_expr-requires-2
parse_or_expr-parse_and_expr-requires-2 t c = (omega (arith, ap length (started_left c.start_node-node.ensures)), asks_first _ (asks_node (asks_true _ _ c.has_binary_op_at_level.ensures c.if-not-has_binary_op_at_level.false (asks_as (or_step _) c.requires)) c.start_node-node.ensures))

pub parse_or_expr-loop-self-init : goal.parse_or_expr-loop-self-init
parse_or_expr-loop-self-init t c = ongoing_start (asks_then (asks_node (asks_true _ _ c.has_binary_op_at_level.ensures c.if-not-has_binary_op_at_level.false (asks_as (or_step _) c.requires)) c.start_node-node.ensures) c.parse_and_expr-2.ensures)

pub parse_or_expr-bump-requires : goal.parse_or_expr-bump-requires
parse_or_expr-bump-requires t c = asks_first _ (ongoing_asks _ (ongoing_as (or_more _ (sym c.at_kind.ensures ∙ c.loop-self-test.true)) c.loop-self.invariant))

pub parse_or_expr-parse_and_expr-requires-in-loop-self : goal.parse_or_expr-parse_and_expr-requires-in-loop-self
parse_or_expr-parse_and_expr-requires-in-loop-self t c = (omega (arith, ap length (started_left c.start_node-node.ensures), no_more c.parse_and_expr-2.ensures, bump_fewer Kind.OrKw c.at_kind.ensures c.loop-self-test.true c.bump.ensures), asks_then (ongoing_asks _ (ongoing_as (or_more _ (sym c.at_kind.ensures ∙ c.loop-self-test.true)) c.loop-self.invariant)) c.bump.ensures)

pub parse_or_expr-loop-self-smaller : goal.parse_or_expr-loop-self-smaller
parse_or_expr-loop-self-smaller t c = omega (arith, bump_fewer Kind.OrKw c.at_kind.ensures c.loop-self-test.true c.bump.ensures, no_more c.parse_and_expr-in-loop-self.ensures)

pub parse_or_expr-loop-self-preserved : goal.parse_or_expr-loop-self-preserved
parse_or_expr-loop-self-preserved t c = ongoing_next _ (ongoing_as (or_more _ (sym c.at_kind.ensures ∙ c.loop-self-test.true)) c.loop-self.invariant) (did_then c.bump.ensures c.parse_and_expr-in-loop-self.ensures)

pub parse_or_expr-finish_node-requires : goal.parse_or_expr-finish_node-requires
parse_or_expr-finish_node-requires t c = inside (asks_true _ _ c.has_binary_op_at_level.ensures c.if-not-has_binary_op_at_level.false (asks_as (or_step _) c.requires)) c.start_node-node.ensures (did_then c.parse_and_expr-2.ensures (ongoing_end (ongoing_as (or_end _ (sym c.at_kind.ensures ∙ c.loop-self-test.false)) c.loop-self.invariant)))

pub parse_or_expr-returns : goal.parse_or_expr-returns
parse_or_expr-returns t c = did_as (or_step _) (did_true _ _ c.has_binary_op_at_level.ensures c.if-not-has_binary_op_at_level.false (did_node c.start_node-node.ensures (did_then c.parse_and_expr-2.ensures (ongoing_end (ongoing_as (or_end _ (sym c.at_kind.ensures ∙ c.loop-self-test.false)) c.loop-self.invariant))) c.finish_node.ensures))

pub parse_or_expr-parse_atom-requires : goal.parse_or_expr-parse_atom-requires
parse_or_expr-parse_atom-requires t c = (omega arith, asks_as (alone _ c.requires.ready.ops (sym c.past_ops.ensures ∙ c.if-past_ops.true)) c.requires)

pub parse_or_expr-returns-then-past_ops : goal.parse_or_expr-returns-then-past_ops
parse_or_expr-returns-then-past_ops t c = did_as (alone _ c.requires.ready.ops (sym c.past_ops.ensures ∙ c.if-past_ops.true)) c.parse_atom.ensures

pub parse_atom-eat_ws-requires : goal.parse_atom-eat_ws-requires
parse_atom-eat_ws-requires t c = asks_first _ (asks_as (atom_step _) c.requires)

pub parse_atom-start_node-node-requires : goal.parse_atom-start_node-node-requires
parse_atom-start_node-node-requires t c = (_, asks_true _ _ (eaten_kind c.eat_ws.ensures Kind.NotKw c.next_is.ensures) c.if-next_is.true (asks_is atom_here_is (asks_then (asks_as (atom_step _) c.requires) c.eat_ws.ensures)))

pub parse_atom-bump-requires : goal.parse_atom-bump-requires
parse_atom-bump-requires t c = asks_first _ (asks_node (asks_true _ _ (eaten_kind c.eat_ws.ensures Kind.NotKw c.next_is.ensures) c.if-next_is.true (asks_is atom_here_is (asks_then (asks_as (atom_step _) c.requires) c.eat_ws.ensures))) c.start_node-node.ensures)

pub parse_atom-parse_atom-requires : goal.parse_atom-parse_atom-requires
parse_atom-parse_atom-requires t c = (omega (arith, no_more c.eat_ws.ensures, node_fewer Kind.NotKw (eaten_kind c.eat_ws.ensures Kind.NotKw c.next_is.ensures) c.if-next_is.true c.start_node-node.ensures c.bump.ensures), asks_then (asks_node (asks_true _ _ (eaten_kind c.eat_ws.ensures Kind.NotKw c.next_is.ensures) c.if-next_is.true (asks_is atom_here_is (asks_then (asks_as (atom_step _) c.requires) c.eat_ws.ensures))) c.start_node-node.ensures) c.bump.ensures)

pub parse_atom-finish_node-requires : goal.parse_atom-finish_node-requires
parse_atom-finish_node-requires t c = inside (asks_true _ _ (eaten_kind c.eat_ws.ensures Kind.NotKw c.next_is.ensures) c.if-next_is.true (asks_is atom_here_is (asks_then (asks_as (atom_step _) c.requires) c.eat_ws.ensures))) c.start_node-node.ensures (did_then c.bump.ensures c.parse_atom.ensures)

pub parse_atom-returns-then-next_is : goal.parse_atom-returns-then-next_is
parse_atom-returns-then-next_is t c = did_as (atom_step _) (did_then c.eat_ws.ensures (did_is atom_here_is (did_true _ _ (eaten_kind c.eat_ws.ensures Kind.NotKw c.next_is.ensures) c.if-next_is.true (did_node c.start_node-node.ensures (did_then c.bump.ensures c.parse_atom.ensures) c.finish_node.ensures))))

pub parse_atom-start_node-node-requires-then-next_is-2 : goal.parse_atom-start_node-node-requires-then-next_is-2
parse_atom-start_node-node-requires-then-next_is-2 t c = (_, asks_true _ _ (eaten_kind c.eat_ws.ensures Kind.LParen c.next_is-else-next_is.ensures) c.if-next_is-2.true (asks_false _ _ (eaten_kind c.eat_ws.ensures Kind.NotKw c.next_is.ensures) c.if-next_is.false (asks_is atom_here_is (asks_then (asks_as (atom_step _) c.requires) c.eat_ws.ensures))))

pub parse_atom-bump-requires-then-next_is-2 : goal.parse_atom-bump-requires-then-next_is-2
parse_atom-bump-requires-then-next_is-2 t c = asks_first _ (asks_first _ (asks_node (asks_true _ _ (eaten_kind c.eat_ws.ensures Kind.LParen c.next_is-else-next_is.ensures) c.if-next_is-2.true (asks_false _ _ (eaten_kind c.eat_ws.ensures Kind.NotKw c.next_is.ensures) c.if-next_is.false (asks_is atom_here_is (asks_then (asks_as (atom_step _) c.requires) c.eat_ws.ensures)))) c.start_node-node-then-next_is-2.ensures))

pub parse_atom-parse_or_expr-requires : goal.parse_atom-parse_or_expr-requires
parse_atom-parse_or_expr-requires t c = (omega (arith, no_more c.eat_ws.ensures, node_fewer Kind.LParen (eaten_kind c.eat_ws.ensures Kind.LParen c.next_is-else-next_is.ensures) c.if-next_is-2.true c.start_node-node-then-next_is-2.ensures c.bump-then-next_is-2.ensures), asks_then (asks_first _ (asks_node (asks_true _ _ (eaten_kind c.eat_ws.ensures Kind.LParen c.next_is-else-next_is.ensures) c.if-next_is-2.true (asks_false _ _ (eaten_kind c.eat_ws.ensures Kind.NotKw c.next_is.ensures) c.if-next_is.false (asks_is atom_here_is (asks_then (asks_as (atom_step _) c.requires) c.eat_ws.ensures)))) c.start_node-node-then-next_is-2.ensures)) c.bump-then-next_is-2.ensures)

pub parse_atom-expect-requires : goal.parse_atom-expect-requires
parse_atom-expect-requires t c = asks_then (asks_node (asks_true _ _ (eaten_kind c.eat_ws.ensures Kind.LParen c.next_is-else-next_is.ensures) c.if-next_is-2.true (asks_false _ _ (eaten_kind c.eat_ws.ensures Kind.NotKw c.next_is.ensures) c.if-next_is.false (asks_is atom_here_is (asks_then (asks_as (atom_step _) c.requires) c.eat_ws.ensures)))) c.start_node-node-then-next_is-2.ensures) (did_then c.bump-then-next_is-2.ensures c.parse_or_expr.ensures)

pub parse_atom-finish_node-requires-then-next_is-2 : goal.parse_atom-finish_node-requires-then-next_is-2
parse_atom-finish_node-requires-then-next_is-2 t c = inside (asks_true _ _ (eaten_kind c.eat_ws.ensures Kind.LParen c.next_is-else-next_is.ensures) c.if-next_is-2.true (asks_false _ _ (eaten_kind c.eat_ws.ensures Kind.NotKw c.next_is.ensures) c.if-next_is.false (asks_is atom_here_is (asks_then (asks_as (atom_step _) c.requires) c.eat_ws.ensures)))) c.start_node-node-then-next_is-2.ensures (did_then (did_then c.bump-then-next_is-2.ensures c.parse_or_expr.ensures) c.expect.ensures)

pub parse_atom-returns-then-next_is-2 : goal.parse_atom-returns-then-next_is-2
parse_atom-returns-then-next_is-2 t c = did_as (atom_step _) (did_then c.eat_ws.ensures (did_is atom_here_is (did_false _ _ (eaten_kind c.eat_ws.ensures Kind.NotKw c.next_is.ensures) c.if-next_is.false (did_true _ _ (eaten_kind c.eat_ws.ensures Kind.LParen c.next_is-else-next_is.ensures) c.if-next_is-2.true (did_node c.start_node-node-then-next_is-2.ensures (did_then (did_then c.bump-then-next_is-2.ensures c.parse_or_expr.ensures) c.expect.ensures) c.finish_node-then-next_is-2.ensures)))))

pub parse_atom-simple_atom-requires : goal.parse_atom-simple_atom-requires
parse_atom-simple_atom-requires t c = asks_false _ _ (eaten_kind c.eat_ws.ensures Kind.LParen c.next_is-else-next_is.ensures) c.if-next_is-2.false (asks_false _ _ (eaten_kind c.eat_ws.ensures Kind.NotKw c.next_is.ensures) c.if-next_is.false (asks_is atom_here_is (asks_then (asks_as (atom_step _) c.requires) c.eat_ws.ensures)))

pub parse_atom-returns-else-next_is-2 : goal.parse_atom-returns-else-next_is-2
parse_atom-returns-else-next_is-2 t c = did_as (atom_step _) (did_then c.eat_ws.ensures (did_is atom_here_is (did_false _ _ (eaten_kind c.eat_ws.ensures Kind.NotKw c.next_is.ensures) c.if-next_is.false (did_false _ _ (eaten_kind c.eat_ws.ensures Kind.LParen c.next_is-else-next_is.ensures) c.if-next_is-2.false c.simple_atom.ensures))))

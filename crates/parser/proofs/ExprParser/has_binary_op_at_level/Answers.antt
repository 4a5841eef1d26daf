-- `has_binary_op_at_level` scans the tokens left up to `end`, and going on from each token ends as the whole does. Assumes nothing.
use mathlib.Core.Path.{refl, sym, ◌∙◌}
use native.Mathlib.Omega.{arith}
use Rattle.trees.specs.Look.{has_binary_op_at_level}
use Rattle.trees.proofs.TokenLaws.{table_length}
use Rattle.trees.proofs.LookLaws.{row_before, op_blank, op_open, op_shut, op_close, op_past, op_deep, op_first, op_here, op_end}
use Rattle.parser.proofs.ParserLaws.{tokens_few}
use Rattle.parser.proofs.ExprParser.has_binary_op_at_level.Goals.{then-kind-3, else-kind-3+else-kind-wanted, else-kind-wanted-via-then-kind-wanted+then-depth-eq0-2+else-found_first_atom, else-kind-wanted-via-then-kind-wanted+else-depth-eq0-2, else-kind-wanted-via-else-kind-wanted}
use Rattle.parser.proofs.ExprParser.has_binary_op_at_level.Goals as goal

pub loop-i-init : goal.loop-i-init
unfolding has_binary_op_at_level
loop-i-init c = record { shallow = omega arith; same = refl }

pub overflow_mul-kind : goal.overflow_mul-kind
overflow_mul-kind c = omega (arith, tokens_few c.requires.ready, table_length c.requires.ready.here)

pub offset_bounds-self-i : goal.offset_bounds-self-i
offset_bounds-self-i c = omega (arith, tokens_few c.requires.ready, table_length c.requires.ready.here)

pub bounds-self-i : goal.bounds-self-i
bounds-self-i c = omega (arith, tokens_few c.requires.ready, table_length c.requires.ready.here)

pub loop-i-preserved-then-kind : goal.loop-i-preserved-then-kind
loop-i-preserved-then-kind c = record { shallow = omega arith; same = op_blank (row_before c.requires.ready.here c.requires.none_from c.loop-i.i c.loop-i-test.true) _ _ _ c.if-kind.true ∙ c.loop-i.invariant.same }

pub returns-then-depth-eq0 : goal.returns-then-depth-eq0
returns-then-depth-eq0 c = op_shut (row_before c.requires.ready.here c.requires.none_from c.loop-i.i c.loop-i-test.true) _ _ _ c.if-kind.false (λ q. omega arith) c.if-kind-2.true c.if-depth-eq0.true ∙ c.loop-i.invariant.same

pub loop-i-preserved-then-kind-2 : goal.loop-i-preserved-then-kind-2
loop-i-preserved-then-kind-2 c = record { shallow = omega arith; same = op_close (row_before c.requires.ready.here c.requires.none_from c.loop-i.i c.loop-i-test.true) _ _ _ c.if-kind.false (λ q. omega arith) c.if-kind-2.true c.if-depth-eq0.false ∙ c.loop-i.invariant.same }

pub returns-then-found_first_atom : goal.returns-then-found_first_atom
returns-then-found_first_atom c = op_here (row_before c.requires.ready.here c.requires.none_from c.loop-i.i c.loop-i-test.true) _ _ _ c.if-kind.false c.if-kind-3.false c.if-kind-2.false (c.if-kind-wanted.true ∙ c.from-wanted.ensures) c.if-depth-eq0-2.true c.if-found_first_atom.true ∙ c.loop-i.invariant.same

pub loop-i-preserved : goal.loop-i-preserved
loop-i-preserved c =
    let row = row_before c.requires.ready.here c.requires.none_from c.loop-i.i c.loop-i-test.true in
    elim c.if-kind-3.branch [
      | then-kind-3 w ↦ rw w.depth-is (record { shallow = omega arith; same = op_open row _ _ _ c.if-kind.false w.if-kind-3.true ∙ c.loop-i.invariant.same })
      | else-kind-3+else-kind-wanted w ↦ rw w.depth-is (elim w.else-kind-wanted.branch [
        | else-kind-wanted-via-then-kind-wanted+then-depth-eq0-2+else-found_first_atom v ↦ record { shallow = omega arith; same = op_first row _ _ _ c.if-kind.false w.if-kind-3.false c.if-kind-2.false v.if-depth-eq0-2.true v.if-found_first_atom.false ∙ c.loop-i.invariant.same }
        | else-kind-wanted-via-then-kind-wanted+else-depth-eq0-2 v ↦ record { shallow = omega arith; same = op_deep row _ _ _ c.if-kind.false w.if-kind-3.false c.if-kind-2.false v.if-depth-eq0-2.false ∙ c.loop-i.invariant.same }
        | else-kind-wanted-via-else-kind-wanted v ↦ record { shallow = omega arith; same = op_past row _ _ _ c.if-kind.false w.if-kind-3.false c.if-kind-2.false (λ q. v.if-kind-wanted.false (q ∙ sym c.from-wanted.ensures)) ∙ c.loop-i.invariant.same }
      ])
    ]

pub returns : goal.returns
returns c = op_end _ _ c.requires.none_from c.loop-i.i c.loop-i-test.false ∙ c.loop-i.invariant.same

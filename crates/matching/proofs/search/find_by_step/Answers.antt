-- `search::find_by_step` gives the first place of a part, step by step: where a step has no bit left the part stands nowhere in it, and
-- else not before the lowest. Assumes nothing.
use mathlib.Core.Path.{sym, ◌∙◌}
use native.Mathlib.Omega.{arith}
use Rattle.matching.proofs.SearchLaws.{seeking_start, seeking_found, seeking_on, seeking_absent}
use Rattle.matching.proofs.StepLaws.{first_within, seeking_after, seeking_marked}
use Rattle.matching.proofs.search.find_by_step.Goals as goal

pub loop-at-init : goal.loop-at-init
loop-at-init c = record { seeking = seeking_start; within = omega arith }

pub loop-at-preserved-then-marks-eq0 : goal.loop-at-preserved-then-marks-eq0
loop-at-preserved-then-marks-eq0 c =
    record {
      seeking = seeking_after c.loop-at.invariant.seeking c.requires.0 c.marks.ensures (omega arith) (omega arith) (omega arith) c.if-marks-eq0.true;
      within = omega arith;
    }

pub starts_with-requires : goal.starts_with-requires
starts_with-requires c = omega (arith, first_within c.marks.ensures c.loop-at.at (omega arith) c.if-marks-eq0.false c.marks.type_inv)

pub returns-then-starts_with : goal.returns-then-starts_with
returns-then-starts_with c =
    let here = seeking_marked c.loop-at.invariant.seeking c.requires.0 c.marks.ensures (omega arith) (omega arith) c.if-marks-eq0.false c.marks.type_inv in
    seeking_found here (sym c.starts_with.ensures ∙ c.if-starts_with.true)

pub loop-at-preserved : goal.loop-at-preserved
loop-at-preserved c =
    let within = first_within c.marks.ensures c.loop-at.at (omega arith) c.if-marks-eq0.false c.marks.type_inv in
    let here = seeking_marked c.loop-at.invariant.seeking c.requires.0 c.marks.ensures (omega arith) (omega arith) c.if-marks-eq0.false c.marks.type_inv in
    record { seeking = seeking_on here (omega arith) (sym c.starts_with.ensures ∙ c.if-starts_with.false); within = omega arith }

pub returns : goal.returns
returns c = seeking_absent c.loop-at.invariant.seeking (omega arith) c.requires.0

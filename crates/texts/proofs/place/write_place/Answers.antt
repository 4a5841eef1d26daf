-- `write_place` finds the line and appends it, and the line below it. Assumes nothing.
use native.Mathlib.Omega.{arith}
use Rattle.texts.proofs.PlaceLaws.{mark_within, place_wrote}
use Rattle.texts.proofs.place.write_place.Goals as goal

pub split_at-requires : goal.split_at-requires
split_at-requires c = omega (arith, c.mark_place-mark.ensures, mark_within c.args.rule.now c.args.first)

pub returns : goal.returns
returns c =
    place_wrote c.args.rule.now c.args.first c.mark_place-mark.ensures (rw c.split_at.ensures.front at c.line_start-start.ensures)
    (rw c.split_at.ensures.back at c.line_len.ensures) c.args.end c.mark_end-past.ensures (rw c.part.ensures at c.write_line.ensures)
    (rw (c.part-2.ensures, c.part-3.ensures) at c.write_mark.ensures)

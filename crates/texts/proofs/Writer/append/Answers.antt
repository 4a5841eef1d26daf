-- `append` stores what there is room for, byte by byte. Assumes nothing.
use mathlib.Core.Path.{◌≡◌, ◌∙◌}
use native.Mathlib.Omega.{arith}
use lib.ListN.{length, take, length-set}
use lib.Seq.{take-length}
use Rattle.texts.proofs.AppendLaws.{sets_more, appended_part}
use Rattle.texts.proofs.Writer.append.Goals as goal

pub loop-i-preserved : goal.loop-i-preserved
loop-i-preserved c =
    let self = c.args.self.now in
    let w = c.loop-i.invariant in
    record {
      same_place = w.same_place;
      same_length = length-set _ _ _ ∙ w.same_length;
      same_at = w.same_at;
      stored = rw (w.stored, w.same_at) (sets_more _ self.out.now self.at c.loop-i.i c.loop-i-test.true);
    }

pub returns : goal.returns
returns c =
    let self = c.args.self.now in
    let w = c.loop-i.invariant in
    let part = take c.min-n.result c.args.piece.now in
    let end : c.loop-i.i ≡ length part = omega (arith, c.loop-i.auto.i-end, c.loop-i-test.false) in
    record {
      same_place = w.same_place;
      appends = rw (w.stored, end, take-length part, w.same_at) (appended_part c.args.piece.now (record { bytes = self.out.now; at = self.at }) c.min-n.ensures);
    }

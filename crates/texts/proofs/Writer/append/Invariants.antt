-- `append` has stored the bytes of the piece before the next one. Assumes nothing.
use mathlib.Core.Path.{◌≡◌}
use lib.ListN.{length, take}
use lib.Seq.{sets}
use Rattle.texts.proofs.Writer.append.Given as goal

abbrev pub invariant-loop-i : goal.invariant-loop-i
invariant-loop-i l = record {
  same_place : l.self.out.ghost_name ≡ l.initial.self.out.ghost_name;
  same_length : length l.self.out.now ≡ length l.initial.self.out.now;
  same_at : l.self.at ≡ l.initial.self.at;
  stored : l.self.out.now ≡ sets l.initial.self.out.now l.initial.self.at (take l.i l.b-items);
}

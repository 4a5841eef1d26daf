-- `feed_marked` marks rows, and sends every component with notes that say nothing yet. Assumes nothing.
use native.Mathlib.Omega.{arith}
use Rattle.eval.proofs.MarkedLaws.{made_marks}
use Rattle.eval.proofs.MemoLaws.{sound_begun}
use Rattle.eval.proofs.SentLaws.{begun}
use Rattle.eval.specs.Memo.{NOTES}
use Rattle.eval.specs.Listed.{every_component}
use Rattle.eval.proofs.context.Pipeline.feed_marked.Goals as goal

pub feed_each_component-requires : goal.feed_each_component-requires
feed_each_component-requires c = begun c.new-walk.ensures every_component c.requires (sound_begun _ _ NOTES (made_marks c.make_marks-rows.ensures (omega arith)) c.held.ensures)

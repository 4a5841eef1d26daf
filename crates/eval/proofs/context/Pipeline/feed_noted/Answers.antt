-- `feed_noted` sends every component with notes that say nothing yet. Assumes nothing.
use Rattle.eval.proofs.MarkedLaws.{marks_none}
use Rattle.eval.proofs.MemoLaws.{sound_begun}
use Rattle.eval.proofs.SentLaws.{begun, begun_call}
use Rattle.eval.specs.Memo.{WAY_NOTES}
use Rattle.eval.specs.Listed.{every_component}
use Rattle.eval.proofs.context.Pipeline.feed_noted.Goals as goal

pub send_each_feature-requires : goal.send_each_feature-requires
send_each_feature-requires c = (
  begun c.new-walk.ensures every_component c.requires (sound_begun _ _ WAY_NOTES (marks_none _ _ _) c.held.ensures),
  begun_call c.new-walk.ensures every_component (c.begins_with_features.ensures c.if-begins_with_features.true),
)

pub send_each_component-requires : goal.send_each_component-requires
send_each_component-requires c = begun c.new-walk.ensures every_component c.requires (sound_begun _ _ WAY_NOTES (marks_none _ _ _) c.held.ensures)

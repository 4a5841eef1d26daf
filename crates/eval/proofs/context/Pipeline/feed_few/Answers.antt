-- `feed_few` sends every component, with no room for notes. Assumes nothing.
use mathlib.Core.Bool.{false≢true}
use mathlib.Core.Path.{sym, ◌∙◌}
use Rattle.eval.proofs.MarkedLaws.{marks_none}
use Rattle.eval.proofs.MemoLaws.{sound_begun}
use Rattle.eval.proofs.SentLaws.{begun}
use Rattle.eval.specs.Listed.{every_component}
use Rattle.eval.proofs.context.Pipeline.feed_few.Goals as goal

pub feed_each_component-requires : goal.feed_each_component-requires
feed_each_component-requires c = begun c.new-walk.ensures every_component c.requires (sound_begun _ _ 0 (marks_none _ _ _) (λ e. absurd (false≢true (sym c.default.ensures.1.0 ∙ e))))

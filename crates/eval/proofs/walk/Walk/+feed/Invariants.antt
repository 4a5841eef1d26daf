-- `feed`, `feed_features`, `feed_feature` and `send` send members through the calls; the calls left fall around the cycle. Assumes nothing.
use Prim.Native.Nat.{◌+◌, ◌*◌, ◌-◌}
use lib.ListN.{length}
use Rattle.predicate.specs.declared.atom.Member.TheVariants.{Feature}
use Rattle.meaning.specs.Calls.{features_of}
use Rattle.eval.proofs.SentLaws.{GoingUp}
use Rattle.eval.proofs.walk.Walk.+feed.Given as goal

abbrev pub decreases-feed : goal.decreases-feed
decreases-feed l = 4 * (length l.self.now.pipeline.calls.now - l.i)

abbrev pub decreases-send : goal.decreases-send
decreases-send l = 4 * (length l.self.now.pipeline.calls.now - l.i) + 1

abbrev pub decreases-feed_feature : goal.decreases-feed_feature
decreases-feed_feature l = 4 * (length l.self.now.pipeline.calls.now - l.i) + 2

abbrev pub decreases-feed_features : goal.decreases-feed_features
decreases-feed_features l = 4 * (length l.self.now.pipeline.calls.now - l.i) + 3

abbrev pub invariant-feed_features-loop-feature : goal.invariant-feed_features-loop-feature
invariant-feed_features-loop-feature l =
    GoingUp l.initial.self l.i (features_of l.initial.self.pipeline.image.now l.component) (Feature l.component) l.feature l.end l.self

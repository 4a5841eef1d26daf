-- `feed_component` sends the features, asks, or does what the notes tell. Assumes nothing.
use Rattle.eval.proofs.SentLaws.{first_sending, first_sent}
use Rattle.eval.proofs.walk.Walk.feed_component.Goals as goal

pub feed_features-requires : goal.feed_features-requires
feed_features-requires c = first_sending (c.begins_with_features.ensures c.if-begins_with_features.true) c.requires

pub returns-then-begins_with_features : goal.returns-then-begins_with_features
returns-then-begins_with_features c = first_sent (c.begins_with_features.ensures c.if-begins_with_features.true) c.feed_features.ensures

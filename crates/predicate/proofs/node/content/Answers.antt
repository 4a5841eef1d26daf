-- `node::content` lends the part of a string that `content` takes. Assumes nothing.
use Rattle.predicate.proofs.NodeLaws.{content_none, content_part}
use Rattle.predicate.proofs.node.content.Goals as goal

pub returns-in_default : goal.returns-in_default
returns-in_default c = content_none _ c.in_default.len_below

pub returns-in-len2-up : goal.returns-in-len2-up
returns-in-len2-up c = content_part _

-- `write_feature` appends a feature's component, name, kind and direction. Assumes nothing.
use Rattle.texts.proofs.AppendLaws.{wrote_then}
use Rattle.members.specs.Member.{feature_text}
use Rattle.members.proofs.write_feature.Goals as goal

pub returns : goal.returns
unfolding feature_text
returns c = wrote_then (wrote_then (wrote_then (rw c.from.ensures at c.write_numbered.ensures) (rw (c.string.ensures, c.feature_name-name.ensures) at c.write_shown.ensures)) c.write_port.ensures) c.append.ensures

-- `current_kind` is the kind of the token that the reader past the blanks stands at. Assumes nothing.
use Rattle.reader.specs.Reader.{current_kind}
use Rattle.reader.proofs.Reader.current_kind.Goals as goal

pub returns : goal.returns
unfolding current_kind
returns c = cc

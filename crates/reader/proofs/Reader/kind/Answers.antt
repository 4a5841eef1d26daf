-- `kind` gives the kind of the row. Assumes nothing.
use Rattle.std.proofs.Common.{rules}
use Rattle.reader.specs.Reader.{kind_at}
use Rattle.reader.proofs.Reader.kind.Goals as goal

pub returns : goal.returns
unfolding kind_at
returns c = search rules

-- `part` lends the bytes between two places: its start and its end lie within the text. Assumes nothing.
use Rattle.syntax.proofs.TextLaws.{part_within}
use Rattle.syntax.proofs.text.part.Goals as goal

pub returns : goal.returns
returns c = part_within c.args.text.now c.args.first c.args.end c.min-last.result c.min.result c.min-last.ensures c.min.ensures

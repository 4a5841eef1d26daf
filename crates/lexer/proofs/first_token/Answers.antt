-- `first_token` finds the first token's shape, its length and then its kind. Assumes nothing.
use lib.Seq.{length-take-le}
use mathlib.Core.Path.{sym}
use Rattle.lexer.proofs.LexLaws.{first_within}
use Rattle.lexer.proofs.first_token.Goals as goal

pub slice_bounds-kind_of-end : goal.slice_bounds-kind_of-end
slice_bounds-kind_of-end c = sym (length-take-le _ c.args.text.now (first_within c.args.text.now c.shape_of-shape.result c.requires c.more-len.ensures))

-- `peek_kind` is what the reader finds past the first token. Assumes nothing.
use mathlib.Core.Path.{◌∙◌}
use native.Mathlib.Omega.{arith}
use Rattle.parser.proofs.ParserLaws.{peek_here, place_small, ahead_within}
use Rattle.parser.proofs.ExprParser.peek_kind.Goals as goal

pub overflow_add-current : goal.overflow_add-current
overflow_add-current c = omega (arith, place_small c.requires _ (ahead_within c.requires), rw (c.reader.ensures.0, c.reader.ensures.1) at c.skip_ws-current.ensures.1)

pub returns : goal.returns
returns c = (rw (c.new.ensures.0, c.new.ensures.1, c.skip_ws-current.ensures.1, c.reader.ensures.0, c.reader.ensures.1) at c.current_kind.ensures) ∙ peek_here c.requires

-- `mark` marks by properties, then by features. Assumes nothing.
use native.Mathlib.Omega.{arith}
use Rattle.eval.proofs.MarkedLaws.{marks_made}
use Rattle.eval.proofs.marked.Marked.mark.Goals as goal

pub returns : goal.returns
returns c = marks_made _ _ _ _ c.args.self.now.marks c.find_string_literal-value.ensures (omega arith) c.mark_properties.ensures c.mark_features.ensures

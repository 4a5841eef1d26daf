-- `shown_byte` makes control characters blanks, but for the tab. Assumes nothing.
use Rattle.std.proofs.Common.{arith}
use Rattle.std.proofs.lemmas.Bool.Decides.{nat_tests}
use Rattle.texts.specs.Text.{shown_byte}
use Rattle.texts.proofs.shown_byte.Goals as goal
use Rattle.texts.proofs.shown_byte.Goals.{else-is_ascii_control-via-then-is_ascii_control+else-b-ne9, else-is_ascii_control-via-else-is_ascii_control}

pub returns-then-b-ne9 : goal.returns-then-b-ne9
unfolding shown_byte
returns-then-b-ne9 c = grind (arith, nat_tests)

pub returns-else-is_ascii_control : goal.returns-else-is_ascii_control
unfolding shown_byte
returns-else-is_ascii_control c = grind (arith, nat_tests)

-- `boolean` gives `boolean_of`. Assumes nothing.
use mathlib.Core.Path.{refl}
use Rattle.eval.proofs.pipeline.boolean.Goals as goal

pub returns-then-warned : goal.returns-then-warned
returns-then-warned c = rw c.if-warned.true refl

pub returns : goal.returns
returns c = rw c.if-warned.false refl

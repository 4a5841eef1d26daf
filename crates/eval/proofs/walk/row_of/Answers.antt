-- `row_of` gives the two numbers of a member's row. Assumes nothing.
use mathlib.Core.Path.{ap}
use Rattle.meaning.specs.Value.{row_of}
use Rattle.eval.proofs.walk.row_of.Goals as goal

pub returns-in-Component : goal.returns-in-Component
unfolding row_of
returns-in-Component c = ap row_of c.in-Component.is

pub returns-in-Feature : goal.returns-in-Feature
unfolding row_of
returns-in-Feature c = ap row_of c.in-Feature.is

pub returns-in-Diagnostic : goal.returns-in-Diagnostic
unfolding row_of
returns-in-Diagnostic c = ap row_of c.in-Diagnostic.is

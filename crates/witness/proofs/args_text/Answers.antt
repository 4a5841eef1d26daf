-- `args_text` lends what the CALL_ARGS spans. Assumes nothing.
use mathlib.Core.Path.{◌∙◌}
use Rattle.witness.proofs.WitnessLaws.{args_none, args_at}
use Rattle.witness.proofs.args_text.Goals as goal

pub returns-in-Some : goal.returns-in-Some
returns-in-Some c = c.part.ensures ∙ args_at c.args.rule.now c.args.tree.now c.args.call (rw c.into.ensures at c.child_of_kind.ensures) c.in-Some.is c.number_at.ensures c.number_at-in-Some.ensures

pub returns-in-None : goal.returns-in-None
returns-in-None c = args_none c.args.rule.now c.args.tree.now c.args.call (rw c.into.ensures at c.child_of_kind.ensures) c.in-None.is

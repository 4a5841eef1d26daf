-- `write_witness` appends the text of the last call. Assumes nothing.
use mathlib.Core.Path.{sym, ap, ◌∙◌}
use Rattle.syntax.specs.Text.{bytes_between}
use Rattle.texts.proofs.AppendLaws.{wrote_none}
use Rattle.witness.proofs.WitnessLaws.{call_is, witness_is}
use Rattle.witness.proofs.write_witness.Goals as goal

pub returns-in_default : goal.returns-in_default
returns-in_default c = rw (← witness_is c.args.rule.now c.args.tree.now (sym c.in_default.is ∙ c.last_call.ensures)) wrote_none

pub returns : goal.returns
returns c =
    let text = call_is c.args.rule.now c.args.tree.now c.in-Some.call c.ident.ensures (c.part-before.ensures ∙ ap (bytes_between c.args.rule.now 0) c.number_at.ensures) c.args_text-args.ensures in
    rw (← witness_is c.args.rule.now c.args.tree.now (sym c.in-Some.is ∙ c.last_call.ensures)) (rw text at c.write_by_word.ensures)

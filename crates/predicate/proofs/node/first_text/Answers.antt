-- `node::first_text` lends the text of the first token of a kind. Assumes nothing.
use mathlib.Core.Path.{ap, ◌∙◌}
use Rattle.predicate.specs.Rows.{text_at}
use Rattle.predicate.proofs.NodeLaws.{no_text, text_in}
use Rattle.predicate.proofs.node.first_text.Goals as goal

pub returns-in_default : goal.returns-in_default
returns-in_default c =
    no_text _ _ c.in_default.len_below
    ∙ ap (λ rows. text_at c.args.rule.now rows 0) c.child.ensures
    ∙ text_in _ _ c.args.node.now _ _ c.requires

pub returns-in-len4-up : goal.returns-in-len4-up
returns-in-len4-up c =
    c.part.ensures
    ∙ ap (λ rows. text_at c.args.rule.now rows 0) c.child.ensures
    ∙ text_in _ _ c.args.node.now _ _ c.requires

-- `node::find_string_literal` lends the content of the string in the first literal. Assumes nothing.
use mathlib.Core.Path.{ap, ◌∙◌}
use Rattle.syntax.specs.Kind.{STRING_LIT}
use Rattle.predicate.specs.Truth.{content, first_text, literal_of}
use Rattle.predicate.specs.Rows.{children_at}
use Rattle.predicate.proofs.NodeLaws.{literal_in, children_tail}
use Rattle.predicate.proofs.node.find_string_literal.Goals as goal

pub returns : goal.returns
returns c =
    c.content.ensures
    ∙ ap content c.first_text.ensures
    ∙ ap (λ rows. content (first_text STRING_LIT (children_at c.args.rule.now rows 0))) c.child-literal.ensures
    ∙ literal_in _ c.tail.result.now _ _
    ∙ ap (λ rows. literal_of (children_at c.args.rule.now rows 0)) c.tail.ensures
    ∙ ap literal_of (children_tail _ _ _)

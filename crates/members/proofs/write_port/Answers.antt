-- `write_port` appends the word of a feature's kind, and of its direction where it has one. Assumes nothing.
use mathlib.Core.Path.{refl, sym, ◌∙◌}
use borrow.Author.Tests.{eq-eqb, ne_eqb}
use Rattle.matching.specs.Words.{feature_kind_words, direction_words}
use Rattle.texts.proofs.AppendLaws.{wrote_then, wrote_none}
use Rattle.members.specs.Words.{feature_kind_text, direction_part, direction_text}
use Rattle.members.specs.Member.{port_text}
use Rattle.members.proofs.WordLaws.{word_wrote}
use Rattle.members.proofs.write_port.Goals as goal

pub returns-then-direction : goal.returns-then-direction
unfolding port_text feature_kind_text feature_kind_words direction_part
returns-then-direction c =
    rw (eq-eqb _ 0 (sym c.direction-direction.ensures ∙ c.if-direction.true))
    (wrote_then (wrote_then c.append.ensures (word_wrote _ _ feature_kind_words refl (rw c.feature_kind-kind.ensures at c.write_item.ensures))) wrote_none)

pub returns : goal.returns
unfolding port_text feature_kind_text feature_kind_words direction_part direction_text direction_words
returns c =
    rw (ne_eqb _ 0 (λ e. c.if-direction.false (c.direction-direction.ensures ∙ e)))
    (wrote_then (wrote_then c.append.ensures (word_wrote _ _ feature_kind_words refl (rw c.feature_kind-kind.ensures at c.write_item.ensures)))
    (wrote_then c.append-2.ensures (word_wrote _ _ direction_words refl (rw c.direction-direction.ensures at c.write_item-2.ensures))))

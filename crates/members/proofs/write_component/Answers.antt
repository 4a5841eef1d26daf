-- `write_component` appends a component's index and the word of its category: the items of its table are the words, which antt
-- computes. Assumes nothing.
use mathlib.Core.Path.{refl}
use Rattle.matching.specs.Words.{category_words}
use Rattle.texts.proofs.AppendLaws.{wrote_then}
use Rattle.members.specs.Words.{category_text}
use Rattle.members.specs.Member.{component_text}
use Rattle.members.proofs.WordLaws.{word_wrote}
use Rattle.members.proofs.write_component.Goals as goal

pub returns : goal.returns
unfolding component_text category_text category_words
returns c = wrote_then (wrote_then (rw c.from.ensures at c.write_numbered.ensures) (word_wrote _ _ category_words refl (rw c.category-category.ensures at c.write_item.ensures))) c.append.ensures

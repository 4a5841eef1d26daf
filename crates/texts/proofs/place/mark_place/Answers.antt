-- `mark_place` gives the place of the token, or the end of the text. Assumes nothing.
use Rattle.texts.proofs.PlaceLaws.{mark_found, mark_behind}
use Rattle.texts.proofs.place.mark_place.Goals as goal

pub returns-then-first-rule : goal.returns-then-first-rule
returns-then-first-rule c = mark_found _ _ c.if-first-rule.true

pub returns-else-first-rule : goal.returns-else-first-rule
returns-else-first-rule c = mark_behind _ _ c.if-first-rule.false c.text_end.ensures

-- `write_diagnostic` appends the word of a diagnostic's severity, and its message. Assumes nothing.
use mathlib.Core.Path.{refl}
use Rattle.matching.specs.Words.{severity_words}
use Rattle.texts.proofs.AppendLaws.{wrote_then}
use Rattle.members.specs.Words.{severity_text}
use Rattle.members.specs.Member.{diagnostic_text}
use Rattle.members.proofs.WordLaws.{word_wrote}
use Rattle.members.proofs.write_diagnostic.Goals as goal

pub returns : goal.returns
unfolding diagnostic_text severity_text severity_words
returns c = wrote_then (wrote_then (wrote_then (wrote_then c.append.ensures (word_wrote _ _ severity_words refl (rw c.severity-severity.ensures at c.write_item.ensures))) c.append-2.ensures) (rw (c.string.ensures, c.message-message.ensures) at c.write_shown.ensures)) c.append-3.ensures

-- `Sectioned::strings_fit` gives `strings_fit`: strings that are laid are parts of the letters, and parts of ASCII letters are UTF-8.
-- Assumes nothing.
use mathlib.Core.Path.{sym, ap, ◌∙◌}
use Rattle.syntax.specs.Utf8.{is_ascii}
use Rattle.board.specs.Check.{strings_fit}
use Rattle.board.proofs.BoardLaws.{ascii_strings}
use Rattle.board.proofs.WalkLaws.{letters_in, letters_here}
use Rattle.board.proofs.Sectioned.strings_fit.Goals as goal

pub returns-then-not-strings_laid : goal.returns-then-not-strings_laid
unfolding strings_fit
returns-then-not-strings_laid c = rw (sym c.strings_laid.ensures ∙ c.if-not-strings_laid.true)

pub slice_bounds-is_ascii-end : goal.slice_bounds-is_ascii-end
slice_bounds-is_ascii-end c = letters_in c.args.self.image.now c.section_offset-from.ensures c.section_length.ensures c.args.self.fit

pub returns-then-is_ascii : goal.returns-then-is_ascii
unfolding strings_fit
returns-then-is_ascii c = rw (sym c.strings_laid.ensures ∙ c.if-not-strings_laid.false, ascii_strings c.args.self.image.now c.args.self.fit (sym c.strings_laid.ensures ∙ c.if-not-strings_laid.false) (ap is_ascii (letters_here c.args.self.image.now c.section_offset-from.ensures c.section_length.ensures) ∙ sym c.is_ascii.ensures ∙ c.if-is_ascii.true)) c.if-is_ascii.true

pub returns-else-is_ascii : goal.returns-else-is_ascii
unfolding strings_fit
returns-else-is_ascii c = rw (sym c.strings_laid.ensures ∙ c.if-not-strings_laid.false) c.strings_utf8.ensures

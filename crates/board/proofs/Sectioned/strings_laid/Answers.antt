-- `Sectioned::strings_laid` gives `strings_laid`, pair by pair. Assumes nothing.
use mathlib.Core.Path.{◌∙◌}
use native.Mathlib.Omega.{arith}
use Rattle.board.specs.declared.image.Section.TheVariants.{Strings}
use Rattle.board.specs.Check.{strings_laid}
use Rattle.board.proofs.CheckLaws.{laying_off, laying_on, laying_done}
use Rattle.board.proofs.WalkLaws.{record_within, field_there}
use Rattle.board.proofs.Sectioned.strings_laid.Goals as goal

pub number_at-offset-requires : goal.number_at-offset-requires
number_at-offset-requires c = omega (arith, record_within _ Strings c.section_offset-first.ensures c.record_count-n-end.ensures c.args.self.fit _ c.loop-n-test.true)

pub number_at-length-requires : goal.number_at-length-requires
number_at-length-requires c = omega (arith, record_within _ Strings c.section_offset-first.ensures c.record_count-n-end.ensures c.args.self.fit _ c.loop-n-test.true)

pub returns-then-offset-next : goal.returns-then-offset-next
unfolding strings_laid
returns-then-offset-next c = rw (← c.record_count-n-end.ensures, ← c.section_length-letters.ensures) (laying_off c.loop-n.invariant c.loop-n-test.true (c.number_at-offset.ensures ∙ field_there _ Strings c.section_offset-first.ensures _ 0) c.if-offset-next.true)

pub loop-n-preserved : goal.loop-n-preserved
loop-n-preserved c = laying_on c.loop-n.invariant c.loop-n-test.true (c.number_at-offset.ensures ∙ field_there _ Strings c.section_offset-first.ensures _ 0) c.if-offset-next.false (c.number_at-length.ensures ∙ field_there _ Strings c.section_offset-first.ensures _ 1)

pub returns : goal.returns
unfolding strings_laid
returns c = rw (← c.record_count-n-end.ensures, ← c.section_length-letters.ensures) (laying_done c.loop-n.invariant c.loop-n-test.false)

-- `Sectioned::strings_utf8` gives `strings_utf8`, string by string. Assumes nothing.
use mathlib.Core.Path.{sym, ap, ◌∙◌}
use native.Mathlib.Omega.{arith}
use Rattle.syntax.specs.Utf8.{utf8}
use Rattle.board.specs.declared.image.Section.TheVariants.{Strings}
use Rattle.board.specs.Check.{strings_utf8}
use Rattle.board.proofs.CheckLaws.{passing_no, passing_yes, passing_done}
use Rattle.board.proofs.WalkLaws.{record_within, text_in, text_there}
use Rattle.board.proofs.Sectioned.strings_utf8.Goals as goal

pub number_at-requires : goal.number_at-requires
number_at-requires c = omega (arith, record_within _ Strings c.section_offset-first.ensures c.record_count-count.ensures c.args.self.fit _ c.loop-n-test.true)

pub number_at-requires-in-loop-n : goal.number_at-requires-in-loop-n
number_at-requires-in-loop-n c = omega (arith, record_within _ Strings c.section_offset-first.ensures c.record_count-count.ensures c.args.self.fit _ c.loop-n-test.true)

pub slice_bounds-is_utf8-end : goal.slice_bounds-is_utf8-end
slice_bounds-is_utf8-end c = text_in _ _ c.section_offset-letters.ensures c.section_offset-first.ensures c.record_count-count.ensures c.number_at.ensures c.number_at-in-loop-n.ensures c.args.self.fit c.requires c.loop-n-test.true

pub returns-then-not-is_utf8 : goal.returns-then-not-is_utf8
unfolding strings_utf8
returns-then-not-is_utf8 c = rw (← c.record_count-count.ensures) (passing_no c.loop-n.invariant c.loop-n-test.true (ap utf8 (text_there _ _ c.section_offset-letters.ensures c.section_offset-first.ensures c.record_count-count.ensures c.number_at.ensures c.number_at-in-loop-n.ensures c.args.self.fit c.requires c.loop-n-test.true) ∙ sym c.is_utf8.ensures ∙ c.if-not-is_utf8.true))

pub loop-n-preserved : goal.loop-n-preserved
loop-n-preserved c = passing_yes c.loop-n.invariant c.loop-n-test.true (ap utf8 (text_there _ _ c.section_offset-letters.ensures c.section_offset-first.ensures c.record_count-count.ensures c.number_at.ensures c.number_at-in-loop-n.ensures c.args.self.fit c.requires c.loop-n-test.true) ∙ sym c.is_utf8.ensures ∙ c.if-not-is_utf8.false)

pub returns : goal.returns
unfolding strings_utf8
returns c = rw (← c.record_count-count.ensures) (passing_done c.loop-n.invariant c.loop-n-test.false)

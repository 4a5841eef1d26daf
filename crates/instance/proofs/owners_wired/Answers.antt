-- `owners_wired` gives `owners_wired`, connection by connection. Assumes nothing.
use mathlib.Core.Path.{sym}
use borrow.Author.Tests.{not-true, not-false}
use Rattle.instance.proofs.InstanceLaws.{owners_start, searching_hit, searching_miss, searching_done}
use Rattle.instance.proofs.PlaceLaws.{owner_wired, owner_unwired_lem}
use Rattle.instance.proofs.owners_wired.Goals as goal

pub loop-n-init : goal.loop-n-init
loop-n-init c = owners_start _ c.record_count-count.ensures

pub returns-then-word-ne-WIRED : goal.returns-then-word-ne-WIRED
returns-then-word-ne-WIRED c = sym (not-true _ (sym (searching_hit c.loop-n.invariant c.loop-n-test.true (owner_unwired_lem _ c.section_offset-connections.ensures c.section_offset-components.ensures _ c.word-owner.ensures c.word.ensures c.if-word-ne-WIRED.true))))

pub loop-n-preserved : goal.loop-n-preserved
loop-n-preserved c = searching_miss c.loop-n.invariant c.loop-n-test.true (owner_wired _ c.section_offset-connections.ensures c.section_offset-components.ensures _ c.word-owner.ensures c.word.ensures c.if-word-ne-WIRED.false)

pub returns : goal.returns
returns c = sym (not-false _ (sym (searching_done c.loop-n.invariant c.loop-n-test.false)))

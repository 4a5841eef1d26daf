-- `mark_owner` marks the owner of a property where it has a mark. Assumes nothing.
use mathlib.Core.Path.{ap}
use lib.ListN.{set}
use Rattle.marks.proofs.MarkLaws.{owner_outside}
use Rattle.marks.proofs.mark_owner.Goals as goal

pub returns-then-owner-marks : goal.returns-then-owner-marks
returns-then-owner-marks c = ap (λ n. set c.args.marks.now n 1) c.property_component-owner.ensures

pub returns-else-owner-marks : goal.returns-else-owner-marks
returns-else-owner-marks c = owner_outside _ _ _ c.property_component-owner.ensures c.if-owner-marks.false

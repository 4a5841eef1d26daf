-- `search::find_by_place` gives the first place of a part, by the laws of a part searched for place by place. Assumes nothing.
use mathlib.Core.Path.{sym, ◌∙◌}
use Prim.Native.Nat.{◌<◌}
use native.Mathlib.Omega.{arith}
use lib.ListN.{length}
use Rattle.matching.proofs.SearchLaws.{seeking_start, seeking_found, seeking_on, seeking_past, seeking_absent}
use Rattle.matching.proofs.search.find_by_place.Goals as goal
use Rattle.matching.proofs.search.find_by_place.Goals.{else-text-at-via-then-text-at+else-starts_with, else-text-at-via-else-text-at}

pub loop-at-init : goal.loop-at-init
loop-at-init c = seeking_start

pub returns-then-starts_with : goal.returns-then-starts_with
returns-then-starts_with c = seeking_found c.loop-at.invariant (sym c.starts_with.ensures ∙ c.if-starts_with.true)

pub loop-at-preserved : goal.loop-at-preserved
loop-at-preserved c =
    let within : c.loop-at.at < length c.args.text.now = omega arith in
    elim c.else-text-at.branch [
      | else-text-at-via-then-text-at+else-starts_with w ↦ seeking_on c.loop-at.invariant within (sym w.starts_with.ensures ∙ w.if-starts_with.false)
      | else-text-at-via-else-text-at w ↦ seeking_past c.requires.0 c.loop-at.invariant within w.if-text-at.false
    ]

pub returns : goal.returns
returns c = seeking_absent c.loop-at.invariant (omega arith) c.requires.0

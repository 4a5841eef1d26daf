-- `search::find_by_step` gives the first place of a part, step by step. Assumes nothing.
use Rattle.std.proofs.Common.{◌-◌, ◌≤◌}
use Rattle.matching.proofs.SearchLaws.{Seeking}
use Rattle.matching.proofs.search.find_by_step.Given as goal

abbrev pub invariant-loop-at : goal.invariant-loop-at
invariant-loop-at l = record { seeking : Seeking l.part l.text l.at; within : l.at ≤ l.end }

abbrev pub decreases-loop-at : goal.decreases-loop-at
decreases-loop-at l = l.end - l.at

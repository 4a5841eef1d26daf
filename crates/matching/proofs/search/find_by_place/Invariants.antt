-- `search::find_by_place` gives the first place of a part, by the laws of a part searched for place by place. Assumes nothing.
use Rattle.matching.proofs.SearchLaws.{Seeking}
use Rattle.matching.proofs.search.find_by_place.Given as goal

abbrev pub invariant-loop-at : goal.invariant-loop-at
invariant-loop-at l = Seeking l.part l.text l.at

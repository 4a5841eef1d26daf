-- `search::marks` marks the places of a step by what stands there, lane by lane. Assumes nothing.
use Rattle.matching.proofs.StepLaws.{step_marked}
use Rattle.matching.proofs.search.marks.Goals as goal

pub returns : goal.returns
returns c = step_marked _ _ _ _ _ c.requires

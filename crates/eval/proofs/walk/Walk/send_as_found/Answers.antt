-- `send_as_found` takes the step that was found, or asks. Assumes nothing.
use Rattle.eval.proofs.FoundLaws.{found_step}
use Rattle.eval.proofs.SentLaws.{step_takes, step_sent}
use Rattle.eval.proofs.walk.Walk.send_as_found.Goals as goal

pub take-requires : goal.take-requires
take-requires c = step_takes c.requires.member.0 (found_step c.requires.found c.requires.member.1 c.step.ensures c.in-Some.is)

pub returns-in-Some-clause-sent : goal.returns-in-Some-clause-sent
returns-in-Some-clause-sent c = step_sent c.requires.member.0 (found_step c.requires.found c.requires.member.1 c.step.ensures c.in-Some.is) c.take.ensures

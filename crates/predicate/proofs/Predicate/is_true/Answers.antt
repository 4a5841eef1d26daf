-- `is_true` takes what the atom says, where one was found, and else the truth of the first node inside. Assumes nothing.
use Rattle.predicate.proofs.AskedLaws.{asked_so, asked_not_so}
use Rattle.predicate.proofs.Predicate.is_true.Goals as goal

pub returns-then-not : goal.returns-then-not
returns-then-not c = asked_not_so (c.args.self.now.so _ c.in-Some.is) _ _ (cc) (cc)

pub returns-else-not : goal.returns-else-not
returns-else-not c = asked_so (c.args.self.now.so _ c.in-Some.is) _ _ (cc) (cc)

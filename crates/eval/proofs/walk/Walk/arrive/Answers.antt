-- `arrive` counts, and asks the predicate of a quantifier. Assumes nothing.
use Rattle.std.proofs.Common.{rules}
use Rattle.eval.proofs.SentLaws.{arrive_counted, arrive_asked}
use Rattle.eval.proofs.walk.Walk.arrive.Goals as goal

pub returns-then-eq : goal.returns-then-eq
returns-then-eq c = arrive_counted c.requires (search rules) c.count.ensures

pub returns : goal.returns
returns c = arrive_asked c.requires (λ e. search (rules, e)) c.ask-passes.ensures c.count-2.ensures

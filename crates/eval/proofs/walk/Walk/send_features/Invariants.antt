-- `send_features` sends the features of a component: those left come to what all come to. Assumes nothing.
use Rattle.predicate.specs.declared.atom.Member.TheVariants.{Feature}
use Rattle.meaning.specs.Calls.{features_of}
use Rattle.eval.specs.Found.{FoundSo}
use Rattle.eval.proofs.SentLaws.{GoingUp}
use Rattle.eval.proofs.walk.Walk.send_features.Given as goal

abbrev pub invariant-loop-feature : goal.invariant-loop-feature
invariant-loop-feature l =
    GoingUp l.initial.self 1 (features_of l.initial.self.pipeline.image.now l.component) (Feature l.component) l.feature l.end l.self × FoundSo l.self 1 l.profiles.found

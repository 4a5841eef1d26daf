-- `feed_each_component` sends every component: those left come to what all come to. Assumes nothing.
use Rattle.predicate.specs.declared.atom.Member.TheVariants.{Component}
use Rattle.eval.specs.Listed.{every_component}
use Rattle.eval.proofs.SentLaws.{GoingUp}
use Rattle.eval.proofs.walk.Walk.feed_each_component.Given as goal

abbrev pub invariant-loop-component : goal.invariant-loop-component
invariant-loop-component l = GoingUp l.initial.self 0 (every_component l.initial.self.pipeline.image.now) Component l.component l.count l.self

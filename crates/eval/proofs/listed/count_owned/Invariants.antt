-- `count_owned` adds the features of each component: those of the ones left are still to come. Assumes nothing.
use Rattle.eval.proofs.ListedLaws.{Counting}
use Rattle.eval.proofs.listed.count_owned.Given as goal

abbrev pub invariant-loop-component : goal.invariant-loop-component
invariant-loop-component l = Counting l.image l.component l.count l.features

-- `list_owned` writes the rows of the features of all components: those of the components before one are written. Assumes nothing.
use Rattle.eval.proofs.ListedLaws.{Listing, features_from}
use Rattle.eval.specs.Listed.{every_feature}
use Rattle.eval.proofs.listed.list_owned.Given as goal

abbrev pub invariant-loop-component : goal.invariant-loop-component
invariant-loop-component l =
    Listing (every_feature l.image) 0 l.initial.collection (features_from l.image l.component l.count) l.row l.collection

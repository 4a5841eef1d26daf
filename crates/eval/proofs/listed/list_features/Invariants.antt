-- `list_features` writes the rows of a component's features: those before one are written. Assumes nothing.
use Rattle.eval.proofs.ListedLaws.{Listing}
use Rattle.meaning.proofs.WalkLaws.{up_to}
use Rattle.meaning.specs.Calls.{features_of}
use Rattle.predicate.specs.declared.atom.Member.TheVariants.{Feature}
use mathlib.Core.List.{map}
use Rattle.eval.proofs.listed.list_features.Given as goal

abbrev pub invariant-loop-feature : goal.invariant-loop-feature
invariant-loop-feature l =
    Listing (features_of l.image l.component) l.first l.initial.collection (map (Feature l.component) (up_to l.feature l.end)) l.row l.collection

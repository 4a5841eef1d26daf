-- `list_components` writes the rows of all components: those before one are written. Assumes nothing.
use Rattle.eval.proofs.ListedLaws.{Listing}
use Rattle.eval.specs.Listed.{every_component}
use Rattle.meaning.proofs.WalkLaws.{up_to}
use Rattle.predicate.specs.declared.atom.Member.TheVariants.{Component}
use mathlib.Core.List.{map}
use Rattle.eval.proofs.listed.list_components.Given as goal

abbrev pub invariant-loop-component : goal.invariant-loop-component
invariant-loop-component l =
    Listing (every_component l.image) 0 l.initial.collection (map Component (up_to l.component l.count)) l.component l.collection

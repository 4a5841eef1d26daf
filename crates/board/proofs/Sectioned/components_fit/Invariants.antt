-- `Sectioned::components_fit` gives `components_fit`, component by component. Assumes nothing.
use Rattle.board.specs.Image.{first_feature, owned_features}
use Rattle.board.specs.Check.{component_fits}
use Rattle.board.proofs.CheckLaws.{Laying, Passing}
use Rattle.board.proofs.Sectioned.components_fit.Given as goal

abbrev pub invariant-loop-n : goal.invariant-loop-n
invariant-loop-n l = Laying (first_feature l.image) (owned_features l.image) l.components 0 l.features l.n l.next × Passing (component_fits l.image) l.components l.n

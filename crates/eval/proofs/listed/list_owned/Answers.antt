-- `list_owned` writes the rows of the features of all components: those of the components before one are written. Assumes nothing.
use Rattle.eval.proofs.ListedLaws.{listing_start, listing_on, listing_end, listing_room, owned_next, owned_none, owned_made}
use Rattle.meaning.specs.Calls.{features_of}
use native.Mathlib.Omega.{arith}
use Rattle.eval.proofs.listed.list_owned.Goals as goal

pub loop-component-init : goal.loop-component-init
loop-component-init c = listing_start _ _ _ (owned_made _ c.record_count-count.ensures)

pub list_features-row-requires : goal.list_features-row-requires
list_features-row-requires c = listing_room c.loop-component.invariant (features_of _ _) _ (owned_next _ _ _ c.loop-component-test.true) (omega (arith, c.requires))

pub loop-component-preserved : goal.loop-component-preserved
loop-component-preserved c = listing_on c.loop-component.invariant (features_of _ _) (owned_next _ _ _ c.loop-component-test.true) c.list_features-row.ensures

pub returns : goal.returns
returns c = listing_end c.loop-component.invariant (owned_none _ _ _ (omega arith))

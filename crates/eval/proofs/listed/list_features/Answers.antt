-- `list_features` writes the rows of a component's features: those before one are written. Assumes nothing.
use Rattle.meaning.proofs.WalkLaws.{made_next, made_none}
use Rattle.eval.proofs.ListedLaws.{listing_start, listing_on, listing_end, listing_room, lists_one, features_are}
use Rattle.predicate.specs.declared.atom.Member.TheVariants.{Feature}
use native.Mathlib.Omega.{arith}
use mathlib.Core.List.{◌∷◌, []}
use Rattle.eval.proofs.listed.list_features.Goals as goal

pub loop-feature-init : goal.loop-feature-init
loop-feature-init c = listing_start _ _ _ (features_are _ _ c.features-start.ensures.end c.features-start.ensures.first)

pub put_member-requires : goal.put_member-requires
put_member-requires c = listing_room c.loop-feature.invariant (Feature _ _ ∷ []) _ (made_next (Feature _) _ _ c.loop-feature-test.true) c.requires

pub loop-feature-preserved : goal.loop-feature-preserved
loop-feature-preserved c = listing_on c.loop-feature.invariant (Feature _ _ ∷ []) (made_next (Feature _) _ _ c.loop-feature-test.true) (lists_one (Feature _ _) _ _ c.put_member.ensures)

pub returns : goal.returns
returns c = listing_end c.loop-feature.invariant (made_none (Feature _) _ _ (omega arith))

-- `list_components` writes the rows of all components: those before one are written. Assumes nothing.
use Rattle.meaning.proofs.WalkLaws.{made_next, made_none}
use Rattle.eval.proofs.ListedLaws.{listing_start, listing_on, listing_end, listing_room, lists_one, every_made}
use Rattle.predicate.specs.declared.atom.Member.TheVariants.{Component}
use native.Mathlib.Omega.{arith}
use mathlib.Core.List.{◌∷◌, []}
use mathlib.Core.Path.{◌≡◌, subst}
use Rattle.eval.specs.Listed.{Lists}
use Rattle.eval.proofs.listed.list_components.Goals as goal

pub loop-component-init : goal.loop-component-init
loop-component-init c = listing_start _ _ _ (every_made _ c.record_count-count.ensures)

pub put_member-requires : goal.put_member-requires
put_member-requires c = listing_room c.loop-component.invariant (Component _ ∷ []) _ (made_next Component _ _ c.loop-component-test.true) (omega (arith, c.requires))

pub loop-component-preserved : goal.loop-component-preserved
loop-component-preserved c = listing_on c.loop-component.invariant (Component _ ∷ []) (made_next Component _ _ c.loop-component-test.true) (lists_one (Component _) _ _ c.put_member.ensures)

pub returns : goal.returns
returns c =
    let all : c.loop-component.component ≡ c.record_count-count.result = omega arith in
    subst (Lists _ 0 _ _) all (listing_end c.loop-component.invariant (made_none Component _ _ (omega arith)))

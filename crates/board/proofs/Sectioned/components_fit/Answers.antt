-- `Sectioned::components_fit` gives `components_fit`, component by component. Assumes nothing.
use mathlib.Core.Path.{sym, ◌∙◌}
use native.Mathlib.Omega.{arith}
use Rattle.board.specs.declared.image.Section.TheVariants.{Components}
use Rattle.board.specs.Check.{features_laid, components_fit}
use Rattle.board.proofs.CheckLaws.{laying_off, laying_on, laying_done, passing_no, passing_yes, passing_done, both_first, both_second, both_done}
use Rattle.board.proofs.WalkLaws.{record_within, field_there, component_there}
use Rattle.board.proofs.Sectioned.components_fit.Goals as goal
use Rattle.board.proofs.Sectioned.components_fit.Goals.{then-first-next-via-then-first-next, then-first-next-via-else-first-next+then-not-component_fits}

pub number_at-first-requires : goal.number_at-first-requires
number_at-first-requires c = omega (arith, record_within _ Components c.section_offset-start.ensures c.record_count-components.ensures c.args.self.fit _ c.loop-n-test.true)

pub number_at-count-requires : goal.number_at-count-requires
number_at-count-requires c = omega (arith, record_within _ Components c.section_offset-start.ensures c.record_count-components.ensures c.args.self.fit _ c.loop-n-test.true)

pub component_fits-requires : goal.component_fits-requires
component_fits-requires c = record_within _ Components c.section_offset-start.ensures c.record_count-components.ensures c.args.self.fit _ c.loop-n-test.true

pub returns-then-first-next : goal.returns-then-first-next
unfolding components_fit features_laid
returns-then-first-next c =
    rw (← c.record_count-components.ensures, ← c.record_count-features.ensures) (elim c.then-first-next.branch [
      | then-first-next-via-then-first-next w ↦ both_first _ (laying_off c.loop-n.invariant.0 c.loop-n-test.true (c.number_at-first.ensures ∙ field_there _ Components c.section_offset-start.ensures _ 2) w.if-first-next.true)
      | then-first-next-via-else-first-next+then-not-component_fits w ↦ both_second _ (passing_no c.loop-n.invariant.1 c.loop-n-test.true (sym (component_there _ c.section_offset-start.ensures c.record_count-components.ensures _) ∙ sym w.component_fits.ensures ∙ w.if-not-component_fits.true))
    ])

pub loop-n-preserved : goal.loop-n-preserved
loop-n-preserved c = (
  laying_on c.loop-n.invariant.0 c.loop-n-test.true (c.number_at-first.ensures ∙ field_there _ Components c.section_offset-start.ensures _ 2) c.if-first-next.false (c.number_at-count.ensures ∙ field_there _ Components c.section_offset-start.ensures _ 3),
  passing_yes c.loop-n.invariant.1 c.loop-n-test.true (sym (component_there _ c.section_offset-start.ensures c.record_count-components.ensures _) ∙ sym c.component_fits.ensures ∙ c.if-not-component_fits.false),
)

pub returns : goal.returns
unfolding components_fit features_laid
returns c = rw (← c.record_count-components.ensures, ← c.record_count-features.ensures) (both_done (laying_done c.loop-n.invariant.0 c.loop-n-test.false) (passing_done c.loop-n.invariant.1 c.loop-n-test.false))

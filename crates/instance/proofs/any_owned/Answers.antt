-- `any_owned` says whether some record passes: record by record, those of other owners passed over, whatever p says what the closure
-- tells. Assumes nothing.
use mathlib.Core.Path.{sym, ◌∙◌}
use native.Mathlib.Omega.{arith}
use Rattle.instance.proofs.PlaceLaws.{walking_start, walking_hit, walking_miss, walking_done, walking_over, skipped_onward, owned_passing}
use Rattle.instance.proofs.any_owned.Goals as goal

pub loop-at-init : goal.loop-at-init
loop-at-init g c = λ p t o. walking_start p c.args.image.now c.args.section c.section_offset-first.ensures c.record_count-count.ensures

pub returns-then-end-here : goal.returns-then-end-here
returns-then-end-here g c =
    λ p t o. walking_done (walking_over (owned_passing c.args.image.now o c.front-records.ensures) (c.loop-at.invariant p t o) c.next_owned-here.ensures) c.if-end-here.true

pub returns-then-test : goal.returns-then-test
returns-then-test g c =
    λ p t o. walking_hit (walking_over (owned_passing c.args.image.now o c.front-records.ensures) (c.loop-at.invariant p t o) c.next_owned-here.ensures) c.if-end-here.false (sym (t _ _ (omega arith) c.test.ensures) ∙ c.if-test.true)

pub loop-at-smaller : goal.loop-at-smaller
loop-at-smaller g c = omega (arith, skipped_onward c.next_owned-here.ensures)

pub loop-at-preserved : goal.loop-at-preserved
loop-at-preserved g c =
    λ p t o. walking_miss (walking_over (owned_passing c.args.image.now o c.front-records.ensures) (c.loop-at.invariant p t o) c.next_owned-here.ensures) c.if-end-here.false (sym (t _ _ (omega arith) c.test.ensures) ∙ c.if-test.false)

pub returns : goal.returns
returns g c = λ p t o. walking_done (c.loop-at.invariant p t o) c.loop-at-test.false

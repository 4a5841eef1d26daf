-- `marked_place` gives the place of a member, by its profile and its bits. Assumes nothing.
use mathlib.Core.Path.{sym, ◌∙◌}
use native.Mathlib.Omega.{arith}
use Rattle.eval.specs.Memo.{place_by, place_of}
use Rattle.eval.specs.Marked.{bits_of}
use Rattle.eval.proofs.MemoLaws.{placed_marked, place_small}
use Rattle.eval.proofs.marked.Sorts.marked_place.Goals as goal

pub returns-in_err-k-clause-is : goal.returns-in_err-k-clause-is
unfolding place_of
returns-in_err-k-clause-is c = c.from_residual.ensures ∙ λ j. place_by ((sym (c.in_err-k.was {u = tt}) ∙ c.requires.0) j) (bits_of c.args.image.now c.args.self.marked.now c.args.member)

pub returns-in_err-bits-clause-is : goal.returns-in_err-bits-clause-is
returns-in_err-bits-clause-is c =
    c.from_residual-in_err-bits.ensures
    ∙ (λ j. place_by (sym (c.in_ok-k.was {u = tt}) j) (sym (c.in_err-bits.was {u = tt}) j))
    ∙ placed_marked _ _ _ c.requires.0 c.requires.1 c.bits.ensures

pub overflow_mul-result : goal.overflow_mul-result
overflow_mul-result c = omega (arith, place_small _ c.args.self _ c.requires.0 c.requires.1 c.bits.ensures (c.in_ok-k.was {u = tt}) (c.in_ok-bits.was {u = tt}))

pub overflow_add-result : goal.overflow_add-result
overflow_add-result c = omega (arith, place_small _ c.args.self _ c.requires.0 c.requires.1 c.bits.ensures (c.in_ok-k.was {u = tt}) (c.in_ok-bits.was {u = tt}))

pub returns-clause-is : goal.returns-clause-is
returns-clause-is c =
    (λ j. place_by (sym (c.in_ok-k.was {u = tt}) j) (sym (c.in_ok-bits.was {u = tt}) j)) ∙ placed_marked _ _ _ c.requires.0 c.requires.1 c.bits.ensures

pub returns-clause-small : goal.returns-clause-small
returns-clause-small c = place_small _ c.args.self _ c.requires.0 c.requires.1 c.bits.ensures (c.in_ok-k.was {u = tt}) (c.in_ok-bits.was {u = tt})

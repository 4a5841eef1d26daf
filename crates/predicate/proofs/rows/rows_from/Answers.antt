-- `rows::rows_from` finds the rows from the first one that passes, whatever test says what the closure tells. Assumes nothing.
use mathlib.Core.Path.{ap, ◌∙◌}
use native.Mathlib.Omega.{arith}
use lib.ListN.{length, length-drop}
use Rattle.std.proofs.lemmas.List.{take_rest}
use Rattle.predicate.specs.Rows.{rows_from}
use Rattle.predicate.proofs.RowLaws.{found_above, found_here, found_failing, found_elsewhere, found_none}
use Rattle.predicate.proofs.rows.rows_from.Goals as goal
use Rattle.predicate.proofs.rows.rows_from.Goals.{else-here-level-2-via-then-here-level-2+else-test, else-here-level-2-via-else-here-level-2}

pub returns-then-here-level-clause-found : goal.returns-then-here-level-clause-found
returns-then-here-level-clause-found g c = λ p t. found_above p _ _ c.in-len4-up.len_at_least c.if-here-level.true ∙ c.loop-rows.invariant.found p t

pub returns-then-test-clause-found : goal.returns-then-test-clause-found
returns-then-test-clause-found g c =
    λ p t. found_here p _ _ c.in-len4-up.len_at_least c.if-here-level-2.true (t _ _ c.test.ensures) c.if-test.true ∙ c.loop-rows.invariant.found p t

pub loop-rows-preserved : goal.loop-rows-preserved
loop-rows-preserved g c =
    let rows = c.loop-rows.rows.now in
    record {
      found =
          λ p t. ap (rows_from p c.args.level) (take_rest rows 4)
          ∙ elim c.else-here-level-2.branch [
            | else-here-level-2-via-then-here-level-2+else-test w ↦ found_failing p _ rows c.in-len4-up.len_at_least w.if-here-level-2.true (t _ _ w.test.ensures) w.if-test.false
            | else-here-level-2-via-else-here-level-2 w ↦ found_elsewhere p _ rows c.in-len4-up.len_at_least c.if-here-level.false w.if-here-level-2.false
          ]
          ∙ c.loop-rows.invariant.found p t;
      shorter = omega (arith, ap length (take_rest rows 4), length-drop 4 rows);
    }

pub returns-clause-found : goal.returns-clause-found
returns-clause-found g c = λ p t. found_none p _ _ c.in_default.len_below ∙ c.loop-rows.invariant.found p t

-- `rows::skip_below` passes over as many rows as are below the level. Assumes nothing.
use Rattle.std.proofs.Common.{rules, tests, ◌≡◌, ◌∙◌, ℕ, length, ◌/◌, List, ap}
use Rattle.std.proofs.lemmas.Iterator.{YieldsList-from_slice}
use Rattle.std.proofs.lemmas.Iterator.Consumers.{count_from_yields_List}
use Rattle.std.proofs.lemmas.Iterator.Search.{YieldsList-from_take_while}
use Rattle.std.proofs.lemmas.List.Folds.{length-prefix_len}
use Rattle.std.specs.List.{prefix_len}
use Rattle.std.specs.Simd.{first_chunks}
use Rattle.predicate.proofs.RowLaws.{row_test, skips}
use Rattle.predicate.proofs.rows.skip_below.Goals as goal

-- `take_while` gives as many rows as are below the level, one after another
counted : (c : goal.After-count) → c.count.result ≡ prefix_len (row_test c.args.level) c.as_chunks.result.0.now
counted c =
    count_from_yields_List c.take_while-below.result _ c.count.ensures.ran
    (YieldsList-from_take_while _ (row_test c.args.level) (YieldsList-from_slice c.as_chunks.result.0.now cc) c.take_while-below.ensures.closure c.take_while-below.ensures.done (λ x b q k. search (rules, tests)))
    ∙ length-prefix_len (row_test c.args.level) c.as_chunks.result.0.now

pub returns : goal.returns
returns c =
    skips c.args.tree.now c.args.level c.args.from
    (counted c
    ∙ ap (prefix_len (row_test c.args.level)) c.as_chunks.ensures.front
    ∙ ap (λ (r : List ℕ). prefix_len (row_test c.args.level) (first_chunks 4 (length r / 4) r)) c.tail.ensures)

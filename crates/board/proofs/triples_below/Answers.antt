-- `triples_below` gives the test of each record. Assumes nothing.
use mathlib.Core.Path.{◌≡◌, ◌∙◌}
use Prim.Native.Nat.{◌+◌, ◌*◌}
use native.Mathlib.Omega.{arith}
use Rattle.std.proofs.Common.{rules, tests}
use Rattle.std.proofs.lemmas.Iterator.{YieldsList-from_range}
use Rattle.std.proofs.lemmas.Iterator.Search.{all_from_yields_List}
use Rattle.std.specs.List.{list_all, range_with_len}
use Rattle.board.specs.Image.{TRIPLE_SIZE}
use Rattle.board.specs.CheckScan.{below_at}
use Rattle.board.proofs.CheckLaws.{each_of_range}
use Rattle.board.proofs.triples_below.Goals as goal

pub returns : goal.returns
returns c =
    let all : c.all.result ≡ list_all (λ n. below_at c.args.image.now (c.args.start + TRIPLE_SIZE * n) c.args.first c.args.second c.args.third) (range_with_len 0 c.args.count) = all_from_yields_List _ _ _ _ c.all.ensures.ran (YieldsList-from_range 0 c.args.count c.args.count (cc) (omega arith)) (λ x b q k. search (rules, tests)) in
    all ∙ each_of_range _ 0 c.args.count

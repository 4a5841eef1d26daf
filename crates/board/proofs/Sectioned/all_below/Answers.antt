-- `Sectioned::all_below` gives `all_below`: the records lie in the image. Assumes nothing.
use mathlib.Core.Path.{sym, ◌∙◌}
use Prim.Native.Nat.{◌+◌, ◌*◌}
use Rattle.board.specs.CheckScan.{below_at}
use Rattle.board.specs.Check.{each}
use Rattle.board.proofs.WalkLaws.{records_within, below_there}
use Rattle.board.proofs.Sectioned.all_below.Goals as goal

pub triples_below-requires : goal.triples_below-requires
triples_below-requires c =
    rw c.requires at (records_within c.args.self.image.now c.args.section c.section_offset-start.ensures c.record_count-count.ensures c.args.self.fit)

pub returns : goal.returns
returns c =
    c.triples_below.ensures
    ∙ (λ j. each (λ n. below_at c.args.self.image.now (c.section_offset-start.result + sym c.requires j * n) c.args.first c.args.second c.args.third) 0 c.record_count-count.result)
    ∙ below_there c.args.self.image.now c.args.section c.section_offset-start.ensures c.record_count-count.ensures _ _ _

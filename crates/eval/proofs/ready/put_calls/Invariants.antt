-- `put_calls` writes each call: those written and those left are all. Assumes nothing.
use Prim.Native.Nat.{◌+◌, ◌-◌}
use lib.ListN.{length}
use Rattle.meaning.specs.Pipeline.{calls_of}
use Rattle.predicate.specs.Rows.{level_at, forest_from}
use Rattle.eval.proofs.CallLaws.{Writing}
use Rattle.eval.proofs.ready.put_calls.Given as goal

abbrev pub invariant-loop-calls : goal.invariant-loop-calls
invariant-loop-calls l =
    Writing l.rule l.tree (calls_of (forest_from l.rule l.tree (level_at l.tree l.at + 1) l.source)) (l.level + 1) l.row l.initial.calls l.calls l.count

abbrev pub decreases-loop-calls : goal.decreases-loop-calls
decreases-loop-calls l = length l.tree - l.row

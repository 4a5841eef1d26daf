-- Of an input without bytes nothing is left at any turn, and nothing was printed. Assumes nothing.
use Rattle.std.proofs.Common.{◌≡◌, []}
use Rattle.cases.proofs.replay.Given as goal

abbrev pub invariant-loop-i : goal.invariant-loop-i
invariant-loop-i g l =
    (goal.iterator-loop-i g).can_next l.i-iterator × (goal.iterator-loop-i g).is_finite l.i-iterator × (l.input ≡ [] → (l.i-iterator.iter.rest.now ≡ []) × (l.out ≡ l.initial.out))

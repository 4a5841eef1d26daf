-- `note` writes a note. Assumes nothing.
use mathlib.Core.Path.{ap}
use Prim.Native.Nat.{◌+◌, ◌*◌}
use lib.ListN.{set}
use Rattle.profile.specs.Profile.{PROFILES}
use Rattle.eval.proofs.walk.Walk.note.Goals as goal

pub returns-clause-noted : goal.returns-clause-noted
returns-clause-noted c = record { more = c.asks_below-more.result; below = c.asks_below-more.ensures; is = ap (set c.args.self.now.notes.now (c.args.place + PROFILES * c.args.i)) c.of.ensures }

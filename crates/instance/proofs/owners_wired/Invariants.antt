-- `owners_wired` gives `owners_wired`, connection by connection. Assumes nothing.
use mathlib.Core.Bool.{not}
use Rattle.instance.specs.Instance.{owner_unwired, owners_wired}
use Rattle.instance.proofs.InstanceLaws.{Searching}
use Rattle.instance.proofs.owners_wired.Given as goal

abbrev pub invariant-loop-n : goal.invariant-loop-n
invariant-loop-n l = Searching (owner_unwired l.image) l.count l.n (not (owners_wired l.image))

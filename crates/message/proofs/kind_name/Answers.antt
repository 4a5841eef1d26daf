-- `kind_name` finds the name by the number: the names of the table are those of the kinds, which antt computes. Assumes nothing.
use mathlib.Core.Path.{refl}
use Rattle.message.proofs.NameLaws.{are_names, name_is}
use Rattle.message.proofs.kind_name.Goals as goal

pub returns : goal.returns
unfolding are_names
returns c = name_is _ _ c.name_in.ensures tt refl

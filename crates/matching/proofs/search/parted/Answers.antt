-- `search::parted` parts a text where `::` is found. Assumes nothing.
use lib.ListN.{length-take}
use native.Mathlib.Omega.{arith}
use Rattle.matching.proofs.SearchLaws.{colons_within, set_whole, name_whole, set_parted, name_parted}
use Rattle.matching.proofs.search.parted.Goals as goal

pub slice_bounds-result-end : goal.slice_bounds-result-end
slice_bounds-result-end c = simp length-take (omega (arith, colons_within _ c.find.ensures c.in-Some.is))

pub returns-in-Some-clause-set : goal.returns-in-Some-clause-set
returns-in-Some-clause-set c = set_parted _ c.find.ensures c.in-Some.is

pub returns-in-Some-clause-name : goal.returns-in-Some-clause-name
returns-in-Some-clause-name c = name_parted _ c.find.ensures c.in-Some.is

pub returns-in-None-clause-set : goal.returns-in-None-clause-set
returns-in-None-clause-set c = set_whole _ c.find.ensures c.in-None.is

pub returns-in-None-clause-name : goal.returns-in-None-clause-name
returns-in-None-clause-name c = name_whole _ c.find.ensures c.in-None.is

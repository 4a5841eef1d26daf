-- `find` finds the atom by its kind. Assumes nothing.
use Rattle.std.proofs.Common.{rules}
use Rattle.predicate.proofs.AtomLaws.{atom_other}
use Rattle.predicate.proofs.atom.Atom.find.Goals as goal

pub returns-in_default : goal.returns-in_default
returns-in_default c =
    atom_other _ _ _ c.requires.atom.0 c.requires.atom.1 c.requires.atom.2 (λ e. search (rules, e)) (λ e. search (rules, e)) (λ e. search (rules, e)) (λ e. search (rules, e))

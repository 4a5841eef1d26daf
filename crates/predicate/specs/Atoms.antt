-- An atom with its texts found, and a predicate that is one but for `not` and brackets; no public contract needs this file. Assumes
-- nothing: these are definitions.
use Rattle.std.specs.Prelude.{ℕ, ◌≡◌, Bool, false, not, cond, List}
use Rattle.predicate.specs.declared.atom.Member.{Member}
use Rattle.predicate.specs.declared.atom.Atom.{Atom}
use Rattle.predicate.specs.declared.atom.Atom.TheVariants.{Connected, Has, MessageContains, Compares, Other}
use Rattle.predicate.specs.declared.Asked.{Asked}
use Rattle.predicate.specs.Truth.{connected, has, message_contains, compares, truth}
use Rattle.predicate.specs.Rows.{children_at}
use Rattle.predicate.specs.Eval.{settled}

-- whether an atom is true of a member
unfoldable pub atom_truth : List ℕ → Member → Atom → Bool
atom_truth image m Connected = connected image m
atom_truth image m (Has value) = has image m value.now
atom_truth image m (MessageContains value) = message_contains image m value.now
atom_truth image m (Compares field value) = compares image m field.now value.now
atom_truth image m Other = false

-- it is the atom whose row is at a place
pub record AtomAt (rule tree : List ℕ) (at : ℕ) (a : Atom) : Type 0 where
  pub so : (image : List ℕ) (m : Member) → atom_truth image m a ≡ settled rule image tree m at

-- whether an atom, or what is not, is true of a member
unfoldable pub asked_truth : List ℕ → Member → Asked → Bool
unfolding atom_truth
asked_truth image m a = cond a.not (not (atom_truth image m a.atom)) (atom_truth image m a.atom)

-- it is the first node inside the one whose row is at a place
pub record AskedAt (rule tree : List ℕ) (at : ℕ) (a : Asked) : Type 0 where
  pub so : (image : List ℕ) (m : Member) → asked_truth image m a ≡ truth image m (children_at rule tree at)

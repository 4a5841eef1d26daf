-- What the evaluator's functions give; no public contract needs this file. Assumes nothing: these are definitions.
use Rattle.std.specs.Prelude.{ℕ, ◌+◌, ◌≤◌, ◌<◌, ◌≡◌, Bool, true, false, List, [], length, drop, Option, None, Some}
use Rattle.trees.specs.Green.{Forest}
use Rattle.predicate.specs.declared.atom.Member.{Member}
use Rattle.predicate.specs.declared.Evaluator.{Evaluator}
use Rattle.predicate.specs.declared.Truth.{Truth}
use Rattle.predicate.specs.declared.Operands.{Operands}
use Rattle.predicate.specs.Truth.{sort_of, settle, truths, truth, joined}
use Rattle.predicate.specs.Rows.{ROW, kind_at, level_at, forest_from, children_at, node_at, is_below, rows_from, past_below}

-- a whole row is at a place, and this is its level
pub record IsRow (tree : List ℕ) (at level : ℕ) : Type 0 where
  pub whole : at + ROW ≤ length tree
  pub here : level ≡ level_at tree at

-- what a test of kinds returns is what this one says
abbrev pub Tells : (ℕ → Bool → Type 0) → (ℕ → Bool) → Type 0
Tells post test = (kind : ℕ) (r : Bool) → post kind r → r ≡ test kind

-- the first row at a level from a place on that passes a test is found at a place, or nowhere
pub record FoundAt (test : ℕ → Bool) (tree : List ℕ) (level from at : ℕ) : Type 0 where
  pub later : from ≤ at
  pub whole : at + ROW ≤ length tree
  pub here : drop at tree ≡ rows_from test level (drop from tree)

pub record FoundNowhere (test : ℕ → Bool) (tree : List ℕ) (level from : ℕ) : Type 0 where
  pub none : rows_from test level (drop from tree) ≡ []

abbrev pub Finds : (test : ℕ → Bool) (tree : List ℕ) (level from : ℕ) → Option ℕ → Type 0
Finds test tree level from (Some at) = FoundAt test tree level from at
Finds test tree level from None = FoundNowhere test tree level from

-- the rows below a level from a place on are passed over
pub record Skips (tree : List ℕ) (level from next : ℕ) : Type 0 where
  pub later : from ≤ next
  pub here : drop next tree ≡ past_below level (drop from tree)

-- the truth of the node whose row is at a place
abbrev pub truth_at : Evaluator → ℕ → Bool
truth_at ev at = truth ev.image.now ev.member (node_at ev.rule.now ev.tree.now at)

-- the same by the kind of its row and its children: where the row is a whole one
abbrev pub settled : (rule image tree : List ℕ) → Member → ℕ → Bool
settled rule image tree m at =
    let f : Forest = children_at rule tree at in
    settle image m (sort_of (kind_at tree at)) f (truths image m f)

abbrev pub settled_at : Evaluator → ℕ → Bool
settled_at ev at = settled ev.rule.now ev.image.now ev.tree.now ev.member at

pub record Evaluated (ev : Evaluator) (at : ℕ) (r : Truth) : Type 0 where
  pub value : r.value ≡ truth_at ev at
  pub next : Skips ev.tree.now (level_at ev.tree.now at) (at + ROW) r.next

-- of the first node below a level from a place on
pub record Inner (ev : Evaluator) (level from : ℕ) (r : Truth) : Type 0 where
  pub value : r.value ≡ truth ev.image.now ev.member (forest_from ev.rule.now ev.tree.now (level + 1) from)
  pub next : Skips ev.tree.now level from r.next

-- of the operands below a level from a place on, with what stands before them
unfoldable pub joined_from : Evaluator → ℕ → Operands → Bool
unfolding joined truths forest_from
joined_from ev level s =
    let f : Forest = forest_from ev.rule.now ev.tree.now (level + 1) s.at in
    joined s.or s.before f (truths ev.image.now ev.member f)

pub record Joined (ev : Evaluator) (level from : ℕ) (r : Truth) : Type 0 where
  pub value : r.value ≡ joined_from ev level (record { at = from; or = false; before = true })
  pub next : Skips ev.tree.now level from r.next

-- a row is left to join
pub record Operand (tree : List ℕ) (level : ℕ) (s : Operands) : Type 0 where
  pub row : is_below tree level s.at ≡ true

-- a row more is joined
pub record Joins (ev : Evaluator) (level : ℕ) (s r : Operands) : Type 0 where
  pub value : joined_from ev level r ≡ joined_from ev level s
  pub later : s.at < r.at
  pub here : past_below level (drop r.at ev.tree.now) ≡ past_below level (drop s.at ev.tree.now)

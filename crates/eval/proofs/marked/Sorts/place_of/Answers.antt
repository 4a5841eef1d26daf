-- `place_of` goes by the profile alone where nothing is marked. Assumes nothing.
use borrow.Author.Tests.{eqb-true}
use mathlib.Core.Path.{sym, ◌∙◌}
use Rattle.eval.proofs.MemoLaws.{placed_plain, profile_few}
use Rattle.eval.proofs.marked.Sorts.place_of.Goals as goal

pub returns-then-is_empty : goal.returns-then-is_empty
returns-then-is_empty c = record {
  is = placed_plain _ _ _ c.requires (eqb-true _ _ (sym c.is_empty.ensures ∙ c.if-is_empty.true));
  small = profile_few _ c.args.self _ c.requires;
}

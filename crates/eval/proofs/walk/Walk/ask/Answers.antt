-- `ask` gives the truth of the predicate, and what is noted stays true. Assumes nothing.
use Rattle.std.proofs.Common.{rules}
use mathlib.Core.Path.{◌≡◌, sym, ◌∙◌}
use Rattle.eval.specs.declared.memo.Note.TheVariants.{NotKnown}
use Rattle.eval.proofs.MemoLaws.{room}
use Rattle.eval.proofs.SentLaws.{asked_alone, asked_there}
use Rattle.eval.proofs.walk.Walk.ask.Goals as goal

pub returns-then-not-has_room : goal.returns-then-not-has_room
returns-then-not-has_room c = asked_alone c.requires c.eval.ensures

pub note-requires : goal.note-requires
note-requires c =
    let e : NotKnown ≡ c.noted-known.result = search rules in
    room _ _ _ (e ∙ c.noted-known.ensures)

pub returns-then-eq : goal.returns-then-eq
returns-then-eq c =
    let e : NotKnown ≡ c.noted-known.result = search rules in
    asked_there c.requires (sym c.place_of.ensures.is ∙ c.in-Some.is) (e ∙ c.noted-known.ensures) c.eval-value.ensures c.note.ensures.same c.note.ensures.noted

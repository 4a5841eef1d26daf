-- `write_item_of` appends the part between bars that was looked up. Assumes nothing.
use Rattle.std.proofs.Common.{Some, None, rules, tests}
use Rattle.std.proofs.lemmas.Iterator.Consumers.{nth_from_yields_List}
use Rattle.std.proofs.lemmas.Iterator.Splits.{YieldsList-from_slice_split}
use Rattle.texts.proofs.ItemLaws.{item_found}
use Rattle.texts.proofs.Writer.write_item_of.Goals as goal

pub returns-in-Some : goal.returns-in-Some
returns-in-Some c =
    let found = nth_from_yields_List (Some c.in-Some.text) c.nth.new.self c.args.n c.in-Some.ensures.ran (YieldsList-from_slice_split _ _ c.args.items.now c.split.ensures.rest c.split.ensures.done c.split.ensures.closure (λ b r q k. search (rules, tests))) in
    rw (← item_found c.args.n c.args.items.now found) c.append.ensures

pub returns-in-None : goal.returns-in-None
returns-in-None c =
    let found = nth_from_yields_List None c.nth.new.self c.args.n c.in-None.ensures.ran (YieldsList-from_slice_split _ _ c.args.items.now c.split.ensures.rest c.split.ensures.done c.split.ensures.closure (λ b r q k. search (rules, tests))) in
    rw (← item_found c.args.n c.args.items.now found) c.append-in-None.ensures

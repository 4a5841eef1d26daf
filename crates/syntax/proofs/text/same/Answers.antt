-- `same` goes by the lengths of the two texts, and byte by byte. Assumes nothing.
use Rattle.std.proofs.Common.{ℕ, eqb, rules, tests}
use Rattle.std.proofs.lemmas.Iterator.{YieldsList-from_slice, YieldsList-from_zip}
use Rattle.std.proofs.lemmas.Iterator.Search.{all_from_yields_List}
use Rattle.syntax.proofs.TextLaws.{same_none, same_all}
use Rattle.syntax.proofs.text.same.Goals as goal

pub returns-then-a-b : goal.returns-then-a-b
returns-then-a-b c =
    let a = c.args.a.now in
    let b = c.args.b.now in
    same_all a b c.if-a-b.true
    (all_from_yields_List {s = c.zip.result} (λ (p : ℕ × ℕ). eqb p.0 p.1) c.all.new.self _ _ c.all.ensures.ran (YieldsList-from_zip (YieldsList-from_slice a cc) (YieldsList-from_slice b cc)) (λ x y q k. search (rules, tests)))

pub returns-else-a-b : goal.returns-else-a-b
returns-else-a-b c = same_none _ _ c.if-a-b.false

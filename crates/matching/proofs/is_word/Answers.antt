-- `is_word` says whether a value, folded, is a word: by the lengths of the two, and byte by byte. Assumes nothing.
use Rattle.std.proofs.Common.{ℕ, eqb, rules, tests}
use Rattle.std.proofs.lemmas.Iterator.{YieldsList-from_slice, YieldsList-from_zip}
use Rattle.std.proofs.lemmas.Iterator.Search.{all_from_yields_List}
use Rattle.matching.specs.Words.{fold}
use Rattle.matching.proofs.WordLaws.{folding_lengths, folding_all}
use Rattle.matching.proofs.is_word.Goals as goal

pub returns-then-value-word : goal.returns-then-value-word
returns-then-value-word c =
    let value = c.args.value.now in
    let word = c.args.word.now in
    folding_all value word c.if-value-word.true
    (all_from_yields_List {s = c.zip.result} (λ (p : ℕ × ℕ). eqb (fold p.0) p.1) c.all.new.self _ _ c.all.ensures.ran (YieldsList-from_zip (YieldsList-from_slice value cc) (YieldsList-from_slice word cc)) (λ x b q k. search (rules, tests)))

pub returns-else-value-word : goal.returns-else-value-word
returns-else-value-word c = folding_lengths _ _ c.if-value-word.false

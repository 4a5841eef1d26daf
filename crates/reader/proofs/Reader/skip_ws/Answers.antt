-- `skip_ws` passes as many rows as are blanks. Assumes nothing.
use Rattle.std.proofs.Common.{rules, tests, ◌≡◌, ◌∙◌, drop, refl, ap}
use Rattle.std.proofs.lemmas.Iterator.{YieldsList-from_slice}
use Rattle.std.proofs.lemmas.Iterator.Consumers.{count_from_yields_List}
use Rattle.std.proofs.lemmas.Iterator.Search.{YieldsList-from_take_while}
use Rattle.std.proofs.lemmas.List.Folds.{length-prefix_len}
use Rattle.std.specs.List.{prefix_len}
use Rattle.reader.proofs.ReaderLaws.{row_test, rest_read, blanks_passed}
use Rattle.reader.proofs.Reader.skip_ws.Goals as goal

pub returns : goal.returns
returns c =
    let rest : c.unwrap_or-rest.result.now ≡ drop c.args.self.place c.as_chunks.result.0.now = ap (λ r. r.now) c.unwrap_or-rest.ensures ∙ rest_read c.as_chunks.result.0.now c.args.self.place c.get.result c.get.ensures.lookup _ refl in
    let count : c.count.result ≡ prefix_len row_test c.unwrap_or-rest.result.now = count_from_yields_List c.take_while-blanks.result _ c.count.ensures.ran (YieldsList-from_take_while _ row_test (YieldsList-from_slice c.unwrap_or-rest.result.now (cc)) c.take_while-blanks.ensures.closure c.take_while-blanks.ensures.done (λ x b q k. search (rules, tests))) ∙ length-prefix_len row_test c.unwrap_or-rest.result.now in
    (search rules, c.new.ensures.1 ∙ blanks_passed c.args.self.rows.now c.args.self.place (count ∙ ap (prefix_len row_test) (rest ∙ ap (drop c.args.self.place) c.as_chunks.ensures.front)))

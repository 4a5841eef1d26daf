-- `write_tokens` writes a row for each token, and finishing from each place ends as the whole does. Assumes nothing.
use Rattle.lexer.specs.Lex.{lex}
use Rattle.lexer.specs.LexScan.{tokens_left}
use Rattle.lexer.proofs.ReadLaws.{Written}
use Rattle.lexer.proofs.write_tokens.Given as goal

abbrev pub invariant-loop-kind : goal.invariant-loop-kind
invariant-loop-kind l = Written (lex l.rule) (tokens_left l.kind-iterator) l.initial.tokens l.tokens l.at l.written

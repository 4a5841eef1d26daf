-- `count_openers` counts token by token. Assumes nothing.
use Rattle.lexer.specs.Lex.{lex}
use Rattle.lexer.specs.LexScan.{tokens_left}
use Rattle.lexer.proofs.ReadLaws.{Counted}
use Rattle.lexer.proofs.count_openers.Given as goal

abbrev pub invariant-loop-token : goal.invariant-loop-token
invariant-loop-token l = Counted (lex l.rule) (tokens_left l.token-iterator) l.n

-- `past_last` goes back from the end over tokens of other kinds. Assumes nothing.
use Rattle.syntax.specs.Kinds.{number}
use Rattle.lexer.specs.Lex.{lex}
use Rattle.trees.specs.Writing.{NoneFrom}
use Rattle.parser.proofs.past_last.Given as goal

abbrev pub invariant-loop-i : goal.invariant-loop-i
invariant-loop-i l = NoneFrom (number l.fn.kind) (lex l.rule) l.i

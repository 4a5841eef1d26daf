-- `has_count_compare_ahead` goes back over blanks and an integer to what decides. Assumes nothing.
use Prim.Native.Nat.{◌≤◌}
use Rattle.lexer.specs.Lex.{lex}
use Rattle.trees.proofs.LookLaws.{Ending}
use Rattle.parser.proofs.ExprParser.has_count_compare_ahead.Given as goal

abbrev pub invariant-loop-i : goal.invariant-loop-i
invariant-loop-i l = record { from : l.self.at.token ≤ l.i; ending : Ending (lex l.self.rule.now) l.integer l.i }

-- `has_count_compare_ahead` goes back over blanks and an integer to what decides. Assumes nothing.
use mathlib.Core.Path.{◌≡◌}
use native.Mathlib.Omega.{arith}
use Rattle.lexer.specs.Lex.{lex}
use Prim.Native.Nat.{◌/◌}
use lib.ListN.{length}
use Rattle.trees.proofs.TokenLaws.{table_length}
use Rattle.trees.proofs.LookLaws.{ending_start, ending_blank, ending_integer, ends_compared, ends_other, ends_none}
use Rattle.parser.proofs.ParserLaws.{compared_named}
use Rattle.parser.proofs.ExprParser.has_count_compare_ahead.Goals as goal

pub loop-i-init : goal.loop-i-init
loop-i-init c =
    let ts = lex c.args.self.now.rule.now in
    let e : length c.args.self.now.tokens.now / 3 ≡ length ts = omega (arith, table_length c.requires.here) in
    rw e record { from = c.requires.here.within; ending = ending_start ts }

pub loop-i-preserved-then-kind : goal.loop-i-preserved-then-kind
loop-i-preserved-then-kind c = record { from = omega arith; ending = ending_blank c.requires.here.rows (omega arith) c.loop-i.invariant.ending c.if-kind.true }

pub returns-then-integer : goal.returns-then-integer
returns-then-integer c = ends_compared c.requires.here.rows (omega arith) c.loop-i.invariant.ending c.if-kind.false c.if-integer.true (compared_named _ _ c.try_from.ensures c.is_ok_and.ensures) _ c.loop-i-test.true

pub returns-then-kind-2 : goal.returns-then-kind-2
returns-then-kind-2 c = ends_other c.requires.here.rows (omega arith) c.loop-i.invariant.ending c.if-kind.false c.if-integer.false c.if-kind-2.true _ c.loop-i-test.true

pub loop-i-preserved : goal.loop-i-preserved
loop-i-preserved c = record { from = omega arith; ending = ending_integer c.requires.here.rows (omega arith) c.loop-i.invariant.ending c.if-kind.false c.if-integer.false c.if-kind-2.false }

pub returns : goal.returns
returns c = ends_none c.loop-i.invariant.ending _ c.loop-i.invariant.from c.loop-i-test.false

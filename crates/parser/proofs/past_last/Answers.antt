-- `past_last` goes back from the end over tokens of other kinds. Assumes nothing.
use mathlib.Core.Path.{◌≡◌, sym, ◌∙◌}
use native.Mathlib.Omega.{arith}
use Rattle.lexer.specs.Lex.{lex}
use Prim.Native.Nat.{◌/◌}
use lib.ListN.{length}
use Rattle.trees.proofs.TokenLaws.{rows_length}
use Rattle.trees.proofs.LookLaws.{none_end, none_back}
use Rattle.parser.proofs.past_last.Goals as goal

pub loop-i-init : goal.loop-i-init
loop-i-init c =
    let e : length c.args.tokens.now / 3 ≡ length (lex c.args.rule.now) = omega (arith, rows_length (lex c.args.rule.now) c.requires) in
    rw e (none_end _ (lex c.args.rule.now))

pub loop-i-preserved : goal.loop-i-preserved
loop-i-preserved c = none_back c.requires c.loop-i.invariant c.loop-i-test.true (λ q. c.if-tokens-i.false (q ∙ sym c.from-wanted.ensures))

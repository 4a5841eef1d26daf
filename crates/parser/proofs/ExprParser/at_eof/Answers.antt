-- `at_eof` is the test for the end. Assumes nothing.
use Rattle.trees.proofs.LookLaws.{end_test}
use Rattle.parser.proofs.ExprParser.at_eof.Goals as goal

pub returns : goal.returns
returns c = end_test c.args.self.now.rule.now c.args.self.now.at.token (rw (← c.current_kind.ensures) c.is_none.ensures)

-- `run_checked` reads the rule, and gives what its tree comes to. Assumes nothing.
use Rattle.eval.proofs.RunLaws.{checked_lent, not_refused, checked_read, runs_read}
use Rattle.eval.proofs.run_checked.Goals as goal

pub run_read-outcome-requires : goal.run_read-outcome-requires
run_read-outcome-requires c = (checked_read c.args.rule.now c.args.image.now c.args.tokens.now c.args.tree.now c.args.errors.now c.args.collection.now c.requires c.parse_rule.ensures c.in-Ok.is, checked_lent c.args.rule.now c.args.image.now c.args.tokens.now c.args.tree.now c.args.errors.now c.args.collection.now c.requires)

pub returns-in-Err : goal.returns-in-Err
returns-in-Err c = absurd (not_refused c.args.rule.now c.args.image.now c.args.tokens.now c.args.tree.now c.args.errors.now c.args.collection.now c.requires c.parse_rule.ensures c.in-Err.is)

pub returns-in-Ok : goal.returns-in-Ok
returns-in-Ok c = runs_read c.args.rule.now c.args.image.now c.args.tokens.now c.args.tree.now c.args.errors.now c.args.collection.now c.requires c.parse_rule.ensures c.run_read-outcome.ensures c.in-Ok.is c.with_verdict-in-Ok.ensures

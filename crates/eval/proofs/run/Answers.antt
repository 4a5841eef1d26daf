-- `run` takes the checks in their order. Assumes nothing.
use Rattle.eval.proofs.RunLaws.{both_passed, rule_refused, image_refused, runs_refused}
use mathlib.Core.Path.{sym, ◌∙◌}
use Rattle.eval.proofs.run.Goals as goal

pub run_checked-requires : goal.run_checked-requires
run_checked-requires c = both_passed c.args.rule.now c.args.image.now c.args.tokens.now c.args.tree.now c.args.errors.now c.args.collection.now (sym c.check_rule.ensures ∙ c.in-Ok.is) (sym c.check_image.ensures ∙ c.in-Ok-check_image.is)

pub returns-in-Err : goal.returns-in-Err
returns-in-Err c = runs_refused c.args.rule.now c.args.image.now c.args.tokens.now c.args.tree.now c.args.errors.now c.args.collection.now (rule_refused c.args.rule.now c.args.image.now c.args.tokens.now c.args.tree.now c.args.errors.now c.args.collection.now (sym c.check_rule.ensures ∙ c.in-Err.is)) c.with_verdict.ensures

pub returns-in-Err-check_image : goal.returns-in-Err-check_image
returns-in-Err-check_image c = runs_refused c.args.rule.now c.args.image.now c.args.tokens.now c.args.tree.now c.args.errors.now c.args.collection.now (image_refused c.args.rule.now c.args.image.now c.args.tokens.now c.args.tree.now c.args.errors.now c.args.collection.now (sym c.check_rule.ensures ∙ c.in-Ok.is) (sym c.check_image.ensures ∙ c.in-Err-check_image.is)) c.with_verdict-in-Err-check_image.ensures

-- `parse_expr` gives what `parse_rule` gives of a rule that passed, and the refusal of another. Assumes nothing.
use mathlib.Core.Path.{sym, ◌∙◌}
use lib.ListN.{length}
use Rattle.trees.proofs.ReadLaws.{passed_has_room, passed_reads}
use Rattle.parser.proofs.parse_expr.Goals as goal

pub returns : goal.returns
returns c =
    let e = sym c.check_rule.ensures ∙ c.in_ok-check_rule.was {u = tt} in
    passed_reads e (passed_has_room c.args.rule.now (length c.args.tokens.now) (length c.args.tree.now) (length c.args.errors.now) e) c.parse_rule.ensures

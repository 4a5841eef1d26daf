-- `write_message` has the message written apart, and shows it. Assumes nothing.
use mathlib.Core.Path.{refl, sym}
use lib.Seq.{length-take-le}
use Rattle.report.proofs.ErrorLaws.{fits, message_shown, message_long}
use Rattle.report.proofs.error.write_message.Goals as goal

pub slice_bounds-space-end : goal.slice_bounds-space-end
slice_bounds-space-end c = (fits c.write_message.ensures c.in-Some.is).within

pub slice_bounds-write_shown-end : goal.slice_bounds-write_shown-end
slice_bounds-write_shown-end c = sym (length-take-le _ _ (fits c.write_message.ensures c.in-Some.is).within)

pub returns-in-Some : goal.returns-in-Some
returns-in-Some c = message_shown c.args.rule.now c.args.row.form c.args.row.expected c.args.row.first c.args.row.end refl c.write_message.ensures c.in-Some.is c.write_shown.ensures

pub returns-in-None : goal.returns-in-None
returns-in-None c = message_long c.args.rule.now c.args.row.form c.args.row.expected c.args.row.first c.args.row.end refl c.write_message.ensures c.in-None.is c.append.ensures

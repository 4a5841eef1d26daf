-- `run_read` refuses parse errors, and goes on with the rows of the tree. Assumes nothing.
use Rattle.eval.proofs.RunLaws.{read_errors, read_few, read_given}
use Rattle.eval.proofs.run_read.Goals as goal

pub returns-then-rows-ne0 : goal.returns-then-rows-ne0
returns-then-rows-ne0 c = read_errors c.requires.0 c.args.image.now c.if-rows-ne0.true

pub eval_node-requires : goal.eval_node-requires
eval_node-requires c = (c.requires.1, read_few c.requires.0 c.args.image.now c.if-rows-ne0.false)

pub returns : goal.returns
returns c = read_given c.requires.0 c.args.image.now c.if-rows-ne0.false c.eval_node.ensures

-- `put_member` writes the two numbers of a row. Assumes nothing.
use Rattle.eval.proofs.TableLaws.{put_row}
use Rattle.eval.proofs.walk.put_member.Goals as goal

pub returns : goal.returns
returns c = put_row c.args.member _ _ _ _ c.row_of-first.ensures

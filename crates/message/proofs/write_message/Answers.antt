-- `write_message` writes the head and what stands for the token, where there is room. Assumes nothing.
use native.Mathlib.Omega.{arith}
use Rattle.std.proofs.Common.{rules}
use Rattle.message.proofs.WriteLaws.{no_form_writes, parts_short, parts_lack, parts_write}
use Rattle.message.proofs.write_message.Goals as goal

pub returns-in_default : goal.returns-in_default
returns-in_default c = no_form_writes c.args.rule.now _ _ _ _ (c.in_default.ensures {u = tt}).0

pub len-requires : goal.len-requires
len-requires c = omega (arith, parts_short c.args.rule.now _ _ _ _ (c.in-Ok.ensures {u = tt}) c.head-head.ensures c.part.ensures c.found_of-found.ensures)

pub len-requires-2 : goal.len-requires-2
len-requires-2 c = omega (arith, parts_short c.args.rule.now _ _ _ _ (c.in-Ok.ensures {u = tt}) c.head-head.ensures c.part.ensures c.found_of-found.ensures)

pub overflow_add-len : goal.overflow_add-len
overflow_add-len c = omega (arith, c.len.ensures, c.len-2.ensures, parts_short c.args.rule.now _ _ _ _ (c.in-Ok.ensures {u = tt}) c.head-head.ensures c.part.ensures c.found_of-found.ensures)

pub returns-then-out-len : goal.returns-then-out-len
returns-then-out-len c =
    parts_lack c.args.rule.now _ _ _ _ (c.in-Ok.ensures {u = tt}) c.head-head.ensures c.part.ensures c.found_of-found.ensures c.len.ensures c.len-2.ensures c.if-out-len.true

pub returns : goal.returns
returns c =
    let w = parts_write c.args.rule.now _ _ _ _ (c.in-Ok.ensures {u = tt}) c.head-head.ensures c.part.ensures c.found_of-found.ensures c.len.ensures c.len-2.ensures c.new-out.ensures.same_bytes c.new-out.ensures.empty c.if-out-len.false c.write.ensures c.write-2.ensures in
    search rules

use Rattle.std.proofs.Common.{arith}
use Rattle.sdv_table.proofs.Small.{others_small}
use Rattle.sdv_table.proofs.row.+guards_word.Goals as goal

pub overflow_mul-result : goal.overflow_mul-result
overflow_mul-result t c =
    let small = others_small c.args.guards.now c.guards_word.result c.requires c.in-len1-up.len_at_least c.guards_word.ensures in
    omega arith

pub overflow_add-result : goal.overflow_add-result
overflow_add-result t c =
    let small = others_small c.args.guards.now c.guards_word.result c.requires c.in-len1-up.len_at_least c.guards_word.ensures in
    let code = c.guard_code.ensures.small in
    omega arith

use Rattle.std.proofs.Common.{rules, ◌++◌, take}
use Rattle.sdv_text.proofs.WrittenLaws.{appends_more, rest_split}
use Rattle.sdv_text.proofs.write_text.Goals as goal

pub loop-rest-preserved : goal.loop-rest-preserved
loop-rest-preserved g c =
    let i = c.loop-rest.invariant in
    let n = c.in-Ok.count in
    let rest = c.loop-rest.rest.now in
    (i.0 ++ take n rest, rest_split n c.args.text.now i.0 rest c.in-Ok.ensures.bound i.1, appends_more _ _ _ i.0 (take n rest) i.2 c.in-Ok.ensures.bytes)

pub returns-in-Ok-eq0 : goal.returns-in-Ok-eq0
returns-in-Ok-eq0 g c = search rules

pub returns-in-Err : goal.returns-in-Err
returns-in-Err g c = search rules

use Rattle.std.proofs.Common.{rules}
use Rattle.sdv_explain.specs.Described.{Tells}
use Rattle.sdv_explain.proofs.ScheduleLaws.{both_told}
use Rattle.sdv_explain.proofs.describing.schedule.describe_given.Goals as goal

pub returns-in-Some : goal.returns-in-Some
returns-in-Some c =
    let told : Tells c.args.text.now c.in_ok-page.page = search rules in
    rw c.in-Some.is
    (both_told c.args.text.now c.in-Some.bytes.now c.in_ok-page.page c.wrong_line.result c.beside.result told c.wrong_line.ensures
    c.beside.ensures.fault c.beside.ensures.misfit)

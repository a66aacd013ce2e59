use Rattle.std.proofs.Common.{refl, option_map}
use Rattle.sdv_program.specs.declared.fault.Fault.TheVariants.{Memory}
use Rattle.sdv_program.specs.Outcomes.{Reports}
use Rattle.sdv_program.proofs.OutcomeLaws.{failed}
use Rattle.sdv_program.proofs.StartLaws.{keeps_same}
use Rattle.sdv_commands.proofs.ReportLaws.{reports}
use Rattle.sdv_commands.specs.Describe.{HasNoPage, IsPageOf}
use Rattle.sdv_commands.proofs.describe.describe_text.Goals as goal

pub returns-in_err-words : goal.returns-in_err-words
returns-in_err-words g c =
    let known = g.O.Write.contents c.args.out.now in
    failed (λ outcome. Reports (IsPageOf c.args.description.now (option_map (λ bytes. bytes.now) c.args.schedule)) HasNoPage outcome known known) Memory c.from_residual.result
    c.from_residual.ensures.1 (keeps_same known)

pub returns : goal.returns
returns g c =
    let page = c.in_ok-words.field-0 in
    reports (IsPageOf c.args.description.now (option_map (λ bytes. bytes.now) c.args.schedule)) HasNoPage (g.O.Write.contents c.args.out.now)
    (g.O.Write.contents c.print_report.new.out) c.told_by.result page.words.items _ c.told_by.ensures.can
    (page, c.in_ok-words.ensures, c.told_by.ensures.same, refl) (rw c.deref.ensures.value at c.print_report.ensures)

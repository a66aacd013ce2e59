use Rattle.sdv_program.specs.declared.fault.Fault.TheVariants.{Memory}
use Rattle.sdv_program.specs.Outcomes.{Reports}
use Rattle.sdv_program.proofs.OutcomeLaws.{failed}
use Rattle.sdv_program.proofs.StartLaws.{keeps_same}
use Rattle.sdv_commands.specs.Explain.{HasNoAnswer, IsExplanation}
use Rattle.sdv_commands.proofs.ReportLaws.{reports}
use Rattle.sdv_commands.proofs.explain.explain_text.Goals as goal

pub returns-in_err-page : goal.returns-in_err-page
returns-in_err-page g c =
    let known = g.O.Write.contents c.args.out.now in
    failed (λ outcome. Reports (IsExplanation c.args.script.now) HasNoAnswer outcome known known) Memory c.from_residual.result
    c.from_residual.ensures.1 (keeps_same known)

pub returns : goal.returns
returns g c =
    let report = c.in_ok-page.field-0 in
    reports (IsExplanation c.args.script.now) HasNoAnswer (g.O.Write.contents c.args.out.now) (g.O.Write.contents c.print_report.new.out)
    report.told report.page.items _ c.in_ok-page.ensures.can c.in_ok-page.ensures.is (rw c.deref.ensures.value at c.print_report.ensures)

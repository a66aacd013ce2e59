use Rattle.std.proofs.Common.{inr}
use Rattle.sdv_program.specs.declared.fault.Fault.TheVariants.{Memory}
use Rattle.sdv_program.specs.Outcomes.{Reports}
use Rattle.sdv_program.proofs.OutcomeLaws.{failed}
use Rattle.sdv_program.proofs.StartLaws.{keeps_same}
use Rattle.sdv_commands.proofs.ReportLaws.{reports}
use Rattle.sdv_commands.proofs.ScriptFaultLaws.{by_script}
use Rattle.sdv_commands.specs.Graph.{IsDrawing, IsUndrawn}
use Rattle.sdv_commands.proofs.graph.graph_text.Goals as goal

pub returns-in_err-script : goal.returns-in_err-script
returns-in_err-script g c =
    let script = c.args.script.now in
    let known = g.O.Write.contents c.args.out.now in
    failed (λ outcome. Reports (IsDrawing c.args.no_faults script) (IsUndrawn script) outcome known known) _ c.from_residual.result c.from_residual.ensures.1
    (by_script (λ outcome. Reports (IsDrawing c.args.no_faults script) (IsUndrawn script) outcome known known)
    c.in_err-script.field-0.0.kind c.in_err-script.field-0.0 (λ other. inr (c.in_err-script.ensures.only other, keeps_same known)) (keeps_same known))

pub returns-in_err-page : goal.returns-in_err-page
returns-in_err-page g c =
    let script = c.args.script.now in
    let known = g.O.Write.contents c.args.out.now in
    failed (λ outcome. Reports (IsDrawing c.args.no_faults script) (IsUndrawn script) outcome known known) Memory c.from_residual-in_err-page.result
    c.from_residual-in_err-page.ensures.1 (keeps_same known)

pub returns : goal.returns
returns g c =
    let script = c.args.script.now in
    let report = c.in_ok-page.field-0 in
    reports (IsDrawing c.args.no_faults script) (IsUndrawn script) (g.O.Write.contents c.args.out.now)
    (g.O.Write.contents c.print_report.new.out) report.told report.page.items _ c.in_ok-page.ensures.can
    (c.in_ok-script.script, record { same = c.in_ok-script.ensures.text; is_script = c.in_ok-script.ensures.script }, c.in_ok-page.ensures.is)
    (rw c.deref.ensures.value at c.print_report.ensures)

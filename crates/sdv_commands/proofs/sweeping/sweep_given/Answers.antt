use Rattle.clap.specs.Walk.{texts}
use Rattle.sdv_commands.specs.Sweep.{AreSwept, AreUnswept}
use Rattle.sdv_commands.proofs.ReportLaws.{reports}
use Rattle.sdv_commands.proofs.SweepLaws.{unswept}
use Rattle.sdv_commands.proofs.sweeping.sweep_given.Goals as goal

pub returns-in_err-report : goal.returns-in_err-report
returns-in_err-report g c =
    let files = g.S.Store.known c.args.files.now in
    let given = c.args.given.now in
    let more = texts c.args.names.now.more_cards.items in
    unswept files given.script.now more given.card.now given.image.now
    (AreSwept files more given.script.now given.card.now given.image.now given.input.now) (g.O.Write.contents c.args.out.now)
    c.in_err-report.field-0.0 c.in_err-report.ensures.refused c.from_residual.result c.from_residual.ensures.1

pub returns : goal.returns
returns g c =
    let files = g.S.Store.known c.args.files.now in
    let given = c.args.given.now in
    let more = texts c.args.names.now.more_cards.items in
    reports (AreSwept files more given.script.now given.card.now given.image.now given.input.now)
    (AreUnswept files more given.script.now given.card.now given.image.now)
    (g.O.Write.contents c.args.out.now) (g.O.Write.contents c.print_report.new.out) c.in_ok-report.report.told c.in_ok-report.report.page.items _
    c.in_ok-report.ensures.can c.in_ok-report.ensures.swept
    (rw c.deref.ensures.value at c.print_report.ensures)

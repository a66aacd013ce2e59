use Rattle.clap.specs.Words.{Text}
use Rattle.sdv_program.specs.declared.fault.Fault.{Fault}
use Rattle.sdv_program.specs.declared.fault.Fault.TheVariants.{Memory}
use Rattle.sdv_program.proofs.OutcomeLaws.{failed, prints}
use Rattle.sdv_program.proofs.StartLaws.{keeps_same}
use Rattle.sdv_commands.specs.Page.{PrintsPage}
use Rattle.sdv_commands.proofs.page.print_page.Goals as goal

pub returns-in_err-text : goal.returns-in_err-text
returns-in_err-text g c =
    let known = g.O.Write.contents c.args.out.now in
    failed (λ outcome. PrintsPage outcome known known) Memory c.from_residual.result c.from_residual.ensures.1 (keeps_same known)

pub returns : goal.returns
returns g c =
    prints (g.O.Write.contents c.args.out.now) (g.O.Write.contents c.print_text.new.out) (λ (page : Text). Unit {0}) (λ (fault : Fault). ⊥)
    c.deref.result.now _ tt c.print_text.ensures

use Rattle.std.proofs.Common.{subst, ◌≡◌, Err, rules}
use Rattle.sdv_audit.specs.declared.style.Style.{Style}
use Rattle.sdv_audit.specs.declared.style.Tally.{Tally}
use Rattle.sdv_audit.specs.declared.texts.Count.{Count}
use Rattle.sdv_audit.specs.Report.{AddsEnding, tally_of}
use Rattle.sdv_audit.specs.AuditedTrace.{Finished}
use Rattle.sdv_audit.specs.Faults.{fault_of_note}
use Rattle.sdv_audit.proofs.NoteLaws.{adds_ending}
use Rattle.sdv_audit.proofs.TraceLaws.{ends_note}
use Rattle.sdv_audit.proofs.trace.end_report.Goals as goal

pub returns : goal.returns
returns g c k style trace old w =
    let f : Finished c.finish.new.self.report k style trace.lines old (g.W.Write.contents c.finish.new.out) =
    c.in_ok-finish.ensures.finished k style trace.lines old w.written in (
      adds_ending k style trace old (g.W.Write.contents c.finish.new.out) (g.W.Write.contents c.finish-2.new.out) f.written_is
          (subst (λ (n : Count). AddsEnding style n (tally_of k style trace.lines) (g.W.Write.contents c.finish.new.out) (g.W.Write.contents c.finish-2.new.out)) w.count
          (subst (λ (t : Tally). AddsEnding style c.args.pending.now.count t (g.W.Write.contents c.finish.new.out) (g.W.Write.contents c.finish-2.new.out)) f.at.tally
          (subst (λ (s : Style). AddsEnding s c.args.pending.now.count c.finish.new.self.report.tally (g.W.Write.contents c.finish.new.out)
          (g.W.Write.contents c.finish-2.new.out)) f.style_is c.in_ok-finish-2.ensures.written))),
      f.at.tally,
    )

pub returns-in_err-finish : goal.returns-in_err-finish
returns-in_err-finish g c k style trace old w =
    let is : c.from_residual.result ≡ Err (fault_of_note c.in_err-finish.field-0.0) = search rules in
    rw is (ends_note c.in_err-finish.field-0.0 k style trace old (g.W.Write.contents c.finish.new.out)
    (λ e. c.in_err-finish.ensures.room e k style trace.lines old w.written))

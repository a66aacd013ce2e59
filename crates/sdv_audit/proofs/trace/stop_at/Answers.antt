use Rattle.std.proofs.Common.{refl, ap, ◌∙◌, true, ◌≡◌, Err, rules}
use Rattle.sdv_audit.specs.Notes.{counted}
use Rattle.sdv_audit.specs.AuditedTrace.{Finished}
use Rattle.sdv_audit.specs.Faults.{fault_of_note}
use Rattle.sdv_audit.proofs.TraceLaws.{stops_at_note}
use Rattle.sdv_audit.proofs.trace.stop_at.Goals as goal

pub returns : goal.returns
returns g c k style trace old w =
    let f : Finished c.finish.new.self.report k style trace.lines old (g.W.Write.contents c.finish.new.out) =
    c.in_ok-finish.ensures.finished k style trace.lines old w.written in
    (refl, c.counted-line.ensures ∙ ap (λ n. counted true n.last) w.count, f.written_is)

pub returns-in_err-finish : goal.returns-in_err-finish
returns-in_err-finish g c k style trace old w =
    let is : c.from_residual.result ≡ Err (fault_of_note c.in_err-finish.field-0.0) = search rules in
    rw is (stops_at_note c.in_err-finish.field-0.0 k style trace old (g.W.Write.contents c.finish.new.out) c.args.fault
    (λ e. c.in_err-finish.ensures.room e k style trace.lines old w.written))

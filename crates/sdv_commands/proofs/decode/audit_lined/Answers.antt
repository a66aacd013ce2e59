use Rattle.std.proofs.Common.{◌∙◌, ap, refl, subst, ℕ, List, Option, Result, Ok, Err, option_map}
use Rattle.sdv_audit.specs.declared.fault.TraceFault.{TraceFault}
use Rattle.sdv_decode.specs.Beside.{AuditsBeside}
use Rattle.sdv_decode.specs.declared.beside.Beside.{Beside}
use Rattle.sdv_program.proofs.OutcomeLaws.{failed}
use Rattle.sdv_commands.specs.Decode.{AuditsLined, plain}
use Rattle.sdv_commands.specs.Report.{found_if}
use Rattle.sdv_commands.proofs.decode.audit_lined.Goals as goal

pub returns-in_err-audited : goal.returns-in_err-audited
returns-in_err-audited g c =
    let graph = c.args.graph.now in
    let trace = c.args.traced.trace.now in
    let given : Option (List ℕ) = option_map (λ bytes. bytes.now) c.args.traced.given in
    let before = g.O.Write.contents c.args.out.now in
    let after = g.O.Write.contents c.audit_beside.new.out in
    failed (λ outcome. AuditsLined graph trace given outcome before after) _ c.from_residual.result c.from_residual.ensures.1 (record {
      result = Err c.in_err-audited.field-0.0;
      audited = subst (λ (r : Result Beside TraceFault). AuditsBeside graph given trace plain before after r) c.in_err-audited.was
          c.audit_beside.ensures;
      outcome_is = refl;
    })

pub returns : goal.returns
returns g c =
    let graph = c.args.graph.now in
    let trace = c.args.traced.trace.now in
    let given : Option (List ℕ) = option_map (λ bytes. bytes.now) c.args.traced.given in
    let before = g.O.Write.contents c.args.out.now in
    let after = g.O.Write.contents c.audit_beside.new.out in
    record {
      result = Ok c.in_ok-audited.audited;
      audited = subst (λ (r : Result Beside TraceFault). AuditsBeside graph given trace plain before after r) c.in_ok-audited.was
          c.audit_beside.ensures;
      outcome_is = c.end_of.ensures ∙ ap found_if c.has_findings.ensures;
    }

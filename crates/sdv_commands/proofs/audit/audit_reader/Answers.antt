use Rattle.std.proofs.Common.{◌≡◌, rules, subst, false, true, Result, Ok, Err}
use Rattle.sdv_audit.specs.AuditedTrace.{Audits}
use Rattle.sdv_audit.specs.Notes.{has_findings}
use Rattle.sdv_audit.specs.declared.fault.TraceFault.{TraceFault}
use Rattle.sdv_audit.specs.declared.style.Tally.{Tally}
use Rattle.sdv_program.proofs.OutcomeLaws.{failed}
use Rattle.sdv_commands.specs.Audit.{AuditsReader}
use Rattle.sdv_commands.proofs.AuditLaws.{by_fault, by_tally}
use Rattle.sdv_commands.proofs.audit.audit_reader.Goals as goal

pub returns-in_err-tally : goal.returns-in_err-tally
returns-in_err-tally g c =
    let trace = g.R.Read.remaining c.args.reader.now in
    let left = g.R.Read.remaining c.audit_trace.new.reader in
    let before = g.O.Write.contents c.args.out.now in
    let after = g.O.Write.contents c.audit_trace.new.out in
    let audited : Audits c.args.kind c.args.style trace left before after (Err c.in_err-tally.field-0.0) =
    subst (λ (r : Result Tally TraceFault). Audits c.args.kind c.args.style trace left before after r) c.in_err-tally.was c.audit_trace.ensures in
    failed (λ outcome. AuditsReader c.args.kind c.args.style trace outcome before after) _ c.from_residual.result c.from_residual.ensures.1
    (by_fault c.args.kind c.args.style trace left before after c.in_err-tally.field-0.0 audited)

pub returns-then-has_findings : goal.returns-then-has_findings
returns-then-has_findings g c =
    let trace = g.R.Read.remaining c.args.reader.now in
    let left = g.R.Read.remaining c.audit_trace.new.reader in
    let before = g.O.Write.contents c.args.out.now in
    let after = g.O.Write.contents c.audit_trace.new.out in
    let audited : Audits c.args.kind c.args.style trace left before after (Ok c.in_ok-tally.tally) =
    subst (λ (r : Result Tally TraceFault). Audits c.args.kind c.args.style trace left before after r) c.in_ok-tally.was c.audit_trace.ensures in
    let found : true ≡ has_findings c.in_ok-tally.tally = search rules in
    by_tally c.args.kind c.args.style trace left before after c.in_ok-tally.tally true found audited

pub returns : goal.returns
returns g c =
    let trace = g.R.Read.remaining c.args.reader.now in
    let left = g.R.Read.remaining c.audit_trace.new.reader in
    let before = g.O.Write.contents c.args.out.now in
    let after = g.O.Write.contents c.audit_trace.new.out in
    let audited : Audits c.args.kind c.args.style trace left before after (Ok c.in_ok-tally.tally) =
    subst (λ (r : Result Tally TraceFault). Audits c.args.kind c.args.style trace left before after r) c.in_ok-tally.was c.audit_trace.ensures in
    let found : false ≡ has_findings c.in_ok-tally.tally = search rules in
    by_tally c.args.kind c.args.style trace left before after c.in_ok-tally.tally false found audited

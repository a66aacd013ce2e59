use Rattle.std.proofs.Common.{◌≡◌, refl, rules, Some, None}
use Rattle.sdv_program.specs.Requests.{audit_names_of}
use Rattle.sdv_program.specs.declared.fault.Fault.TheVariants.{Usage, File, Memory}
use Rattle.sdv_program.proofs.OutcomeLaws.{failed}
use Rattle.sdv_program.proofs.StartLaws.{keeps_same}
use Rattle.sdv_commands.specs.Audit.{AuditEnds, audits, broken_off, no_kind}
use Rattle.sdv_commands.specs.Batch.{kind_named}
use Rattle.sdv_commands.proofs.AuditLaws.{of_reader, untraced}
use Rattle.sdv_commands.proofs.audit.audit_file.Goals as goal

pub returns-in_err-kind : goal.returns-in_err-kind
returns-in_err-kind g c =
    let known = g.O.Write.contents c.args.out.now in
    let none : kind_named c.args.words.kind.now ≡ None = search rules in
    let usage : c.in_err-kind.field-0.0 ≡ Usage = search rules in
    failed (λ outcome. AuditEnds (g.S.Store.known c.args.files.now) (audit_names_of c.args.words) outcome known known) Usage c.from_residual.result
    (rw usage at c.from_residual.ensures.1) (no_kind none refl (keeps_same known))

pub returns-in_err-source : goal.returns-in_err-source
returns-in_err-source g c =
    let named : kind_named c.args.words.kind.now ≡ Some c.in_ok-kind.kind = search rules in
    let missing : c.in_err-source.field-0.0 ≡ File c.args.words.trace = search rules in
    untraced (g.S.Store.known c.args.files.now) (audit_names_of c.args.words) c.in_ok-kind.kind named _ (File c.args.words.trace)
    (refl, c.open.ensures.unread (search rules)) c.from_residual-in_err-source.result (rw missing at c.from_residual-in_err-source.ensures.1)

pub returns-in_err-reader : goal.returns-in_err-reader
returns-in_err-reader g c =
    let named : kind_named c.args.words.kind.now ≡ Some c.in_ok-kind.kind = search rules in
    let memory : c.in_err-reader.field-0.0 ≡ Memory = search rules in
    untraced (g.S.Store.known c.args.files.now) (audit_names_of c.args.words) c.in_ok-kind.kind named _ Memory tt
    c.from_residual-in_err-reader.result (rw memory at c.from_residual-in_err-reader.ensures.1)

pub returns-then-close : goal.returns-then-close
returns-then-close g c =
    let named : kind_named c.args.words.kind.now ≡ Some c.in_ok-kind.kind = search rules in
    audits (of_reader (g.S.Store.known c.args.files.now) (audit_names_of c.args.words) c.in_ok-kind.kind named _ _ _ _ _
    c.in_ok-reader.ensures.remaining (search rules) (search rules) c.audit_reader-audited.ensures) (search rules)

pub returns-else-close : goal.returns-else-close
returns-else-close g c =
    let named : kind_named c.args.words.kind.now ≡ Some c.in_ok-kind.kind = search rules in
    broken_off _ (of_reader (g.S.Store.known c.args.files.now) (audit_names_of c.args.words) c.in_ok-kind.kind named _ _ _ _ _
    c.in_ok-reader.ensures.remaining (search rules) (search rules) c.audit_reader-audited.ensures) (refl, search rules)

use Rattle.std.proofs.Common.{◌≡◌, IfErr, refl, rules}
use Rattle.sdv_commands.specs.Certify.{HasNone, IsCertificate, IsCertificateOfText}
use Rattle.sdv_facts.specs.CertificateText.{text_of}
use Rattle.sdv_program.specs.declared.fault.Fault.TheVariants.{Output}
use Rattle.sdv_program.specs.Outcomes.{Prints}
use Rattle.sdv_program.proofs.OutcomeLaws.{failed, printed, prints}
use Rattle.sdv_program.proofs.StartLaws.{keeps_same}
use Rattle.sdv_commands.proofs.CertifyLaws.{certificate_of_text, refused}
use Rattle.sdv_commands.proofs.ScriptFaultLaws.{by_script}
use Rattle.sdv_commands.proofs.certify.certify_text.Goals as goal

pub returns-in_err-script : goal.returns-in_err-script
returns-in_err-script g c =
    let known = g.O.Write.contents c.args.out.now in
    failed (λ outcome. Prints (IsCertificate c.args.script.now) (HasNone c.args.script.now) outcome known known)
    _ c.from_residual.result c.from_residual.ensures.1
    (by_script (λ outcome. Prints (IsCertificate c.args.script.now) (HasNone c.args.script.now) outcome known known)
    c.in_err-script.field-0.0.kind c.in_err-script.field-0.0 (λ other. (c.in_err-script.ensures.only other, keeps_same known)) (keeps_same known))

pub returns-in_err-certificate : goal.returns-in_err-certificate
returns-in_err-certificate g c =
    let known = g.O.Write.contents c.args.out.now in
    failed (λ outcome. Prints (IsCertificate c.args.script.now) (HasNone c.args.script.now) outcome known known)
    _ c.from_residual-in_err-certificate.result c.from_residual-in_err-certificate.ensures.1
    (refused c.args.script.now c.in_ok-script.script c.in_ok-script.ensures.text c.in_ok-script.ensures.script known
    c.in_err-certificate.field-0.0 c.in_err-certificate.ensures.refused)

pub returns : goal.returns
returns g c =
    let before = g.O.Write.contents c.args.out.now in
    let after = g.O.Write.contents c.write.new.out in
    let facts = c.in_ok-certificate.certificate in
    let output : IfErr c.map_err.result (λ fault. fault ≡ Output) = search rules in
    let certificate : IsCertificateOfText c.args.script.now facts =
    certificate_of_text c.args.script.now c.in_ok-script.script facts c.in_ok-script.ensures.text c.in_ok-script.ensures.script
    c.in_ok-certificate.ensures.certificate c.in_ok-certificate.ensures.version c.in_ok-certificate.ensures.closed c.in_ok-certificate.ensures.limits in
    prints before after (IsCertificate c.args.script.now) (HasNone c.args.script.now) (text_of facts) _ (facts, certificate, refl)
    (printed before after (text_of facts) c.write.result c.map_err.result c.map_err.ensures.variant output c.write.ensures)

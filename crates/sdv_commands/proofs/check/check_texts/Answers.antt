use Rattle.std.proofs.Common.{◌≡◌, IfErr, refl, rules}
use Rattle.sdv_program.specs.Fault.{fault_of_verify}
use Rattle.sdv_program.specs.Refused.{Refuses}
use Rattle.sdv_program.specs.declared.fault.Fault.TheVariants.{Output}
use Rattle.sdv_text.specs.Written.{Writes}
use Rattle.sdv_program.specs.Outcomes.{Prints}
use Rattle.sdv_program.proofs.OutcomeLaws.{failed, printed, prints}
use Rattle.sdv_commands.specs.Check.{IsBoundLine, accepted_text}
use Rattle.sdv_commands.proofs.CheckLaws.{unaccepted}
use Rattle.sdv_commands.proofs.check.check_texts.Goals as goal

pub returns-in_err-accepted : goal.returns-in_err-accepted
returns-in_err-accepted g c =
    let script = c.args.script.now in
    let certificate = c.args.certificate.now in
    let known = g.O.Write.contents c.args.out.now in
    let refuses : Refuses script certificate (fault_of_verify c.in_err-accepted.field-0.0) = search rules in
    failed (λ outcome. Prints (IsBoundLine script certificate) (Refuses script certificate) outcome known known)
    _ c.from_residual.result c.from_residual.ensures.1 (unaccepted script certificate known c.in_err-accepted.field-0.0 refuses)

pub returns : goal.returns
returns g c =
    let script = c.args.script.now in
    let certificate = c.args.certificate.now in
    let before = g.O.Write.contents c.args.out.now in
    let after = g.O.Write.contents c.print_bound.new.out in
    let accepted = c.in_ok-accepted.accepted in
    let bound : c.bound.result ≡ accepted.bound = search rules in
    let output : IfErr c.map_err.result (λ fault. fault ≡ Output) = search rules in
    let written : Writes before after c.print_bound.result (accepted_text accepted.bound) = rw bound at c.print_bound.ensures in
    prints before after (IsBoundLine script certificate) (Refuses script certificate) (accepted_text accepted.bound) _
    (accepted, c.in_ok-accepted.ensures.verified, c.in_ok-accepted.ensures.headline, refl)
    (printed before after (accepted_text accepted.bound) c.print_bound.result c.map_err.result c.map_err.ensures.variant output written)

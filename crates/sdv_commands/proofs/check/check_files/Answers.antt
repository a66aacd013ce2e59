use Rattle.std.proofs.Common.{◌≡◌, inr, rules}
use Rattle.std.specs.Prelude.{string_bytes}
use Rattle.clap.specs.Words.{Text}
use Rattle.sdv_program.specs.Refused.{Refuses}
use Rattle.sdv_program.specs.Files.{Files}
use Rattle.sdv_program.specs.Outcomes.{Ending, OverText, Prints}
use Rattle.sdv_program.proofs.OutcomeLaws.{no_text}
use Rattle.sdv_commands.specs.Check.{IsBoundLine}
use Rattle.sdv_commands.proofs.check.check_files.Goals as goal

abbrev checks : (script certificate : Text) → Ending
checks script certificate = Prints (IsBoundLine script certificate) (Refuses script certificate)

pub returns-in_err-script : goal.returns-in_err-script
returns-in_err-script g c =
    let files : Files = g.S.Store.known c.args.files.now in
    no_text files c.args.script (λ (script : Text). OverText files c.args.certificate.now (checks script)) (g.O.Write.contents c.args.out.now)
    c.in_err-script.field-0.0 c.in_err-script.ensures.refused c.in_err-script.ensures.no_text c.from_residual.result c.from_residual.ensures.1

pub returns-in_err-certificate : goal.returns-in_err-certificate
returns-in_err-certificate g c =
    inr (
      string_bytes c.in_ok-script.script,
      c.in_ok-script.ensures.given,
      no_text (g.S.Store.known c.args.files.now) c.args.certificate (checks (string_bytes c.in_ok-script.script)) (g.O.Write.contents c.args.out.now)
          c.in_err-certificate.field-0.0 c.in_err-certificate.ensures.refused c.in_err-certificate.ensures.no_text
          c.from_residual-in_err-certificate.result c.from_residual-in_err-certificate.ensures.1,
    )

pub returns : goal.returns
returns g c =
    let script : c.as_str.result.now ≡ string_bytes c.in_ok-script.script = search rules in
    let certificate : c.as_str-2.result.now ≡ string_bytes c.in_ok-certificate.certificate = search rules in
    inr (
      string_bytes c.in_ok-script.script,
      c.in_ok-script.ensures.given,
      inr (string_bytes c.in_ok-certificate.certificate, c.in_ok-certificate.ensures.given, rw (script, certificate) at c.check_texts.ensures),
    )

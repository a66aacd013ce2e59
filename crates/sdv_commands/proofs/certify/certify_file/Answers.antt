use Rattle.std.proofs.Common.{◌≡◌, inr, rules}
use Rattle.std.specs.Prelude.{string_bytes}
use Rattle.clap.specs.Words.{Text}
use Rattle.sdv_program.specs.Outcomes.{Prints}
use Rattle.sdv_program.proofs.OutcomeLaws.{no_text}
use Rattle.sdv_commands.specs.Certify.{IsCertificate, HasNone}
use Rattle.sdv_commands.proofs.certify.certify_file.Goals as goal

pub returns-in_err-script : goal.returns-in_err-script
returns-in_err-script g c =
    no_text (g.S.Store.known c.args.files.now) c.args.script (λ (script : Text). Prints (IsCertificate script) (HasNone script))
    (g.O.Write.contents c.args.out.now)
    c.in_err-script.field-0.0 c.in_err-script.ensures.refused c.in_err-script.ensures.no_text c.from_residual.result c.from_residual.ensures.1

pub returns : goal.returns
returns g c =
    let text : c.as_str.result.now ≡ string_bytes c.in_ok-script.script = search rules in
    inr (string_bytes c.in_ok-script.script, c.in_ok-script.ensures.given, rw text at c.certify_text.ensures)

use Rattle.std.proofs.Common.{◌≡◌, inr, rules}
use Rattle.std.specs.Prelude.{string_bytes}
use Rattle.clap.specs.Words.{Text}
use Rattle.sdv_program.specs.Outcomes.{Reports}
use Rattle.sdv_program.proofs.OutcomeLaws.{no_text}
use Rattle.sdv_commands.specs.Explain.{HasNoAnswer, IsJudgement}
use Rattle.sdv_commands.proofs.explain.judge_file.Goals as goal

pub returns-in_err-certificate : goal.returns-in_err-certificate
returns-in_err-certificate g c =
    no_text (g.S.Store.known c.args.files.now) c.args.file (λ (certificate : Text). Reports (IsJudgement c.args.script.now certificate) HasNoAnswer)
    (g.O.Write.contents c.args.out.now)
    c.in_err-certificate.field-0.0 c.in_err-certificate.ensures.refused c.in_err-certificate.ensures.no_text c.from_residual.result c.from_residual.ensures.1

pub returns : goal.returns
returns g c =
    let text : c.as_str.result.now ≡ string_bytes c.in_ok-certificate.certificate = search rules in
    inr (string_bytes c.in_ok-certificate.certificate, c.in_ok-certificate.ensures.given, rw text at c.judge_texts.ensures)

use Rattle.std.proofs.Common.{◌≡◌, inr, rules, subst}
use Rattle.std.specs.Prelude.{string_bytes}
use Rattle.clap.specs.Words.{Text}
use Rattle.sdv_program.specs.Requests.{explain_names_of}
use Rattle.sdv_program.specs.Outcomes.{outcome_of}
use Rattle.sdv_program.proofs.OutcomeLaws.{no_text}
use Rattle.sdv_commands.specs.Explain.{ExplainsText}
use Rattle.sdv_commands.proofs.explain.explain_file.Goals as goal

pub returns-in_err-script : goal.returns-in_err-script
returns-in_err-script g c =
    let names = explain_names_of c.args.words in
    no_text (g.S.Store.known c.args.files.now) c.args.words.script
    (λ (script : Text). ExplainsText (g.S.Store.known c.args.files.now) script names.certificate) (g.O.Write.contents c.args.out.now)
    c.in_err-script.field-0.0 c.in_err-script.ensures.refused c.in_err-script.ensures.no_text c.from_residual.result c.from_residual.ensures.1

pub returns : goal.returns
returns g c =
    let text : c.as_str.result.now ≡ string_bytes c.in_ok-script.script = search rules in
    let names = explain_names_of c.args.words in
    inr (
      string_bytes c.in_ok-script.script,
      c.in_ok-script.ensures.given,
      subst (λ (script : Text). ExplainsText (g.S.Store.known c.args.files.now) script names.certificate (outcome_of c.explain_given.result)
          (g.O.Write.contents c.args.out.now) (g.O.Write.contents c.explain_given.new.out)) text c.explain_given.ensures,
    )

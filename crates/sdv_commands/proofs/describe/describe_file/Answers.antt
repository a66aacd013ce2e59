use Rattle.std.proofs.Common.{◌≡◌, inr, rules}
use Rattle.std.specs.Prelude.{option_map, string_bytes}
use Rattle.clap.specs.Words.{Text}
use Rattle.sdv_program.proofs.OutcomeLaws.{no_text}
use Rattle.sdv_commands.specs.Describe.{DescribesText}
use Rattle.sdv_commands.proofs.describe.describe_file.Goals as goal

pub returns-in_err-description : goal.returns-in_err-description
returns-in_err-description g c =
    no_text (g.S.Store.known c.args.files.now) c.args.card (λ (text : Text). DescribesText (g.S.Store.known c.args.files.now) text (option_map (λ file. file.now) c.args.schedule))
    (g.O.Write.contents c.args.out.now)
    c.in_err-description.field-0.0 c.in_err-description.ensures.refused c.in_err-description.ensures.no_text c.from_residual.result
    c.from_residual.ensures.1

pub returns : goal.returns
returns g c =
    let text : c.as_str.result.now ≡ string_bytes c.in_ok-description.description = search rules in
    inr (string_bytes c.in_ok-description.description, c.in_ok-description.ensures.given, rw text at c.describe_beside.ensures)

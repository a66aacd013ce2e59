use Rattle.std.proofs.Common.{refl, ap, [], ◌∷◌, ◌++◌, option_map}
use Rattle.sdv_program.specs.Files.{Files}
use Rattle.sdv_commands.specs.Run.{GivesNoInput, as_input, as_output, as_text, some_use}
use Rattle.sdv_commands.proofs.GivenLaws.{optional_unread, text_gave, unread}
use Rattle.sdv_program.specs.Requests.{drive_names_of}
use Rattle.sdv_commands.specs.Drive.{uses_of}
use Rattle.sdv_commands.proofs.drive.given_by.Goals as goal

pub returns-in_err-script-clause-refused : goal.returns-in_err-script-clause-refused
returns-in_err-script-clause-refused g c =
    let files : Files = g.S.Store.known c.args.files.now in
    let names = drive_names_of c.args.names.now in
    unread files (uses_of names) (as_text names.script) c.args.names.now.script refl [] _ refl tt
    c.in_err-script.field-0.0 c.in_err-script.ensures.refused c.in_err-script.ensures.no_text
    c.from_residual.result c.from_residual.ensures.1

pub returns-in_err-certificate-clause-refused : goal.returns-in_err-certificate-clause-refused
returns-in_err-certificate-clause-refused g c =
    let files : Files = g.S.Store.known c.args.files.now in
    let names = drive_names_of c.args.names.now in
    let script = text_gave files names.script c.in_ok-script.script c.in_ok-script.ensures.given in
    unread files (uses_of names) (as_text names.certificate) c.args.names.now.certificate refl (as_text names.script ∷ []) _ refl (script, tt)
    c.in_err-certificate.field-0.0 c.in_err-certificate.ensures.refused c.in_err-certificate.ensures.no_text
    c.from_residual-in_err-certificate.result c.from_residual-in_err-certificate.ensures.1

pub returns-in_err-input-clause-refused : goal.returns-in_err-input-clause-refused
returns-in_err-input-clause-refused g c =
    let files : Files = g.S.Store.known c.args.files.now in
    let names = drive_names_of c.args.names.now in
    let script = text_gave files names.script c.in_ok-script.script c.in_ok-script.ensures.given in
    let certificate = text_gave files names.certificate c.in_ok-certificate.certificate c.in_ok-certificate.ensures.given in
    optional_unread files (uses_of names) as_input (λ file. refl) (GivesNoInput files) (λ file none. none) c.args.names.now.input
    (as_text names.script ∷ as_text names.certificate ∷ []) (some_use as_output names.output ++ some_use as_output names.trace)
    (λ file is. ap (λ name. as_text names.script ∷ as_text names.certificate ∷ (some_use as_input (option_map (λ f. f.now) name)
    ++ (some_use as_output names.output ++ some_use as_output names.trace))) is)
    (script, (certificate, tt))
    c.in_err-input.field-0.0 c.in_err-input.ensures.refused c.from_residual-in_err-input.result c.from_residual-in_err-input.ensures.1

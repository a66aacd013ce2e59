use Rattle.std.proofs.Common.{refl, ap, List, [], ◌∷◌, ◌++◌, option_map}
use Rattle.sdv_program.specs.Requests.{RunNames, names_of}
use Rattle.sdv_program.specs.Files.{Files}
use Rattle.sdv_commands.specs.Run.{FileUse, GivesNoInput, as_image, as_input, as_output, as_schedule, as_text, some_use, uses_of}
use Rattle.sdv_commands.specs.RunImages.{image_given}
use Rattle.sdv_commands.proofs.GivenLaws.{four, four_used, input_place, optional_unread, schedule_gave, text_gave, unread}
use Rattle.sdv_commands.proofs.given.given_by.Goals as goal

-- the files that are made or emptied
abbrev made : RunNames → List FileUse
made names = some_use as_output names.output ++ some_use as_output names.registers

pub returns-in_err-script-clause-refused : goal.returns-in_err-script-clause-refused
returns-in_err-script-clause-refused g c =
    let files : Files = g.S.Store.known c.args.files.now in
    unread files (uses_of (names_of c.args.names.now)) (as_text c.args.names.now.script.now) c.args.names.now.script refl [] _ refl tt
    c.in_err-script.field-0.0 c.in_err-script.ensures.refused c.in_err-script.ensures.no_text
    c.from_residual.result c.from_residual.ensures.1

pub returns-in_err-certificate-clause-refused : goal.returns-in_err-certificate-clause-refused
returns-in_err-certificate-clause-refused g c =
    let files : Files = g.S.Store.known c.args.files.now in
    let names = names_of c.args.names.now in
    let script = text_gave files names.script c.in_ok-script.script c.in_ok-script.ensures.given in
    unread files (uses_of names) (as_text names.certificate) c.args.names.now.certificate refl (as_text names.script ∷ []) _ refl (script, tt)
    c.in_err-certificate.field-0.0 c.in_err-certificate.ensures.refused c.in_err-certificate.ensures.no_text
    c.from_residual-in_err-certificate.result c.from_residual-in_err-certificate.ensures.1

pub returns-in_err-card-clause-refused : goal.returns-in_err-card-clause-refused
returns-in_err-card-clause-refused g c =
    let files : Files = g.S.Store.known c.args.files.now in
    let names = names_of c.args.names.now in
    let script = text_gave files names.script c.in_ok-script.script c.in_ok-script.ensures.given in
    let certificate = text_gave files names.certificate c.in_ok-certificate.certificate c.in_ok-certificate.ensures.given in
    unread files (uses_of names) (as_text names.card) c.args.names.now.card refl (as_text names.script ∷ as_text names.certificate ∷ []) _ refl
    (script, (certificate, tt))
    c.in_err-card.field-0.0 c.in_err-card.ensures.refused c.in_err-card.ensures.no_text
    c.from_residual-in_err-card.result c.from_residual-in_err-card.ensures.1

pub returns-in_err-image-clause-refused : goal.returns-in_err-image-clause-refused
returns-in_err-image-clause-refused g c =
    let files : Files = g.S.Store.known c.args.files.now in
    let names = names_of c.args.names.now in
    let script = text_gave files names.script c.in_ok-script.script c.in_ok-script.ensures.given in
    let certificate = text_gave files names.certificate c.in_ok-certificate.certificate c.in_ok-certificate.ensures.given in
    let card = text_gave files names.card c.in_ok-card.card c.in_ok-card.ensures.given in
    unread files (uses_of names) (as_image names.image) c.args.names.now.image refl
    (as_text names.script ∷ as_text names.certificate ∷ as_text names.card ∷ []) _ refl (script, (certificate, (card, tt)))
    c.in_err-image.field-0.0 c.in_err-image.ensures.refused c.in_err-image.ensures.unusable
    c.from_residual-in_err-image.result c.from_residual-in_err-image.ensures.1

pub returns-in_err-codes-clause-refused : goal.returns-in_err-codes-clause-refused
returns-in_err-codes-clause-refused g c =
    let files : Files = g.S.Store.known c.args.files.now in
    let names = names_of c.args.names.now in
    let script = text_gave files names.script c.in_ok-script.script c.in_ok-script.ensures.given in
    let certificate = text_gave files names.certificate c.in_ok-certificate.certificate c.in_ok-certificate.ensures.given in
    let card = text_gave files names.card c.in_ok-card.card c.in_ok-card.ensures.given in
    optional_unread files (uses_of names) as_schedule (λ file. refl) files.unread (λ file unread. unread) c.args.names.now.schedule (four files names [])
    (some_use as_input names.input ++ made names)
    (λ file is. ap (λ name. four files names [] ++ (some_use as_schedule (option_map (λ f. f.now) name)
    ++ (some_use as_input names.input ++ made names))) is)
    (four_used files names script certificate card (image_given g.S.Image.BlockFile.byte_count g.S.Image.BlockFile.blocks c.in_ok-image.image)
    c.in_ok-image.ensures.given [] tt)
    c.in_err-codes.field-0.0 c.in_err-codes.ensures.refused c.from_residual-in_err-codes.result c.from_residual-in_err-codes.ensures.1

pub returns-in_err-input-clause-refused : goal.returns-in_err-input-clause-refused
returns-in_err-input-clause-refused g c =
    let files : Files = g.S.Store.known c.args.files.now in
    let names = names_of c.args.names.now in
    let script = text_gave files names.script c.in_ok-script.script c.in_ok-script.ensures.given in
    let certificate = text_gave files names.certificate c.in_ok-certificate.certificate c.in_ok-certificate.ensures.given in
    let card = text_gave files names.card c.in_ok-card.card c.in_ok-card.ensures.given in
    optional_unread files (uses_of names) as_input (λ file. refl) (GivesNoInput files) (λ file none. none) c.args.names.now.input
    (four files names (some_use as_schedule names.schedule)) (made names)
    (λ file is. input_place files names names.schedule names.input file.now (made names) (ap (option_map (λ f. f.now)) is))
    (four_used files names script certificate card (image_given g.S.Image.BlockFile.byte_count g.S.Image.BlockFile.blocks c.in_ok-image.image)
    c.in_ok-image.ensures.given (some_use as_schedule names.schedule)
    (schedule_gave files names.schedule c.in_ok-codes.codes.items c.in_ok-codes.ensures.given))
    c.in_err-input.field-0.0 c.in_err-input.ensures.refused c.from_residual-in_err-input.result c.from_residual-in_err-input.ensures.1

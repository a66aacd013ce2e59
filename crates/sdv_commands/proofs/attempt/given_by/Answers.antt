use Rattle.std.proofs.Common.{refl, ap, [], ◌∷◌, ◌++◌, option_map}
use Rattle.sdv_program.specs.Requests.{try_names_of}
use Rattle.sdv_program.specs.Files.{Files}
use Rattle.sdv_commands.specs.Run.{GivesNoInput, as_image, as_input, as_output, as_schedule, as_text, some_use}
use Rattle.sdv_commands.specs.RunImages.{image_given}
use Rattle.sdv_commands.proofs.GivenLaws.{optional_unread, text_gave, unread}
use Rattle.sdv_commands.specs.Try.{uses_of}
use Rattle.sdv_commands.proofs.ScheduleLaws.{schedule_unread, schedule_used, unread_for}
use Rattle.sdv_commands.proofs.TryLaws.{input_place, three, three_used}
use Rattle.sdv_commands.proofs.attempt.given_by.Goals as goal

pub returns-in_err-script-clause-refused : goal.returns-in_err-script-clause-refused
returns-in_err-script-clause-refused g c =
    let files : Files = g.S.Store.known c.args.files.now in
    unread_for files (try_names_of c.args.names.now) _ (unread files (uses_of (try_names_of c.args.names.now)) (as_text c.args.names.now.script.now) c.args.names.now.script refl [] _ refl tt
    c.in_err-script.field-0.0 c.in_err-script.ensures.refused c.in_err-script.ensures.no_text
    c.from_residual.result c.from_residual.ensures.1)

pub returns-in_err-card-clause-refused : goal.returns-in_err-card-clause-refused
returns-in_err-card-clause-refused g c =
    let files : Files = g.S.Store.known c.args.files.now in
    let names = try_names_of c.args.names.now in
    let script = text_gave files names.script c.in_ok-script.script c.in_ok-script.ensures.given in
    unread_for files names _ (unread files (uses_of names) (as_text names.card) c.args.names.now.card refl (as_text names.script ∷ []) _ refl (script, tt)
    c.in_err-card.field-0.0 c.in_err-card.ensures.refused c.in_err-card.ensures.no_text
    c.from_residual-in_err-card.result c.from_residual-in_err-card.ensures.1)

pub returns-in_err-image-clause-refused : goal.returns-in_err-image-clause-refused
returns-in_err-image-clause-refused g c =
    let files : Files = g.S.Store.known c.args.files.now in
    let names = try_names_of c.args.names.now in
    let script = text_gave files names.script c.in_ok-script.script c.in_ok-script.ensures.given in
    let card = text_gave files names.card c.in_ok-card.card c.in_ok-card.ensures.given in
    unread_for files names _ (unread files (uses_of names) (as_image names.image) c.args.names.now.image refl
    (as_text names.script ∷ as_text names.card ∷ []) _ refl (script, (card, tt))
    c.in_err-image.field-0.0 c.in_err-image.ensures.refused c.in_err-image.ensures.unusable
    c.from_residual-in_err-image.result c.from_residual-in_err-image.ensures.1)

pub returns-in_err-schedule-clause-refused : goal.returns-in_err-schedule-clause-refused
returns-in_err-schedule-clause-refused g c =
    let files : Files = g.S.Store.known c.args.files.now in
    let names = try_names_of c.args.names.now in
    let script = text_gave files names.script c.in_ok-script.script c.in_ok-script.ensures.given in
    let card = text_gave files names.card c.in_ok-card.card c.in_ok-card.ensures.given in
    let used = three_used files names script card (image_given g.S.Image.BlockFile.byte_count g.S.Image.BlockFile.blocks c.in_ok-image.image)
    c.in_ok-image.ensures.given [] tt in
    schedule_unread files names c.args.names.now.schedule refl c.in_err-schedule.field-0.0 used c.in_err-schedule.ensures.refused
    c.from_residual-in_err-schedule.result c.from_residual-in_err-schedule.ensures.1
    (λ optional. optional_unread files (uses_of names) as_schedule (λ file. refl) files.unread (λ file unread. unread) c.args.names.now.schedule
    (three files names []) (some_use as_input names.input ++ some_use as_output names.output)
    (λ file is. ap (λ name. three files names (some_use as_schedule (option_map (λ f. f.now) name)
    ++ (some_use as_input names.input ++ some_use as_output names.output))) is)
    used c.in_err-schedule.field-0.0 optional c.from_residual-in_err-schedule.result c.from_residual-in_err-schedule.ensures.1)

pub returns-in_err-input-clause-refused : goal.returns-in_err-input-clause-refused
returns-in_err-input-clause-refused g c =
    let files : Files = g.S.Store.known c.args.files.now in
    let names = try_names_of c.args.names.now in
    let script = text_gave files names.script c.in_ok-script.script c.in_ok-script.ensures.given in
    let card = text_gave files names.card c.in_ok-card.card c.in_ok-card.ensures.given in
    unread_for files names _ (optional_unread files (uses_of names) as_input (λ file. refl) (GivesNoInput files) (λ file none. none) c.args.names.now.input
    (three files names (some_use as_schedule names.schedule)) (some_use as_output names.output)
    (λ file is. input_place files names names.schedule names.input file.now (some_use as_output names.output) (ap (option_map (λ f. f.now)) is))
    (three_used files names script card (image_given g.S.Image.BlockFile.byte_count g.S.Image.BlockFile.blocks c.in_ok-image.image)
    c.in_ok-image.ensures.given (some_use as_schedule names.schedule)
    (schedule_used files names.schedule c.in_ok-schedule.schedule c.in_ok-schedule.ensures.given))
    c.in_err-input.field-0.0 c.in_err-input.ensures.refused c.from_residual-in_err-input.result c.from_residual-in_err-input.ensures.1)

use Rattle.std.proofs.Common.{refl, ap, [], ◌∷◌, option_map}
use Rattle.sdv_program.specs.Files.{Files}
use Rattle.sdv_commands.specs.Run.{as_image, as_schedule, as_text, some_use}
use Rattle.sdv_commands.specs.RunImages.{image_given}
use Rattle.sdv_commands.proofs.GivenLaws.{optional_unread, text_gave, unread}
use Rattle.sdv_program.specs.Requests.{card_names_of}
use Rattle.sdv_commands.specs.CardSide.{uses_of}
use Rattle.sdv_commands.proofs.card.given_by.Goals as goal

pub returns-in_err-card-clause-refused : goal.returns-in_err-card-clause-refused
returns-in_err-card-clause-refused g c =
    let files : Files = g.S.Store.known c.args.files.now in
    let names = card_names_of c.args.names.now in
    unread files (uses_of names) (as_text names.card) c.args.names.now.card refl [] _ refl tt
    c.in_err-card.field-0.0 c.in_err-card.ensures.refused c.in_err-card.ensures.no_text
    c.from_residual.result c.from_residual.ensures.1

pub returns-in_err-image-clause-refused : goal.returns-in_err-image-clause-refused
returns-in_err-image-clause-refused g c =
    let files : Files = g.S.Store.known c.args.files.now in
    let names = card_names_of c.args.names.now in
    let card = text_gave files names.card c.in_ok-card.card c.in_ok-card.ensures.given in
    unread files (uses_of names) (as_image names.image) c.args.names.now.image refl (as_text names.card ∷ []) _ refl (card, tt)
    c.in_err-image.field-0.0 c.in_err-image.ensures.refused c.in_err-image.ensures.unusable
    c.from_residual-in_err-image.result c.from_residual-in_err-image.ensures.1

pub returns-in_err-codes-clause-refused : goal.returns-in_err-codes-clause-refused
returns-in_err-codes-clause-refused g c =
    let files : Files = g.S.Store.known c.args.files.now in
    let names = card_names_of c.args.names.now in
    let card = text_gave files names.card c.in_ok-card.card c.in_ok-card.ensures.given in
    let image = image_given g.S.Image.BlockFile.byte_count g.S.Image.BlockFile.blocks c.in_ok-image.image in
    optional_unread files (uses_of names) as_schedule (λ file. refl) files.unread (λ file unread. unread) c.args.names.now.schedule
    (as_text names.card ∷ as_image names.image ∷ []) []
    (λ file is. ap (λ name. as_text names.card ∷ as_image names.image ∷ some_use as_schedule (option_map (λ f. f.now) name)) is)
    (card, ((image, c.in_ok-image.ensures.given), tt))
    c.in_err-codes.field-0.0 c.in_err-codes.ensures.refused c.from_residual-in_err-codes.result c.from_residual-in_err-codes.ensures.1

use Rattle.sdv_commands.specs.RunImages.{image_given}
use Rattle.sdv_program.specs.Requests.{card_names_of}
use Rattle.sdv_commands.proofs.CardLaws.{comes_to_end, kept_fails}
use Rattle.sdv_commands.proofs.card.serve_card.Goals as goal

pub returns-in_err-serve_kept-clause-fails : goal.returns-in_err-serve_kept-clause-fails
returns-in_err-serve_kept-clause-fails g c =
    kept_fails (g.S.Store.known c.args.files.now) (card_names_of c.args.names) _ _ _ _ c.in_ok-given.given
    (image_given g.S.Image.BlockFile.byte_count g.S.Image.BlockFile.blocks c.in_ok-given.image) c.in_ok-given.ensures.given
    c.in_err-serve_kept.field-0.0 c.in_err-serve_kept.ensures.fails c.from_residual-in_err-serve_kept.result
    c.from_residual-in_err-serve_kept.ensures.1

pub returns-in-Ok-clause-done : goal.returns-in-Ok-clause-done
returns-in-Ok-clause-done g c =
    comes_to_end (g.S.Store.known c.args.files.now) (card_names_of c.args.names) _ _ _ _ c.in_ok-given.given
    (image_given g.S.Image.BlockFile.byte_count g.S.Image.BlockFile.blocks c.in_ok-given.image) c.in_ok-given.ensures.given
    c.in_ok-serve_kept.field-0 _ c.in-Ok.is c.in_ok-serve_kept.ensures.kept

pub returns-clause-fails : goal.returns-clause-fails
returns-clause-fails g c =
    comes_to_end (g.S.Store.known c.args.files.now) (card_names_of c.args.names) _ _ _ _ c.in_ok-given.given
    (image_given g.S.Image.BlockFile.byte_count g.S.Image.BlockFile.blocks c.in_ok-given.image) c.in_ok-given.ensures.given
    c.in_ok-serve_kept.field-0 _ c.in-Err.is c.in_ok-serve_kept.ensures.kept

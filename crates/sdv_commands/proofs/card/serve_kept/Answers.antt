use Rattle.std.proofs.Common.{IfErr, refl, subst, sym}
use Rattle.sdv_image.specs.FileImages.{shown_of}
use Rattle.sdv_program.specs.Files.{Files, SomeCallFailed}
use Rattle.sdv_commands.specs.RunImages.{IsOfName, MayHaveFailed, image_given}
use Rattle.sdv_commands.specs.declared.given.GivenImage.TheVariants.{New, File}
use Rattle.sdv_commands.proofs.RunLaws.{loses_image, never_unread}
use Rattle.sdv_program.specs.Requests.{card_names_of}
use Rattle.sdv_commands.specs.CardSide.{FailsToKeep}
use Rattle.sdv_commands.proofs.CardLaws.{close_fails, refusal_unkept}
use Rattle.sdv_commands.proofs.card.serve_kept.Goals as goal

pub returns-in_err-outcome-in-New-clause-fails : goal.returns-in_err-outcome-in-New-clause-fails
returns-in_err-outcome-in-New-clause-fails g c =
    let files : Files = g.S.Store.known c.args.named.files.now in
    let image_of = image_given g.S.Image.BlockFile.byte_count g.S.Image.BlockFile.blocks in
    subst (λ image. IfErr c.from_residual.result (λ fault. FailsToKeep files (card_names_of c.args.named.names.now) c.args.given.now
    (image_of image) fault (g.R.Read.remaining c.args.reader.now) (g.R.Read.remaining c.serve_given.new.reader)
    (g.W.Write.contents c.args.writer.now) (g.W.Write.contents c.serve_given.new.writer)))
    (sym c.in-New.is)
    (refusal_unkept files (card_names_of c.args.named.names.now) (g.R.Read.remaining c.args.reader.now) (g.R.Read.remaining c.serve_given.new.reader)
    (g.W.Write.contents c.args.writer.now) (g.W.Write.contents c.serve_given.new.writer) c.args.given.now
    (image_of (New c.in-New.image)) (MayHaveFailed (λ _. 0) c.in-New.image)
    (λ unread. absurd (never_unread c.in-New.image unread)) c.in_err-outcome-in-New.field-0.0 c.in_err-outcome-in-New.ensures.refused
    (c.in_err-outcome-in-New.ensures.unread, c.in_err-outcome-in-New.ensures.quiet) c.from_residual.result c.from_residual.ensures.1)

pub returns-in_err-end-in-File-clause-fails : goal.returns-in_err-end-in-File-clause-fails
returns-in_err-end-in-File-clause-fails g c =
    let files : Files = g.S.Store.known c.args.named.files.now in
    let name = c.args.named.names.now.image.now in
    let image_of = image_given g.S.Image.BlockFile.byte_count g.S.Image.BlockFile.blocks in
    let of_name : IsOfName g.S.Image.BlockFile.failed files name (File c.in-File.file) =
    subst (λ image. IsOfName g.S.Image.BlockFile.failed files name image) c.in-File.is c.requires in
    subst (λ image. IfErr c.from_residual-in_err-end-in-File.result (λ fault. FailsToKeep files (card_names_of c.args.named.names.now)
    c.args.given.now (image_of image) fault (g.R.Read.remaining c.args.reader.now) (g.R.Read.remaining c.serve_given-in-File.new.reader)
    (g.W.Write.contents c.args.writer.now) (g.W.Write.contents c.serve_given-in-File.new.writer))) (sym c.in-File.is)
    (refusal_unkept files (card_names_of c.args.named.names.now) (g.R.Read.remaining c.args.reader.now) (g.R.Read.remaining c.serve_given-in-File.new.reader)
    (g.W.Write.contents c.args.writer.now) (g.W.Write.contents c.serve_given-in-File.new.writer) c.args.given.now (image_of (File c.in-File.file))
    (MayHaveFailed g.S.Image.BlockFile.failed c.in-File.file) (λ unread. (of_name.0, of_name.1 (c.in-File.file, unread.0, unread.1)))
    c.in_err-end-in-File.field-0.0 c.in_err-end-in-File.ensures.refused
    (c.in_err-end-in-File.ensures.unread, c.in_err-end-in-File.ensures.quiet) c.from_residual-in_err-end-in-File.result
    c.from_residual-in_err-end-in-File.ensures.1)

pub returns-in_err-close_image-in-File-clause-fails : goal.returns-in_err-close_image-in-File-clause-fails
returns-in_err-close_image-in-File-clause-fails g c =
    let files : Files = g.S.Store.known c.args.named.files.now in
    let name = c.args.named.names.now.image in
    let image_of = image_given g.S.Image.BlockFile.byte_count g.S.Image.BlockFile.blocks in
    let of_name : IsOfName g.S.Image.BlockFile.failed files name.now (File c.in-File.file) =
    subst (λ image. IsOfName g.S.Image.BlockFile.failed files name.now image) c.in-File.is c.requires in
    subst (λ image. IfErr c.from_residual-in_err-close_image-in-File.result (λ fault. FailsToKeep files
    (card_names_of c.args.named.names.now) c.args.given.now
    (image_of image) fault (g.R.Read.remaining c.args.reader.now) (g.R.Read.remaining c.serve_given-in-File.new.reader)
    (g.W.Write.contents c.args.writer.now) (g.W.Write.contents c.serve_given-in-File.new.writer))) (sym c.in-File.is)
    (close_fails files (card_names_of c.args.named.names.now) (g.R.Read.remaining c.args.reader.now) (g.R.Read.remaining c.serve_given-in-File.new.reader)
    (g.W.Write.contents c.args.writer.now) (g.W.Write.contents c.serve_given-in-File.new.writer) c.args.given.now
    (image_of (File c.in-File.file)) name refl (record {
      blocks' = shown_of c.in_ok-end-in-File.field-0.image;
      end = c.in_ok-end-in-File.field-0.end;
      served = c.in_ok-end-in-File.ensures.served;
    })
    (loses_image files name.now (SomeCallFailed g.S.Image.BlockFile.failed) of_name.0 of_name.1 c.in_err-close_image-in-File.ensures.lost)
    c.in_err-close_image-in-File.field-0.0 c.in_err-close_image-in-File.ensures.refused
    c.from_residual-in_err-close_image-in-File.result c.from_residual-in_err-close_image-in-File.ensures.1)

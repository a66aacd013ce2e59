use Rattle.std.proofs.Common.{IfErr, inl, refl, subst, sym}
use Rattle.sdv_image.specs.FileImages.{shown_of}
use Rattle.sdv_program.specs.Requests.{try_names_of}
use Rattle.sdv_program.specs.Files.{Files, SomeCallFailed}
use Rattle.sdv_commands.specs.RunImages.{IsOfName, MayHaveFailed, image_given}
use Rattle.sdv_commands.specs.declared.given.GivenImage.TheVariants.{New, File}
use Rattle.sdv_commands.proofs.RunLaws.{loses_image, never_unread}
use Rattle.sdv_commands.specs.Try.{FailsToKeep, IsKept}
use Rattle.sdv_commands.proofs.TryLaws.{close_fails, refusal_unkept}
use Rattle.sdv_commands.proofs.attempt.try_kept.Goals as goal

pub returns-in_err-outcome-in-New-clause-fails : goal.returns-in_err-outcome-in-New-clause-fails
returns-in_err-outcome-in-New-clause-fails g c =
    let files : Files = g.S.Store.known c.args.files.now in
    subst (λ image. IfErr c.from_residual.result (λ fault. FailsToKeep files (try_names_of c.args.names.now) c.args.given.now
    (image_given g.S.Image.BlockFile.byte_count g.S.Image.BlockFile.blocks image) fault
    (g.T.Write.contents c.args.trace.now) (g.T.Write.contents c.try_given.new.trace))) (sym c.in-New.is)
    (refusal_unkept files (try_names_of c.args.names.now) c.args.given.now
    (image_given g.S.Image.BlockFile.byte_count g.S.Image.BlockFile.blocks (New c.in-New.image)) _ _
    (MayHaveFailed (λ _. 0) c.in-New.image) (λ unread. absurd (never_unread c.in-New.image unread)) c.in_err-outcome-in-New.field-0.0
    c.in_err-outcome-in-New.ensures.refused c.in_err-outcome-in-New.ensures.quiet c.from_residual.result c.from_residual.ensures.1)

pub returns-in_err-end-in-File-clause-fails : goal.returns-in_err-end-in-File-clause-fails
returns-in_err-end-in-File-clause-fails g c =
    let files : Files = g.S.Store.known c.args.files.now in
    let of_name : IsOfName g.S.Image.BlockFile.failed files c.args.names.now.image.now (File c.in-File.file) =
    subst (λ image. IsOfName g.S.Image.BlockFile.failed files c.args.names.now.image.now image) c.in-File.is c.requires in
    subst (λ image. IfErr c.from_residual-in_err-end-in-File.result (λ fault. FailsToKeep files (try_names_of c.args.names.now) c.args.given.now
    (image_given g.S.Image.BlockFile.byte_count g.S.Image.BlockFile.blocks image) fault
    (g.T.Write.contents c.args.trace.now) (g.T.Write.contents c.try_given-in-File.new.trace))) (sym c.in-File.is)
    (refusal_unkept files (try_names_of c.args.names.now) c.args.given.now
    (image_given g.S.Image.BlockFile.byte_count g.S.Image.BlockFile.blocks (File c.in-File.file)) _ _
    (MayHaveFailed g.S.Image.BlockFile.failed c.in-File.file) (λ unread. (of_name.0, of_name.1 (c.in-File.file, unread.0, unread.1))) c.in_err-end-in-File.field-0.0
    c.in_err-end-in-File.ensures.refused c.in_err-end-in-File.ensures.quiet c.from_residual-in_err-end-in-File.result
    c.from_residual-in_err-end-in-File.ensures.1)

pub returns-in_err-close_image-in-File-clause-fails : goal.returns-in_err-close_image-in-File-clause-fails
returns-in_err-close_image-in-File-clause-fails g c =
    let files : Files = g.S.Store.known c.args.files.now in
    let name = c.args.names.now.image in
    let of_name : IsOfName g.S.Image.BlockFile.failed files name.now (File c.in-File.file) =
    subst (λ image. IsOfName g.S.Image.BlockFile.failed files name.now image) c.in-File.is c.requires in
    subst (λ image. IfErr c.from_residual-in_err-close_image-in-File.result (λ fault. FailsToKeep files (try_names_of c.args.names.now) c.args.given.now
    (image_given g.S.Image.BlockFile.byte_count g.S.Image.BlockFile.blocks image) fault
    (g.T.Write.contents c.args.trace.now) (g.T.Write.contents c.try_given-in-File.new.trace))) (sym c.in-File.is)
    (close_fails files (try_names_of c.args.names.now) c.args.given.now
    (image_given g.S.Image.BlockFile.byte_count g.S.Image.BlockFile.blocks (File c.in-File.file))
    (g.T.Write.contents c.args.trace.now) (g.T.Write.contents c.try_given-in-File.new.trace) name refl (record {
      blocks' = shown_of c.in_ok-end-in-File.field-0.image;
      result = c.in_ok-end-in-File.field-0.end;
      out = g.O.Write.contents c.args.out.now;
      out' = g.O.Write.contents c.try_given-in-File.new.out;
      tried = c.in_ok-end-in-File.ensures.tried;
    })
    (loses_image files name.now (SomeCallFailed g.S.Image.BlockFile.failed) of_name.0 of_name.1 c.in_err-close_image-in-File.ensures.lost)
    c.in_err-close_image-in-File.field-0.0 c.in_err-close_image-in-File.ensures.refused
    c.from_residual-in_err-close_image-in-File.result c.from_residual-in_err-close_image-in-File.ensures.1)

pub returns-in_ok-outcome-in-New-clause-kept : goal.returns-in_ok-outcome-in-New-clause-kept
returns-in_ok-outcome-in-New-clause-kept g c =
    let files : Files = g.S.Store.known c.args.files.now in
    let name = c.args.names.now.image.now in
    let of_name : IsOfName g.S.Image.BlockFile.failed files name (New c.in-New.image) =
    subst (λ image. IsOfName g.S.Image.BlockFile.failed files name image) c.in-New.is c.requires in
    subst (λ image. IsKept files (try_names_of c.args.names.now) c.args.given.now
    (image_given g.S.Image.BlockFile.byte_count g.S.Image.BlockFile.blocks image) c.in_ok-outcome-in-New.outcome.end
    (g.O.Write.contents c.args.out.now) (g.O.Write.contents c.try_given.new.out)
    (g.T.Write.contents c.args.trace.now) (g.T.Write.contents c.try_given.new.trace)) (sym c.in-New.is) (record {
      blocks' = shown_of c.in_ok-outcome-in-New.outcome.image;
      tried = c.in_ok-outcome-in-New.ensures.tried;
      stored = inl of_name;
    })

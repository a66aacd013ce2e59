use Rattle.std.proofs.Common.{◌/◌, refl, subst, inl, inr}
use Rattle.sdv_behavior.specs.Layout.{image_size}
use Rattle.sdv_image.specs.FileImages.{failed_of, shown_of, size_of}
use Rattle.sdv_sim.specs.Made.{IsRefused, IsUnread, are_digits}
use Rattle.sdv_program.specs.Files.{CardImage, image_of}
use Rattle.sdv_commands.specs.RunImages.{MayHaveFailed}
use Rattle.sdv_commands.proofs.RunLaws.{file_unread, made_over, no_card, no_image, refused_so}
use Rattle.sdv_commands.proofs.run.card_over.Goals as goal

pub returns-in_err-desc-clause-refused : goal.returns-in_err-desc-clause-refused
returns-in_err-desc-clause-refused g c =
    no_card c.args.description.now c.args.codes.now (image_of (g.F.BlockFile.byte_count c.args.file) (g.F.BlockFile.blocks c.args.file))
    (MayHaveFailed g.F.BlockFile.failed c.args.file) c.in_err-desc.field-0.0 c.from_residual.result (λ _. inl c.in_err-desc.ensures)
    c.from_residual.ensures.1

pub returns-in_err-image-clause-refused : goal.returns-in_err-image-clause-refused
returns-in_err-image-clause-refused g c =
    no_image c.args.description.now c.args.codes.now (image_of (g.F.BlockFile.byte_count c.args.file) (g.F.BlockFile.blocks c.args.file))
    (MayHaveFailed g.F.BlockFile.failed c.args.file) c.in_ok-desc.desc c.in_ok-desc.ensures c.in_err-image.field-0.0 c.in_err-image.ensures
    c.from_residual-in_err-image.result c.from_residual-in_err-image.ensures.1

pub returns-in_err-sim-clause-refused : goal.returns-in_err-sim-clause-refused
returns-in_err-sim-clause-refused g c =
    let image : CardImage = image_of (g.F.BlockFile.byte_count c.args.file) (g.F.BlockFile.blocks c.args.file) in
    let unread : Type 0 = MayHaveFailed g.F.BlockFile.failed c.args.file in
    let size = image_size c.in_ok-desc.desc in
    let fault = c.in_err-sim.field-0.0 in
    let refused : IsRefused (are_digits c.args.codes.now) (image.bytes / 512) size unread fault =
    subst (λ file. IsRefused (are_digits c.args.codes.now) (g.F.BlockFile.byte_count file / 512) size unread fault) c.in_ok-image.ensures.1
    (refused_so (IsUnread size_of shown_of failed_of c.in_ok-image.image) unread (file_unread c.in_ok-image.image c.args.file c.in_ok-image.ensures.1)
    (are_digits c.args.codes.now) (size_of c.in_ok-image.image) size fault c.in_err-sim.ensures.made) in
    no_card c.args.description.now c.args.codes.now image unread fault c.from_residual-in_err-sim.result
    (λ _. inr (inr (c.in_ok-desc.desc, c.in_ok-desc.ensures, c.in_ok-image.ensures.0, refused))) c.from_residual-in_err-sim.ensures.1

pub returns-clause-made : goal.returns-clause-made
returns-clause-made g c = record {
  desc = c.in_ok-desc.desc;
  described = c.in_ok-desc.ensures;
  whole = c.in_ok-image.ensures.0;
  made = made_over _ _ _ _ _ _ _ refl c.in_ok-image.ensures.2 c.new-3.ensures c.in_ok-sim.ensures.made;
}

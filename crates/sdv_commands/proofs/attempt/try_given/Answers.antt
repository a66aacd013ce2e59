use Rattle.std.proofs.Common.{◌≡◌, ◌∙◌, ◌/◌, ap, subst, ℕ, List}
use Rattle.std.specs.Prelude.{string_bytes}
use Rattle.sdv_image.specs.FileImages.{failed_of, shown_of, size_of}
use Rattle.sdv_sim.specs.Made.{IsUnread}
use Rattle.sdv_refute.specs.Tries.{TryRefuses}
use Rattle.sdv_program.specs.Files.{CardImage, image_of}
use Rattle.sdv_commands.specs.Run.{blocks_of}
use Rattle.sdv_commands.specs.RunImages.{MayHaveFailed}
use Rattle.sdv_commands.proofs.RunLaws.{chunks_are_blocks, file_unread}
use Rattle.sdv_commands.proofs.TryLaws.{no_image, try_refuses_so, untried}
use Rattle.sdv_commands.proofs.attempt.try_given.Goals as goal

pub returns-in_err-image-clause-refused : goal.returns-in_err-image-clause-refused
returns-in_err-image-clause-refused g c =
    no_image c.args.given.now (image_of (g.F.BlockFile.byte_count c.args.file) (g.F.BlockFile.blocks c.args.file))
    (MayHaveFailed g.F.BlockFile.failed c.args.file) c.in_err-image.field-0.0 c.in_err-image.ensures c.from_residual.result c.from_residual.ensures.1

pub returns-in_err-result-clause-refused : goal.returns-in_err-result-clause-refused
returns-in_err-result-clause-refused g c =
    let given = c.args.given.now in
    let image : CardImage = image_of (g.F.BlockFile.byte_count c.args.file) (g.F.BlockFile.blocks c.args.file) in
    let unread : Type 0 = MayHaveFailed g.F.BlockFile.failed c.args.file in
    let once : Type 0 = IsUnread size_of shown_of failed_of c.in_ok-image.image in
    let fault = c.in_err-result.field-0.0 in
    let size : ℕ = size_of c.in_ok-image.image in
    let text : TryRefuses (string_bytes given.script) c.as_str-2.result.now c.as_slice-2.result.now size once fault =
    subst (λ (t : List ℕ). TryRefuses t c.as_str-2.result.now c.as_slice-2.result.now size once fault) c.as_str.ensures.value c.in_err-result.ensures.refused in
    let card : TryRefuses (string_bytes given.script) (string_bytes given.card) c.as_slice-2.result.now size once fault =
    subst (λ (t : List ℕ). TryRefuses (string_bytes given.script) t c.as_slice-2.result.now size once fault) c.as_str-2.ensures.value text in
    let codes : TryRefuses (string_bytes given.script) (string_bytes given.card) given.codes.items size once fault =
    subst (λ (t : List ℕ). TryRefuses (string_bytes given.script) (string_bytes given.card) t size once fault) c.as_slice-2.ensures.value card in
    let more = try_refuses_so once unread (file_unread c.in_ok-image.image c.args.file c.in_ok-image.ensures.1)
    (string_bytes given.script) (string_bytes given.card) given.codes.items size fault codes in
    untried given image unread fault
    (subst (λ file. TryRefuses (string_bytes given.script) (string_bytes given.card) given.codes.items (g.F.BlockFile.byte_count file / 512) unread fault)
    c.in_ok-image.ensures.1 more) c.from_residual-in_err-result.result c.from_residual-in_err-result.ensures.1

pub returns-clause-tried : goal.returns-clause-tried
returns-clause-tried g c =
    let given = c.args.given.now in
    let input : c.as_chunks.result.0.now ≡ blocks_of given.input.items =
    c.as_chunks.ensures.front ∙ chunks_are_blocks _ _ ∙ ap blocks_of c.as_slice.ensures.value in
    rw (c.as_str.ensures.value, c.as_str-2.ensures.value, c.as_slice-2.ensures.value, input, c.in_ok-image.ensures.2) at c.in_ok-result.ensures.tried

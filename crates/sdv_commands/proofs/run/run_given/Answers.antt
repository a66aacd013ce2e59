use Rattle.std.proofs.Common.{◌≡◌, ◌∙◌, sym, ap, subst}
use Rattle.std.specs.Prelude.{string_bytes}
use Rattle.sdv_check.specs.Verified.{IsAccepted}
use Rattle.sdv_controller.specs.Controlled.{wire_of}
use Rattle.sdv_image.specs.FileImages.{shown_of}
use Rattle.sdv_sim.specs.SimOf.{image_of as image_of_sim, state_of}
use Rattle.sdv_program.specs.Files.{CardImage, image_of}
use Rattle.sdv_commands.specs.Run.{IsCardOver, blocks_of}
use Rattle.sdv_commands.specs.RunImages.{MayHaveFailed}
use Rattle.sdv_commands.specs.Registers.{port_of}
use Rattle.sdv_commands.proofs.RunLaws.{NoCard, chunks_are_blocks, refused_card, run_over}
use Rattle.sdv_commands.proofs.run.run_given.Goals as goal

pub returns-in_err-card-clause-refused : goal.returns-in_err-card-clause-refused
returns-in_err-card-clause-refused g c =
    let given = c.args.given.now in
    let accepted : IsAccepted (string_bytes given.script) (string_bytes given.certificate) c.in_ok-accepted.accepted =
    rw (c.as_str.ensures.value, c.as_str-2.ensures.value) at c.in_ok-accepted.ensures.verified in
    let image : CardImage = image_of (g.F.BlockFile.byte_count c.args.file) (g.F.BlockFile.blocks c.args.file) in
    let unread : Type 0 = MayHaveFailed g.F.BlockFile.failed c.args.file in
    let fault = c.in_err-card.field-0.0 in
    let refused : NoCard (string_bytes given.card) given.codes.items image unread fault =
    subst (λ codes. NoCard (string_bytes given.card) codes image unread fault) c.as_slice.ensures.value
    (subst (λ text. NoCard text c.as_slice.result.now image unread fault) c.as_str-3.ensures.value c.in_err-card.ensures.refused) in
    refused_card given image unread c.in_ok-accepted.accepted accepted fault c.from_residual-in_err-card.result refused
    c.from_residual-in_err-card.ensures.1

pub returns-clause-ran : goal.returns-clause-ran
returns-clause-ran g c =
    let given = c.args.given.now in
    let accepted : IsAccepted (string_bytes given.script) (string_bytes given.certificate) c.in_ok-accepted.accepted =
    rw (c.as_str.ensures.value, c.as_str-2.ensures.value) at c.in_ok-accepted.ensures.verified in
    let image : CardImage = image_of (g.F.BlockFile.byte_count c.args.file) (g.F.BlockFile.blocks c.args.file) in
    let card = state_of (wire_of c.in_ok-card.card) in
    let card' = state_of (wire_of (port_of c.run-end.new.port)) in
    let is_card : IsCardOver (string_bytes given.card) given.codes.items image card =
    subst (λ codes. IsCardOver (string_bytes given.card) codes image card) c.as_slice.ensures.value
    (subst (λ text. IsCardOver text c.as_slice.result.now image card) c.as_str-3.ensures.value c.in_ok-card.ensures.made) in
    let input : c.as_chunks.result.0.now ≡ blocks_of given.input.items =
    c.as_chunks.ensures.front ∙ chunks_are_blocks _ _ ∙ ap blocks_of c.as_slice-2.ensures.value in
    let ran = run_over _ g.R.Write.contents _ _ _ _ _ _ _ _ _ _ _ _ _ _ _ c.new-port.ensures.port c.new-port.ensures.writer c.new-port.ensures.good
    c.into_parts-card.ensures.sink input c.run-end.ensures.1 in
    let blocks : shown_of c.into_image-image.result ≡ card'.blocks = ap shown_of c.into_image-image.ensures
    ∙ ap (λ s. shown_of (image_of_sim s)) (c.into_wire.ensures ∙ ap wire_of c.into_parts-card.ensures.port) in
    record {
      run = record {
        acceptance = c.in_ok-accepted.accepted;
        accepted = accepted;
        card = card;
        is_card = is_card;
        card' = card';
        blocks = sym blocks;
        left = c.run-end.ensures.0;
        ran = ran.0;
      };
      registers = ran.1;
    }

use Rattle.std.proofs.Common.{◌≡◌, ◌∙◌, ap, length, rules, subst, sym}
use Rattle.std.specs.Prelude.{string_bytes}
use Rattle.sdv_behavior.specs.SimSteps.{SimSteps}
use Rattle.sdv_controller.specs.Controlled.{ControllerSteps, wire_of}
use Rattle.sdv_image.specs.FileImages.{shown_of}
use Rattle.sdv_lines.specs.Serving.{ServesAll}
use Rattle.sdv_sim.specs.SimOf.{image_of as image_of_sim, state_of}
use Rattle.sdv_program.specs.Files.{CardImage, image_of}
use Rattle.sdv_commands.specs.Run.{IsCardOver}
use Rattle.sdv_commands.specs.RunImages.{MayHaveFailed}
use Rattle.sdv_commands.proofs.RunLaws.{NoCard}
use Rattle.sdv_commands.proofs.CardLaws.{refused_card, served_by_sim}
use Rattle.sdv_commands.proofs.card.serve_given.Goals as goal

pub returns-in_err-port-clause-refused : goal.returns-in_err-port-clause-refused
returns-in_err-port-clause-refused g c =
    let given = c.args.given.now in
    let image : CardImage = image_of (g.F.BlockFile.byte_count c.args.file) (g.F.BlockFile.blocks c.args.file) in
    let unread : Type 0 = MayHaveFailed g.F.BlockFile.failed c.args.file in
    let fault = c.in_err-port.field-0.0 in
    let refused : NoCard (string_bytes given.card) given.codes.items image unread fault =
    subst (λ codes. NoCard (string_bytes given.card) codes image unread fault) c.as_slice.ensures.value
    (subst (λ text. NoCard text c.as_slice.result.now image unread fault) c.as_str.ensures.value c.in_err-port.ensures.refused) in
    refused_card given image unread fault c.from_residual.result refused c.from_residual.ensures.1

pub returns-clause-served : goal.returns-clause-served
returns-clause-served g c =
    let given = c.args.given.now in
    let image : CardImage = image_of (g.F.BlockFile.byte_count c.args.file) (g.F.BlockFile.blocks c.args.file) in
    let card = state_of (wire_of c.in_ok-port.port) in
    let card' = state_of (wire_of c.serve-end.new.port) in
    let is_card : IsCardOver (string_bytes given.card) given.codes.items image card =
    subst (λ codes. IsCardOver (string_bytes given.card) codes image card) c.as_slice.ensures.value
    (subst (λ text. IsCardOver text c.as_slice.result.now image card) c.as_str.ensures.value c.in_ok-port.ensures.made) in
    let room : length c.as_mut_slice.result.now ≡ 65535 = search rules in
    record {
      card = card;
      is_card = is_card;
      card' = card';
      blocks = sym (ap shown_of c.into_image-image.ensures ∙ ap (λ s. shown_of (image_of_sim s)) c.into_wire.ensures);
      served = subst (λ n. ServesAll (ControllerSteps SimSteps) n card card' (g.R.Read.remaining c.args.reader.now)
          (g.R.Read.remaining c.serve-end.new.reader) (g.W.Write.contents c.args.writer.now) (g.W.Write.contents c.serve-end.new.writer) c.serve-end.result) room
          (served_by_sim (length c.as_mut_slice.result.now) c.in_ok-port.port c.serve-end.new.port _ _ _ _ c.serve-end.result c.serve-end.ensures);
    }

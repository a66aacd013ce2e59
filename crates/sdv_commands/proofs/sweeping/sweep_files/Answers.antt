use Rattle.std.proofs.Common.{◌≡◌, ◌∙◌, ap, inr}
use Rattle.std.specs.Prelude.{string_bytes}
use Rattle.clap.specs.Words.{Text}
use Rattle.sdv_program.specs.Requests.{SweepNames, sweep_names_of}
use Rattle.sdv_program.specs.Files.{Files}
use Rattle.sdv_program.specs.Outcomes.{OverText}
use Rattle.sdv_program.proofs.OutcomeLaws.{no_text}
use Rattle.sdv_commands.specs.Run.{GivesInput, blocks_of}
use Rattle.sdv_commands.proofs.RunLaws.{chunks_are_blocks}
use Rattle.sdv_commands.specs.Sweep.{GivesBytes, ImageEnds, InputEnds, SweptEnds}
use Rattle.sdv_commands.proofs.SweepLaws.{no_image_bytes, no_input}
use Rattle.sdv_commands.proofs.sweeping.sweep_files.Goals as goal

pub returns-in_err-script : goal.returns-in_err-script
returns-in_err-script g c =
    let files : Files = g.S.Store.known c.args.files.now in
    let names : SweepNames = sweep_names_of c.args.names.now in
    no_text files c.args.names.now.script (λ (script : Text). OverText files names.card (ImageEnds files names script))
    (g.O.Write.contents c.args.out.now)
    c.in_err-script.field-0.0 c.in_err-script.ensures.refused c.in_err-script.ensures.no_text c.from_residual.result c.from_residual.ensures.1

pub returns-in_err-card : goal.returns-in_err-card
returns-in_err-card g c =
    let files : Files = g.S.Store.known c.args.files.now in
    let names : SweepNames = sweep_names_of c.args.names.now in
    inr (
      string_bytes c.in_ok-script.script,
      c.in_ok-script.ensures.given,
      no_text files c.args.names.now.card (ImageEnds files names (string_bytes c.in_ok-script.script)) (g.O.Write.contents c.args.out.now)
          c.in_err-card.field-0.0 c.in_err-card.ensures.refused c.in_err-card.ensures.no_text
          c.from_residual-in_err-card.result c.from_residual-in_err-card.ensures.1,
    )

pub returns-in_err-image : goal.returns-in_err-image
returns-in_err-image g c =
    let files : Files = g.S.Store.known c.args.files.now in
    let names : SweepNames = sweep_names_of c.args.names.now in
    let script : Text = string_bytes c.in_ok-script.script in
    let card : Text = string_bytes c.in_ok-card.card in
    inr (
      script,
      c.in_ok-script.ensures.given,
      inr (
        card,
        c.in_ok-card.ensures.given,
        no_image_bytes (GivesBytes files names.image) (InputEnds files names script card) (g.O.Write.contents c.args.out.now) files c.args.names.now.image
            c.in_err-image.field-0.0 c.in_err-image.ensures.refused c.from_residual-in_err-image.result c.from_residual-in_err-image.ensures.1,
      ),
    )

pub returns-in_err-blocks : goal.returns-in_err-blocks
returns-in_err-blocks g c =
    let files : Files = g.S.Store.known c.args.files.now in
    let names : SweepNames = sweep_names_of c.args.names.now in
    let script : Text = string_bytes c.in_ok-script.script in
    let card : Text = string_bytes c.in_ok-card.card in
    let image : Text = c.in_ok-image.image.items in
    inr (
      script,
      c.in_ok-script.ensures.given,
      inr (
        card,
        c.in_ok-card.ensures.given,
        inr (
          image,
          c.in_ok-image.ensures.given,
          no_input (GivesInput files names.input) (SweptEnds files names script card image) (g.O.Write.contents c.args.out.now) files c.args.names.now.input
              c.in_err-blocks.field-0.0 c.in_err-blocks.ensures.refused c.from_residual-in_err-blocks.result c.from_residual-in_err-blocks.ensures.1,
        ),
      ),
    )

pub returns : goal.returns
returns g c =
    let script : Text = string_bytes c.in_ok-script.script in
    let card : Text = string_bytes c.in_ok-card.card in
    let image : Text = c.in_ok-image.image.items in
    let blocks : Text = c.in_ok-blocks.blocks.items in
    let input : c.as_chunks.result.0.now ≡ blocks_of blocks =
    c.as_chunks.ensures.front ∙ chunks_are_blocks _ _ ∙ ap blocks_of c.as_slice.ensures.value in
    inr (
      script,
      c.in_ok-script.ensures.given,
      inr (
        card,
        c.in_ok-card.ensures.given,
        inr (
          image,
          c.in_ok-image.ensures.given,
          inr (
            blocks,
            c.in_ok-blocks.ensures.given,
            rw (c.as_str.ensures.value, c.as_str-2.ensures.value, c.as_slice-2.ensures.value, input) at c.sweep_given.ensures,
          ),
        ),
      ),
    )

use Rattle.std.proofs.Common.{◌≡◌, ◌∙◌, ap, Err, List, map, option_map, rules, subst}
use Rattle.sdv_telling.specs.Statements.{Text}
use Rattle.sdv_decode.specs.Decoded.{at_first}
use Rattle.sdv_decode.specs.Lined.{Put}
use Rattle.sdv_decode.specs.Room.{StopsByRoom}
use Rattle.sdv_decode.specs.declared.form.Form.TheVariants.{Words}
use Rattle.sdv_decode.proofs.lined.with_lines.Goals as goal

pub returns-clause-puts : goal.returns-clause-puts
returns-clause-puts c =
    let same : c.as_slice.result.now ≡ c.in_ok-lines.lines.items = search rules in
    subst (λ (lines : List Text). Put (at_first c.args.graph.now (option_map (λ bytes. bytes.now) c.args.given)) lines
    c.in_ok-lined.lined.text.items c.in_ok-lined.lined.off)
    (ap (map (λ line. line.items)) same ∙ c.in_ok-lines.ensures) c.in_ok-lined.ensures.puts

pub returns-in_err-lined-clause-room : goal.returns-in_err-lined-clause-room
returns-in_err-lined-clause-room c =
    let is : c.from_residual-in_err-lined.result ≡ Err c.in_err-lined.field-0.0 = search rules in
    let same : c.as_slice.result.now ≡ c.in_ok-lines.lines.items = search rules in
    rw is (λ room.
    subst (λ (lines : List Text). StopsByRoom Words (at_first c.args.graph.now (option_map (λ bytes. bytes.now) c.args.given)) lines)
    (ap (map (λ line. line.items)) same ∙ c.in_ok-lines.ensures) (c.in_err-lined.ensures.room room))

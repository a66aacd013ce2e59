use Rattle.std.proofs.Common.{◌≡◌, ◌∙◌, ap, Err, List, map, rules, option_map, subst}
use Rattle.sdv_telling.specs.Statements.{Text}
use Rattle.sdv_decode.specs.Decoded.{at_first}
use Rattle.sdv_decode.specs.Room.{StopsByRoom}
use Rattle.sdv_decode.proofs.ReadLaws.{decodes_by}
use Rattle.sdv_decode.proofs.decoding.decode.Goals as goal

pub returns-clause-decodes : goal.returns-clause-decodes
returns-clause-decodes c =
    let lines = c.in_ok-lines.lines.items in
    let same : c.as_slice.result.now ≡ lines = search rules in
    decodes_by c.args.graph.now c.args.form (option_map (λ bytes. bytes.now) c.args.given) c.args.trace.now c.in_ok-told.told.text.items _ _ lines
    (λ line. line.items) c.in_ok-lines.ensures (rw same at c.in_ok-told.ensures.reads) c.in_ok-text.ensures

pub returns-in_err-told-clause-room : goal.returns-in_err-told-clause-room
returns-in_err-told-clause-room c =
    let is : c.from_residual-in_err-told.result ≡ Err c.in_err-told.field-0.0 = search rules in
    let same : c.as_slice.result.now ≡ c.in_ok-lines.lines.items = search rules in
    rw is (λ room.
    subst (λ (lines : List Text). StopsByRoom c.args.form (at_first c.args.graph.now (option_map (λ bytes. bytes.now) c.args.given)) lines)
    (ap (map (λ line. line.items)) same ∙ c.in_ok-lines.ensures) (c.in_err-told.ensures.room room))

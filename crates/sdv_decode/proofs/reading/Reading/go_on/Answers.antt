use Rattle.std.proofs.Common.{◌≡◌, ◌∙◌, false, true, Err, ap, rules}
use Rattle.std.specs.Prelude.{is_err}
use Rattle.sdv_decode.specs.Matches.{returned_of}
use Rattle.sdv_decode.proofs.StepLaws.{crowded_by, refused, went_by}
use Rattle.sdv_decode.proofs.reading.Reading.go_on.Goals as goal

pub returns-then-is_err-clause-on : goal.returns-then-is_err-clause-on
returns-then-is_err-clause-on c =
    let told = c.returned_of-returned.ensures ∙ ap (returned_of c.args.line) c.register_told.ensures in
    let failed : is_err c.take.result ≡ true = search rules in
    refused c.args.self.now c.take.new.self _ c.take.result failed (rw told at c.take.ensures)

pub returns-in_err-follow-clause-room : goal.returns-in_err-follow-clause-room
returns-in_err-follow-clause-room c =
    let is : c.from_residual.result ≡ Err c.in_err-follow.field-0.0 = search rules in
    let told = c.returned_of-returned.ensures ∙ ap (returned_of c.args.line) c.register_told.ensures in
    let passed : is_err c.take.result ≡ false = search rules in
    let went = went_by c.args.self.now.runner c.take.new.self _ c.take.result passed (rw told at c.take.ensures) in
    rw is (λ room. crowded_by c.args.self.now c.args.event.now c.args.line c.args.next c.take.new.self went (c.in_err-follow.ensures.room room))

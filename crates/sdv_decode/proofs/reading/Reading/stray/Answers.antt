use Rattle.std.proofs.Common.{false, subst}
use Rattle.sdv_decode.specs.LineWords.{AddsLine, Spot, told}
use Rattle.sdv_decode.proofs.StepLaws.{spot_same}
use Rattle.sdv_decode.proofs.reading.Reading.stray.Goals as goal

pub returns-clause-words : goal.returns-clause-words
returns-clause-words c =
    let spot = spot_same c.spot.result c.args.self.now c.spot.ensures.graph c.spot.ensures.form c.spot.ensures.number c.spot.ensures.point in
    subst (λ (s : Spot). AddsLine s (told false c.args.line.now) c.args.out.now.items c.put_stray.new.text.items) spot c.in_ok-put_stray.ensures

use Rattle.std.proofs.Common.{◌≡◌, false, true, Err, inl, inr, subst, rules, Option, Bool, OnOk}
use Rattle.sdv_audit.specs.declared.line.TraceLine.{TraceLine}
use Rattle.sdv_decode.specs.LineWords.{AddsLine, Spot, told}
use Rattle.sdv_decode.specs.Matches.{is_of}
use Rattle.sdv_decode.specs.Steps.{GoesOn}
use Rattle.sdv_decode.specs.declared.reading.Reading.{Reading}
use Rattle.sdv_decode.proofs.StepLaws.{lacks_room, passed_by, spot_at, spot_same, stray_step}
use Rattle.sdv_decode.proofs.reading.Reading.take_event.Goals as goal

pub returns-then-not-is_of-clause-steps : goal.returns-then-not-is_of-clause-steps
returns-then-not-is_of-clause-steps c =
    let other : is_of c.args.event.now c.args.line ≡ false = search rules in
    stray_step c.args.self.now c.args.self.now c.args.line _ _ _ c.stray.result c.stray.ensures.words c.stray.ensures.step
    c.args.event.now (λ text. inl other)

pub returns-in_ok-put_event-clause-steps : goal.returns-in_ok-put_event-clause-steps
returns-in_ok-put_event-clause-steps c = λ at text read asked next.
    let r = c.args.self.now in
    let event = c.args.event.now in
    let line = c.args.line in
    let r' = c.go_on.new.self in
    let fits : is_of event line ≡ true = search rules in
    let on = subst (λ (n : Option TraceLine). GoesOn r event line n r' true) c.line_behind.ensures
    (subst (λ (b : Bool). GoesOn r event line c.line_behind.result r' b) c.if-branch.true c.in_ok-go_on.ensures.on) in
    let spot = spot_same c.spot-spot.result r c.spot-spot.ensures.graph c.spot-spot.ensures.form c.spot-spot.ensures.number c.spot-spot.ensures.point in
    passed_by r at asked text _ event line r' read next fits on _ _
    (subst (λ (s : Spot). AddsLine s (told r.app line) c.args.out.now.items c.put_event.new.text.items) spot c.in_ok-put_event.ensures)

pub returns-else-branch-clause-steps : goal.returns-else-branch-clause-steps
returns-else-branch-clause-steps c =
    let r = c.args.self.now in
    let refused = subst (λ (b : Bool). GoesOn r c.args.event.now c.args.line c.line_behind.result c.go_on.new.self b) c.if-branch.false c.in_ok-go_on.ensures.on in
    let words = subst (λ (s : Reading). OnOk c.stray-else-branch.result
    (AddsLine (spot_at s) (told false c.args.line) c.args.out.now.items c.stray-else-branch.new.out.items)) refused.0 c.stray-else-branch.ensures.words in
    stray_step r c.go_on.new.self c.args.line _ _ _ c.stray-else-branch.result words (rw refused.0 at c.stray-else-branch.ensures.step)
    c.args.event.now (λ text. inr refused.1)

pub returns-in_err-go_on-clause-room : goal.returns-in_err-go_on-clause-room
returns-in_err-go_on-clause-room c =
    let is : c.from_residual.result ≡ Err c.in_err-go_on.field-0.0 = search rules in
    let fits : is_of c.args.event.now c.args.line ≡ true = search rules in
    rw is (λ room at text read asked next.
    lacks_room c.args.self.now at c.args.event.now c.args.line _ c.line_behind.result text (c.in_err-go_on.ensures.room room)
    c.line_behind.ensures read asked next fits)

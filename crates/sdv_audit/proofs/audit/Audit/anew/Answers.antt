use Rattle.std.proofs.Common.{◌≡◌, Err, rules, [], ◌∷◌, ◌∙◌}
use Rattle.sdv_audit.specs.Course.{begun, goes_on}
use Rattle.sdv_audit.specs.Audited.{lines_told}
use Rattle.sdv_audit.proofs.Courses.{anew_at}
use Rattle.sdv_audit.proofs.RoomLaws.{begun_has_room, many_anew}
use Rattle.sdv_audit.proofs.audit.Audit.anew.Goals as goal

pub returns-clause-stands : goal.returns-clause-stands
returns-clause-stands c =
    c.in_ok-advance-2.ensures.stands (lines_told c.args.self.now.known.lines ∷ []) (c.in_ok-advance.ensures.stands [] c.in_ok-audit.ensures.stands)

pub returns-clause-course : goal.returns-clause-course
returns-clause-course c course at =
    anew_at c.advance-2.new.self c.args.self.now.kind c.in_ok-audit.audit.kind c.advance.new.self.kind c.args.told.now c.args.self.now.known course
    (c.in_ok-advance-2.ensures.course (goes_on c.in_ok-audit.audit.kind (lines_told c.args.self.now.known.lines) begun)
    (c.in_ok-advance.ensures.course begun c.in_ok-audit.ensures.begun))
    (c.in_ok-advance.ensures.kind ∙ c.in_ok-audit.ensures.kind) c.in_ok-audit.ensures.kind at.known

pub returns-in_err-advance-clause-room : goal.returns-in_err-advance-clause-room
returns-in_err-advance-clause-room c =
    let is : c.from_residual-in_err-advance.result ≡ Err c.in_err-advance.field-0.0 = search rules in
    rw is (λ e course at.
    absurd (begun_has_room c.in_ok-audit.audit.kind c.args.self.now.known.lines (c.in_err-advance.ensures.room e begun c.in_ok-audit.ensures.begun)))

pub returns-in_err-advance-2-clause-room : goal.returns-in_err-advance-2-clause-room
returns-in_err-advance-2-clause-room c =
    let is : c.from_residual-in_err-advance-2.result ≡ Err c.in_err-advance-2.field-0.0 = search rules in
    rw is (λ e course at.
    many_anew c.args.self.now.kind c.in_ok-audit.audit.kind c.advance.new.self.kind c.args.told.now c.args.self.now.known course
    (c.in_err-advance-2.ensures.room e (goes_on c.in_ok-audit.audit.kind (lines_told c.args.self.now.known.lines) begun)
    (c.in_ok-advance.ensures.course begun c.in_ok-audit.ensures.begun))
    (c.in_ok-advance.ensures.kind ∙ c.in_ok-audit.ensures.kind) c.in_ok-audit.ensures.kind at.known)

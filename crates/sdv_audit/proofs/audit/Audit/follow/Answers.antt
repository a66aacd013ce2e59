use Rattle.std.proofs.Common.{◌≡◌, subst, sym, ◌∙◌}
use Rattle.std.specs.Prelude.{IfErr}
use Rattle.std.proofs.lemmas.Result.{err_from_is_err_and}
use Rattle.sdv_card.specs.Lists.{May}
use Rattle.sdv_audit.specs.declared.fault.AuditFault.TheVariants.{Room}
use Rattle.sdv_audit.specs.Room.{AreMany}
use Rattle.sdv_audit.specs.Course.{Course, IsAt, course_here}
use Rattle.sdv_audit.proofs.Courses.{found_on_here, course_on_here, found_again_here, course_again_here}
use Rattle.sdv_audit.proofs.Audits.{followed_on, followed_again}
use Rattle.sdv_audit.proofs.RoomLaws.{room_on_here, room_again_here}
use Rattle.sdv_audit.proofs.audit.Audit.follow.Goals as goal

pub returns-then-not-resumes-clause-followed : goal.returns-then-not-resumes-clause-followed
returns-then-not-resumes-clause-followed c =
    followed_on c.args.self.now c.advance.new.self c.args.told.now c.advance.result (sym c.resumes.ensures ∙ c.if-not-resumes.true)
    c.advance.ensures.going_on c.advance.ensures.stands c.advance.ensures.turn c.advance.ensures.reckless c.advance.ensures.real
    c.advance.ensures.forbidden c.advance.ensures.unanswered c.advance.ensures.passed c.advance.ensures.beyond

pub returns-clause-followed : goal.returns-clause-followed
returns-clause-followed c =
    followed_again c.args.self.now c.in_ok-audit.audit c.args.told.now c.in_ok-audit.findings (sym c.resumes.ensures ∙ c.if-not-resumes.false)
    c.in_ok-audit.ensures.resumed c.in_ok-audit.ensures.stands c.in_ok-audit.ensures.forbidden c.in_ok-audit.ensures.unanswered

pub returns-then-not-resumes-clause-found : goal.returns-then-not-resumes-clause-found
returns-then-not-resumes-clause-found c =
    found_on_here c.args.self.now c.args.told.now c.advance.result (sym c.resumes.ensures ∙ c.if-not-resumes.true) c.advance.ensures.found

pub returns-then-not-resumes-clause-course : goal.returns-then-not-resumes-clause-course
returns-then-not-resumes-clause-course c =
    course_on_here c.args.self.now c.advance.new.self c.args.told.now c.advance.result (sym c.resumes.ensures ∙ c.if-not-resumes.true) c.advance.ensures.course

pub returns-then-not-resumes-clause-room : goal.returns-then-not-resumes-clause-room
returns-then-not-resumes-clause-room c =
    room_on_here c.args.self.now c.args.told.now c.advance.result (sym c.resumes.ensures ∙ c.if-not-resumes.true) c.advance.ensures.room

pub returns-clause-found : goal.returns-clause-found
returns-clause-found c =
    found_again_here c.args.self.now c.args.told.now c.in_ok-audit.findings (sym c.resumes.ensures ∙ c.if-not-resumes.false) c.in_ok-audit.ensures.found

pub returns-clause-course : goal.returns-clause-course
returns-clause-course c =
    course_again_here c.args.self.now c.in_ok-audit.audit c.args.told.now (sym c.resumes.ensures ∙ c.if-not-resumes.false) c.in_ok-audit.ensures.course

pub returns-in_err-audit-clause-room : goal.returns-in_err-audit-clause-room
returns-in_err-audit-clause-room c =
    let p = err_from_is_err_and c.from_residual.result c.from_residual.ensures.1 in
    subst (λ r. IfErr r (λ fault. fault ≡ Room → (course : Course) → IsAt c.args.self.now course →
    AreMany (May (course_here c.args.self.now.kind c.args.told.now course).shapes))) (sym p.1)
    (λ e course at.
    room_again_here c.args.self.now c.args.told.now course (sym c.resumes.ensures ∙ c.if-not-resumes.false) at
    (c.in_err-audit.ensures.room (sym p.2 ∙ e) course at))

use Rattle.std.proofs.Common.{◌≡◌, Err, rules, subst, sym, ◌∙◌}
use Rattle.std.specs.Prelude.{IfErr}
use Rattle.sdv_card.specs.Lists.{May}
use Rattle.sdv_audit.specs.declared.fault.AuditFault.TheVariants.{Room}
use Rattle.sdv_audit.specs.Room.{AreMany}
use Rattle.sdv_audit.specs.Course.{Course, IsAt, course_after}
use Rattle.sdv_audit.specs.Audited.{Behind}
use Rattle.sdv_audit.proofs.Audits.{unanswered_anew, stands_there, unanswered_there, followed_there, restarted_there, anew_there}
use Rattle.sdv_audit.proofs.Courses.{found_there, course_there, found_anew_so, course_anew}
use Rattle.sdv_audit.proofs.RoomLaws.{room_anew, room_there}
use Rattle.sdv_audit.proofs.audit.Audit.next.Goals as goal

pub returns-clause-unanswered : goal.returns-clause-unanswered
returns-clause-unanswered c e past b =
    unanswered_anew c.args.self.now c.in_ok-audit.audit c.args.told.now c.in_ok-audit.findings.resumed past c.in_ok-audit.ensures.kind
    c.in_ok-audit.ensures.stands (sym c.in_ok-audit.ensures.unanswered ∙ e)
    (subst (λ v. Behind v c.in_ok-audit.findings.resumed c.args.self.now c.args.told.now past) c.in_ok-audit.ensures.restarted.0 b)

pub returns-then-not-restarts-clause-stands : goal.returns-then-not-restarts-clause-stands
returns-then-not-restarts-clause-stands c = stands_there c.args.self.now c.follow.new.self c.args.told.now c.follow.result c.follow.ensures.followed

pub returns-then-not-restarts-clause-unanswered : goal.returns-then-not-restarts-clause-unanswered
returns-then-not-restarts-clause-unanswered c =
    unanswered_there c.args.self.now c.follow.new.self c.args.told.now c.follow.result c.follow.ensures.followed

pub returns-then-not-restarts-clause-followed : goal.returns-then-not-restarts-clause-followed
returns-then-not-restarts-clause-followed c =
    followed_there c.args.self.now c.follow.new.self c.args.told.now c.follow.result c.follow.ensures.followed

pub returns-then-not-restarts-clause-restarted : goal.returns-then-not-restarts-clause-restarted
returns-then-not-restarts-clause-restarted c =
    restarted_there c.args.self.now c.follow.new.self c.args.told.now c.follow.result (sym c.restarts.ensures ∙ c.if-not-restarts.true) c.follow.ensures.followed

pub returns-then-not-restarts-clause-anew : goal.returns-then-not-restarts-clause-anew
returns-then-not-restarts-clause-anew c =
    anew_there c.args.self.now c.follow.new.self c.args.told.now c.follow.result c.follow.ensures.followed

pub returns-then-not-restarts-clause-found : goal.returns-then-not-restarts-clause-found
returns-then-not-restarts-clause-found c =
    found_there c.args.self.now c.args.told.now c.follow.result (sym c.restarts.ensures ∙ c.if-not-restarts.true) c.follow.ensures.found

pub returns-then-not-restarts-clause-course : goal.returns-then-not-restarts-clause-course
returns-then-not-restarts-clause-course c =
    course_there c.args.self.now c.follow.new.self c.args.told.now c.follow.result (sym c.restarts.ensures ∙ c.if-not-restarts.true) c.follow.ensures.course

pub returns-clause-found : goal.returns-clause-found
returns-clause-found c course at =
    found_anew_so c.args.self.now c.in_ok-audit.audit c.args.told.now c.in_ok-audit.findings course (sym c.restarts.ensures ∙ c.if-not-restarts.false) at
    (c.in_ok-audit.ensures.course course at) c.in_ok-audit.ensures.turn c.in_ok-audit.ensures.legal c.in_ok-audit.ensures.unanswered
    c.in_ok-audit.ensures.bounds c.in_ok-audit.ensures.restarted.0 c.in_ok-audit.ensures.restarted.1

pub returns-clause-course : goal.returns-clause-course
returns-clause-course c course at =
    course_anew c.args.self.now c.in_ok-audit.audit c.args.told.now course (sym c.restarts.ensures ∙ c.if-not-restarts.false) at
    (c.in_ok-audit.ensures.course course at)

pub returns-then-not-restarts-clause-room : goal.returns-then-not-restarts-clause-room
returns-then-not-restarts-clause-room c =
    room_there c.args.self.now c.args.told.now c.follow.result (sym c.restarts.ensures ∙ c.if-not-restarts.true) c.follow.ensures.room

pub returns-in_err-audit-clause-room : goal.returns-in_err-audit-clause-room
returns-in_err-audit-clause-room c =
    let is : c.from_residual.result ≡ Err c.in_err-audit.field-0.0 = search rules in
    subst (λ r. IfErr r (λ fault. fault ≡ Room → (course : Course) → IsAt c.args.self.now course →
    AreMany (May (course_after c.args.self.now.kind c.args.told.now course).shapes))) (sym is)
    (λ e course at.
    room_anew c.args.self.now c.args.told.now course (sym c.restarts.ensures ∙ c.if-not-restarts.false) at
    (c.in_err-audit.ensures.room e course at))

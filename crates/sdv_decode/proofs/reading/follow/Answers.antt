use Rattle.std.proofs.Common.{◌≡◌, ◌∙◌, inl, inr, subst, sym}
use Rattle.std.specs.Prelude.{IfErr}
use Rattle.std.proofs.lemmas.Result.{err_from_is_err_and}
use Rattle.sdv_card.specs.Lists.{May}
use Rattle.sdv_audit.specs.declared.fault.AuditFault.TheVariants.{Room}
use Rattle.sdv_audit.specs.Course.{Course, IsAt, course_after}
use Rattle.sdv_audit.specs.Room.{AreMany}
use Rattle.sdv_decode.specs.Decoded.{course_before}
use Rattle.sdv_decode.specs.Room.{AreTooMany}
use Rattle.sdv_decode.proofs.CourseLaws.{at_behind, many_behind}
use Rattle.sdv_decode.proofs.reading.follow.Goals as goal

pub returns-clause-course : goal.returns-clause-course
returns-clause-course c course at =
    at_behind c.next.new.self c.args.audit.now.kind c.args.told.now (course_before c.args.audit.now.kind c.args.event.now course)
    (subst (λ k. IsAt c.next.new.self (course_after k c.args.told.now (course_before c.args.audit.now.kind c.args.event.now course)))
    c.in_ok-follow_before.ensures.kind
    (c.in_ok-next.ensures.course (course_before c.args.audit.now.kind c.args.event.now course) (c.in_ok-follow_before.ensures.course course at)))

pub returns-in_err-follow_before-clause-room : goal.returns-in_err-follow_before-clause-room
returns-in_err-follow_before-clause-room c =
    let p = err_from_is_err_and c.from_residual.result c.from_residual.ensures.1 in
    subst (λ r. IfErr r (λ fault. fault ≡ Room → (course : Course) → IsAt c.args.audit.now course →
    AreTooMany c.args.audit.now.kind c.args.event.now c.args.told.now course)) (sym p.1)
    (λ e course at. inl (c.in_err-follow_before.ensures.room (sym p.2 ∙ e) course at))

pub returns-in_err-next-clause-room : goal.returns-in_err-next-clause-room
returns-in_err-next-clause-room c =
    let p = err_from_is_err_and c.from_residual-in_err-next.result c.from_residual-in_err-next.ensures.1 in
    subst (λ r. IfErr r (λ fault. fault ≡ Room → (course : Course) → IsAt c.args.audit.now course →
    AreTooMany c.args.audit.now.kind c.args.event.now c.args.told.now course)) (sym p.1)
    (λ e course at. inr
    (many_behind c.args.audit.now.kind c.args.told.now (course_before c.args.audit.now.kind c.args.event.now course)
    (subst (λ k. AreMany (May (course_after k c.args.told.now (course_before c.args.audit.now.kind c.args.event.now course)).shapes))
    c.in_ok-follow_before.ensures.kind
    (c.in_err-next.ensures.room (sym p.2 ∙ e) (course_before c.args.audit.now.kind c.args.event.now course)
    (c.in_ok-follow_before.ensures.course course at)))))

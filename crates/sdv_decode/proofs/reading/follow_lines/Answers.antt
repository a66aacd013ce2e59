use Rattle.std.proofs.Common.{◌≡◌, ◌∙◌, subst, sym}
use Rattle.std.specs.Prelude.{IfErr}
use Rattle.std.proofs.lemmas.Result.{err_from_is_err_and}
use Rattle.sdv_card.specs.Lists.{May}
use Rattle.sdv_audit.specs.declared.fault.AuditFault.TheVariants.{Room}
use Rattle.sdv_audit.specs.Audited.{lines_told}
use Rattle.sdv_audit.specs.Course.{Course, IsAt}
use Rattle.sdv_audit.specs.Room.{AreMany}
use Rattle.sdv_decode.specs.Decoded.{uses}
use Rattle.sdv_decode.proofs.CourseLaws.{at_behind, many_behind}
use Rattle.sdv_decode.proofs.reading.follow_lines.Goals as goal

pub returns-clause-course : goal.returns-clause-course
returns-clause-course c course at =
    at_behind c.next.new.self c.args.audit.now.kind (lines_told c.args.width) course (c.in_ok-next.ensures.course course at)

pub returns-in_err-next-clause-room : goal.returns-in_err-next-clause-room
returns-in_err-next-clause-room c =
    let p = err_from_is_err_and c.from_residual.result c.from_residual.ensures.1 in
    subst (λ r. IfErr r (λ fault. fault ≡ Room → (course : Course) → IsAt c.args.audit.now course →
    AreMany (May (uses c.args.audit.now.kind c.args.width course).shapes))) (sym p.1)
    (λ e course at.
    many_behind c.args.audit.now.kind (lines_told c.args.width) course (c.in_err-next.ensures.room (sym p.2 ∙ e) course at))

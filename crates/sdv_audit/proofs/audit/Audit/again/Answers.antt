use Rattle.std.proofs.Common.{◌≡◌, Err, rules, subst, sym, true, [], ◌∷◌}
use Rattle.std.specs.Prelude.{IfErr}
use Rattle.sdv_card.specs.Lists.{May}
use Rattle.sdv_audit.specs.declared.fault.AuditFault.TheVariants.{Room}
use Rattle.sdv_audit.specs.Room.{AreMany}
use Rattle.sdv_audit.specs.Course.{Course, IsAt, any_state, goes_again}
use Rattle.sdv_audit.specs.Audited.{Stands, IsForbiddenThere, NoneAnswersBehind, address_told, running_told}
use Rattle.sdv_audit.proofs.Audits.{again_none}
use Rattle.sdv_audit.proofs.Courses.{again_at, found_again_at, if_some}
use Rattle.sdv_audit.proofs.RoomLaws.{many_again}
use Rattle.sdv_audit.proofs.audit.Audit.again.Goals as goal

pub returns-clause-stands : goal.returns-clause-stands
returns-clause-stands c past b =
    subst (λ v. Stands c.advance.new.self (c.args.told.now ∷ v)) (sym b)
    (c.in_ok-found.ensures.stands (running_told (address_told c.args.told.now.line c.args.self.now.known) c.args.self.now.known.lines ∷ [])
    (subst (λ v. Stands c.in_ok-audit.audit (running_told v c.args.self.now.known.lines ∷ [])) c.address_told-rca.ensures
    c.in_ok-audit.ensures.stands))

pub returns-clause-unanswered : goal.returns-clause-unanswered
returns-clause-unanswered c e =
    again_none c.args.self.now c.in_ok-audit.audit c.args.told.now c.in_ok-audit.ensures.kind
    (subst (λ v. Stands c.in_ok-audit.audit (running_told v c.args.self.now.known.lines ∷ [])) c.address_told-rca.ensures
    c.in_ok-audit.ensures.stands) (c.in_ok-found.ensures.unanswered e)

pub returns-clause-forbidden : goal.returns-clause-forbidden
returns-clause-forbidden c =
    if_some c.in_ok-found.found.reckless (IsForbiddenThere c.in_ok-audit.audit c.args.told.now)
    (λ s. NoneAnswersBehind true c.args.self.now c.args.told.now) c.in_ok-found.ensures.forbidden
    (λ s f.
    again_none c.args.self.now c.in_ok-audit.audit c.args.told.now c.in_ok-audit.ensures.kind
    (subst (λ v. Stands c.in_ok-audit.audit (running_told v c.args.self.now.known.lines ∷ [])) c.address_told-rca.ensures
    c.in_ok-audit.ensures.stands) (f c.in_ok-audit.ensures.course.running))

pub returns-clause-course : goal.returns-clause-course
returns-clause-course c course at =
    again_at c.advance.new.self c.in_ok-audit.audit.kind c.args.self.now.kind c.args.told.now c.args.self.now.known course
    (c.in_ok-found.ensures.course (any_state c.args.self.now.kind (address_told c.args.told.now.line c.args.self.now.known) c.args.self.now.known.lines)
    (subst (λ v. IsAt c.in_ok-audit.audit (any_state c.args.self.now.kind v c.args.self.now.known.lines)) c.address_told-rca.ensures
    c.in_ok-audit.ensures.course)) c.in_ok-audit.ensures.kind at.known

pub returns-clause-found : goal.returns-clause-found
returns-clause-found c course at =
    found_again_at c.in_ok-found.found c.in_ok-audit.audit.kind c.args.self.now.kind c.args.told.now c.args.self.now.known course
    (c.in_ok-found.ensures.found (any_state c.args.self.now.kind (address_told c.args.told.now.line c.args.self.now.known) c.args.self.now.known.lines)
    (subst (λ v. IsAt c.in_ok-audit.audit (any_state c.args.self.now.kind v c.args.self.now.known.lines)) c.address_told-rca.ensures
    c.in_ok-audit.ensures.course)) c.in_ok-audit.ensures.kind at.known

pub returns-in_err-found-clause-room : goal.returns-in_err-found-clause-room
returns-in_err-found-clause-room c =
    let is : c.from_residual-in_err-found.result ≡ Err c.in_err-found.field-0.0 = search rules in
    subst (λ r. IfErr r (λ fault. fault ≡ Room → (course : Course) → IsAt c.args.self.now course →
    AreMany (May (goes_again c.args.self.now.kind c.args.told.now course).shapes))) (sym is)
    (λ e course at.
    many_again c.in_ok-audit.audit.kind c.args.self.now.kind c.args.told.now c.args.self.now.known course
    (c.in_err-found.ensures.room e (any_state c.args.self.now.kind (address_told c.args.told.now.line c.args.self.now.known) c.args.self.now.known.lines)
    (subst (λ v. IsAt c.in_ok-audit.audit (any_state c.args.self.now.kind v c.args.self.now.known.lines)) c.address_told-rca.ensures
    c.in_ok-audit.ensures.course)) c.in_ok-audit.ensures.kind at.known)

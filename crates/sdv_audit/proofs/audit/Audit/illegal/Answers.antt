use Rattle.std.proofs.Common.{◌≡◌, Bool, not, true, subst, sym, ◌∙◌}
use Rattle.std.specs.Prelude.{IfSome, IsTrue, MatchOption, ◌↔◌}
use Rattle.sdv_card.specs.declared.shape.Shape.{Shape}
use Rattle.sdv_card.specs.Lists.{May}
use Rattle.sdv_card.specs.LegalShapes.{legal_code}
use Rattle.sdv_audit.specs.declared.turn.Turn.TheVariants.{Does}
use Rattle.sdv_audit.specs.Turns.{event_at}
use Rattle.sdv_audit.specs.Course.{IsLeast}
use Rattle.sdv_audit.specs.Audited.{AllLegal, NotReckless, IsForbidden, IsIllegalAt}
use Rattle.sdv_audit.proofs.Courses.{illegal_is, left_by, if_some, forbidden_by, not_is, reckless_so}
use Rattle.sdv_audit.proofs.audit.Audit.illegal.Goals as goal

pub returns-clause-found : goal.returns-clause-found
returns-clause-found c =
    let test : Shape → Bool = λ s. not (legal_code c.args.self.now.kind s.0 (event_at c.args.deed.now s.0)) in
    subst (λ v. MatchOption v (NotReckless c.args.self.now (Does c.args.deed.now)) (IsIllegalAt c.args.self.now (Does c.args.deed.now)))
    (sym c.left.ensures)
    (left_by c.args.self.now.running c.is_forbidden-forbidden.result c.least_illegal-least.result (AllLegal c.args.self.now (Does c.args.deed.now))
    (IsIllegalAt c.args.self.now (Does c.args.deed.now))
    (illegal_is c.args.self.now c.args.deed.now c.least_illegal-least.result
    (subst (λ v. IsLeast test v c.least_illegal-least.result) c.as_slice-shapes.ensures.value c.least_illegal-least.ensures)))

pub returns-clause-forbidden : goal.returns-clause-forbidden
returns-clause-forbidden c =
    subst (λ v. IfSome v (IsForbidden c.args.self.now (Does c.args.deed.now))) (sym c.left.ensures)
    (if_some _ (λ s. c.args.self.now.running ≡ true → c.is_forbidden-forbidden.result ≡ true) (IsForbidden c.args.self.now (Does c.args.deed.now))
    (forbidden_by c.args.self.now.running c.is_forbidden-forbidden.result c.least_illegal-least.result)
    (λ s f e t m.
    not_is (legal_code c.args.self.now.kind t.0 (event_at c.args.deed.now t.0))
    (c.is_forbidden-forbidden.ensures.0 (f e) t (subst (λ v. May v t) (sym c.as_slice-shapes.ensures.value) m))))

pub returns-clause-least : goal.returns-clause-least
returns-clause-least c shapes same =
    let test : Shape → Bool = λ s. not (legal_code c.args.self.now.kind s.0 (event_at c.args.deed.now s.0)) in
    c.left.ensures
    ∙ reckless_so c.args.self.now.running c.args.self.now.kind c.args.deed.now c.args.self.now.shapes.items shapes c.least_illegal-least.result
    c.is_forbidden-forbidden.result same
    (subst (λ v. IsTrue c.is_forbidden-forbidden.result ↔ ((s : Shape) → May v s → test s ≡ true)) c.as_slice-shapes.ensures.value
    c.is_forbidden-forbidden.ensures)
    (subst (λ v. IsLeast test v c.least_illegal-least.result) c.as_slice-shapes.ensures.value c.least_illegal-least.ensures)

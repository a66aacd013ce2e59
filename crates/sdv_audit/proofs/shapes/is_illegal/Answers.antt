use Rattle.std.proofs.Common.{ap, not, ◌∙◌}
use Rattle.sdv_card.specs.LegalShapes.{legal_code}
use Rattle.sdv_audit.proofs.Courses.{alike}
use Rattle.sdv_audit.proofs.shapes.is_illegal.Goals as goal

pub returns : goal.returns
returns c =
    ap not (alike c.legal.result (legal_code c.args.kind c.args.shape.0 c.event_at-event.result) c.legal.ensures.0 c.legal.ensures.1)
    ∙ ap (λ v. not (legal_code c.args.kind c.args.shape.0 v)) c.event_at-event.ensures

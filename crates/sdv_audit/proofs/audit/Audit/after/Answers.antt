use Rattle.std.proofs.Common.{◌↔◌, sym, subst}
use Rattle.std.specs.Prelude.{IfOk}
use Rattle.sdv_card.specs.declared.shape.Shape.{Shape}
use Rattle.sdv_card.specs.Lists.{May}
use Rattle.sdv_audit.specs.Carried.{Follows}
use Rattle.sdv_audit.proofs.audit.Audit.after.Goals as goal

pub returns-in-Resumes-clause-members : goal.returns-in-Resumes-clause-members
returns-in-Resumes-clause-members c =
    subst (λ t. IfOk c.any_behind.result (λ all. (s : Shape) → May all.items s ↔
    Follows c.args.self.now.kind t c.args.line.now c.args.self.now.known c.args.self.now.shapes.items s)) (sym c.in-Resumes.is)
    c.any_behind.ensures.members

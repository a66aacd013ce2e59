use Rattle.std.proofs.Common.{◌↔◌, ◌∙◌, sym, subst}
use Rattle.sdv_card.specs.Lists.{May}
use Rattle.sdv_audit.specs.Carried.{AnyBehind}
use Rattle.sdv_audit.proofs.Courses.{none_behind, all_behind}
use Rattle.sdv_audit.proofs.audit.Audit.any_behind.Goals as goal

pub returns-then-waits-clause-members : goal.returns-then-waits-clause-members
returns-then-waits-clause-members c s =
    subst (λ v. May v s ↔ AnyBehind c.args.self.now.kind c.args.lines c.args.self.now.shapes.items s) (sym c.new.ensures.items)
    (none_behind c.args.self.now.kind c.args.lines c.args.self.now.shapes.items s (sym c.waits.ensures ∙ c.if-waits.true))

pub returns-clause-members : goal.returns-clause-members
returns-clause-members c s =
    all_behind c.args.self.now.kind c.args.lines c.args.self.now.shapes.items c.in_ok-all.all.items s (sym c.waits.ensures ∙ c.if-waits.false)
    c.in_ok-all.ensures

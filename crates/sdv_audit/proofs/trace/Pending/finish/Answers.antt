use Rattle.std.proofs.Common.{◌≡◌, IfErr, OnOk, List, None, Option, ℕ, sym, subst}
use Rattle.sdv_registers.specs.declared.kind.Kind.{Kind}
use Rattle.sdv_audit.specs.declared.texts.Numbered.{Numbered}
use Rattle.sdv_audit.specs.declared.style.Style.{Style}
use Rattle.sdv_audit.specs.declared.fault.NoteFault.TheVariants.{Room}
use Rattle.sdv_audit.specs.AuditedTrace.{Written, Finished, NoRoom}
use Rattle.sdv_audit.proofs.TraceLaws.{finish_last, finish_room, none_held}
use Rattle.sdv_audit.proofs.trace.Pending.finish.Goals as goal

pub returns-in-Some-clause-finished : goal.returns-in-Some-clause-finished
returns-in-Some-clause-finished g c =
    subst (λ h. OnOk c.take.result ((k : Kind) (style : Style) (read : List Numbered) (old : Option (List ℕ)) →
    Written c.args.self.now.report h k style read old (g.W.Write.contents c.args.out.now) →
    Finished c.take.new.self k style read old (g.W.Write.contents c.take.new.out))) (sym c.in-Some.is)
    (finish_last c.take.result c.args.self.now.report c.take.new.self c.in-Some.last (g.W.Write.contents c.args.out.now) (g.W.Write.contents c.take.new.out)
    c.take.ensures.kind c.take.ensures.style c.take.ensures.course c.take.ensures.written)

pub returns-in-None-clause-finished : goal.returns-in-None-clause-finished
returns-in-None-clause-finished g c k style read old wr =
    none_held c.args.self.now.report k style read old (g.W.Write.contents c.args.out.now)
    (subst (λ h. Written c.args.self.now.report h k style read old (g.W.Write.contents c.args.out.now)) c.in-None.is wr)

pub returns-in-Some-clause-room : goal.returns-in-Some-clause-room
returns-in-Some-clause-room g c =
    subst (λ h. IfErr c.take.result (λ fault. fault ≡ Room → (k : Kind) (style : Style) (read : List Numbered) (old : Option (List ℕ)) →
    Written c.args.self.now.report h k style read old (g.W.Write.contents c.args.out.now) → NoRoom k style read None)) (sym c.in-Some.is)
    (finish_room c.take.result c.args.self.now.report c.in-Some.last (g.W.Write.contents c.args.out.now) c.take.ensures.room)

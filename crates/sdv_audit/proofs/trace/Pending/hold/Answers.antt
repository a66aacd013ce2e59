use Rattle.std.proofs.Common.{◌≡◌, ◌++◌, ℕ, List, [], ◌∷◌, Option, Some, sym, subst, ◌∙◌}
use Rattle.std.specs.Prelude.{IfErr}
use Rattle.std.proofs.lemmas.Result.{err_from_is_err_and}
use Rattle.sdv_registers.specs.declared.kind.Kind.{Kind}
use Rattle.sdv_audit.specs.declared.style.Style.{Style}
use Rattle.sdv_audit.specs.declared.texts.Numbered.{Numbered}
use Rattle.sdv_audit.specs.declared.fault.NoteFault.TheVariants as note_faults
use Rattle.sdv_audit.specs.AuditedTrace.{Written, NoRoom}
use Rattle.sdv_audit.proofs.TraceLaws.{first_held, next_held, no_room}
use Rattle.sdv_audit.proofs.trace.Pending.hold.Goals as goal
use Rattle.sdv_audit.proofs.trace.Pending.hold.Goals.{in-Some+in_ok-take-in-Some, in-None}

pub returns-clause-written : goal.returns-clause-written
returns-clause-written g c k style read old wr =
    elim c.match-self.branch [
      | in-Some+in_ok-take-in-Some w ↦
          subst (λ v. Written v.report (Some c.args.line) k style (read ++ c.args.line ∷ []) old (g.W.Write.contents c.match-self.out)) (sym w.self-is)
          (subst (λ v. Written w.take.new.self (Some c.args.line) k style (read ++ c.args.line ∷ []) old (g.W.Write.contents v)) (sym w.out-is)
          (next_held c.args.self.now.report w.take.new.self k style read w.in-Some.before c.args.line old (g.W.Write.contents c.args.out.now)
          (g.W.Write.contents w.take.new.out)
          (subst (λ h. Written c.args.self.now.report h k style read old (g.W.Write.contents c.args.out.now)) w.in-Some.is wr)
          (record {
            kind = w.take.ensures.kind;
            style_is = w.take.ensures.style;
            course = w.in_ok-take-in-Some.ensures.course;
            written = w.in_ok-take-in-Some.ensures.written;
          })))
      | in-None w ↦
          subst (λ v. Written v.report (Some c.args.line) k style (read ++ c.args.line ∷ []) old (g.W.Write.contents c.match-self.out)) (sym w.self-is)
          (subst (λ v. Written c.args.self.now.report (Some c.args.line) k style (read ++ c.args.line ∷ []) old (g.W.Write.contents v)) (sym w.out-is)
          (first_held c.args.self.now.report k style read c.args.line old (g.W.Write.contents c.args.out.now)
          (subst (λ h. Written c.args.self.now.report h k style read old (g.W.Write.contents c.args.out.now)) w.in-None.is wr)))
    ]

pub returns-in_err-take-in-Some-clause-room : goal.returns-in_err-take-in-Some-clause-room
returns-in_err-take-in-Some-clause-room g c =
    let p = err_from_is_err_and c.from_residual.result c.from_residual.ensures.1 in
    subst (λ r. IfErr r (λ fault. fault ≡ note_faults.Room → (k : Kind) (style : Style) (read : List Numbered) (old : Option (List ℕ)) →
    Written c.args.self.now.report c.args.self.now.held k style read old (g.W.Write.contents c.args.out.now) →
    NoRoom k style read (Some c.args.line.line))) (sym p.1)
    (λ e k style read old wr.
    no_room c.args.self.now.report c.in-Some.before (Some c.args.line.line) k style read old (g.W.Write.contents c.args.out.now)
    (subst (λ h. Written c.args.self.now.report h k style read old (g.W.Write.contents c.args.out.now)) c.in-Some.is wr)
    (c.in_err-take-in-Some.ensures.room (sym p.2 ∙ e)))

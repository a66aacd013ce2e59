use Rattle.std.proofs.Common.{◌≡◌, ◌∙◌, ap, subst, sym}
use Rattle.std.specs.Prelude.{IfErr}
use Rattle.std.specs.Io.KnownBytes.{Appends}
use Rattle.std.proofs.lemmas.Result.{err_from_is_err_and}
use Rattle.sdv_card.specs.Lists.{May}
use Rattle.sdv_audit.specs.Room.{AreMany}
use Rattle.sdv_audit.specs.Report.{Progress, ReportAt, progress_after}
use Rattle.sdv_audit.specs.declared.fault.NoteFault.TheVariants as note_faults
use Rattle.sdv_audit.specs.Course.{IsAt, course_after, found_at}
use Rattle.sdv_audit.specs.Notes.{HasNotes, has_number, notes_at, tally_after}
use Rattle.sdv_audit.specs.declared.notes.TheConstants.{TOPICS}
use Rattle.sdv_audit.specs.declared.style.Premises.{Premises}
use Rattle.sdv_audit.proofs.ReportLaws.{notes_same, premises_so, report_after, take_room}
use Rattle.sdv_audit.proofs.report.Report.take.Goals as goal

pub returns-in-Ok-clause-course : goal.returns-in-Ok-clause-course
returns-in-Ok-clause-course g c p at =
    report_after c.args.self.now.kind c.args.self.now.style c.args.self.now
    (record {
      alloc = c.args.self.now.alloc;
      kind = c.args.self.now.kind;
      style = c.args.self.now.style;
      audit = c.next.new.self;
      tally = c.after-self.result;
      csd_line = c.csd_line_after-self.result;
    })
    p c.args.told.now c.in_ok-found.found at
    (c.in_ok-found.ensures.found p.course at.course ∙ ap (λ v. found_at v c.args.told.now p.course) at.kind)
    (c.in_ok-found.ensures.kind ∙ at.kind)
    (subst (λ v. IsAt c.next.new.self (course_after v c.args.told.now p.course)) at.kind (c.in_ok-found.ensures.course p.course at.course))
    (c.after-self.ensures
    ∙ (ap (λ b. tally_after b c.waits-waits.result c.in_ok-found.found c.args.self.now.tally) c.numbers-numbered.ensures
    ∙ ap (λ b. tally_after (has_number c.args.self.now.style c.args.told.now.line) b c.in_ok-found.found c.args.self.now.tally) c.waits-waits.ensures))

pub returns-in-Ok-clause-written : goal.returns-in-Ok-clause-written
returns-in-Ok-clause-written g c p at = (
  c.in_ok-text.text.items,
  notes_same c.args.self.now.kind c.args.self.now.style p c.args.told.now c.in_ok-found.found c.args.number c.in_ok-text.text.items
      (c.in_ok-found.ensures.found p.course at.course ∙ ap (λ v. found_at v c.args.told.now p.course) at.kind)
      (subst (λ (v : Premises). HasNotes c.args.self.now.style (notes_at c.args.self.now.style c.args.number c.args.told.now.line v c.in_ok-found.found TOPICS)
      c.in_ok-text.text.items)
      (c.of.ensures ∙ premises_so c.args.self.now p c.in_ok-found.found c.is_running-running.result c.is_bounded-bounded.result at
      c.is_running-running.ensures c.is_bounded-bounded.ensures)
      c.in_ok-text.ensures),
  subst (λ v. Appends (g.W.Write.contents c.args.out.now) (g.W.Write.contents c.write_text.new.out) v) c.as_slice.ensures.value c.in-Ok.ensures,
)

pub returns-in_err-found-clause-room : goal.returns-in_err-found-clause-room
returns-in_err-found-clause-room g c =
    let p = err_from_is_err_and c.from_residual-in_err-found.result c.from_residual-in_err-found.ensures.1 in
    subst (λ r. IfErr r (λ fault. fault ≡ note_faults.Room → (p : Progress) → ReportAt c.args.self.now p →
    AreMany (May (progress_after c.args.self.now.kind c.args.self.now.style p c.args.told.now).course.shapes))) (sym p.1)
    (λ e. take_room c.in_err-found.field-0.0 c.args.self.now c.args.told.now c.in_err-found.ensures.room (sym p.2 ∙ e))

pub returns-clause-room : goal.returns-clause-room
returns-clause-room g c e = absurd (let f : note_faults.Write ≡ note_faults.Room = e in cc)

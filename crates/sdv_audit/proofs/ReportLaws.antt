-- The notes on a line are those of the course at which the audit stands.
use Rattle.std.proofs.Common.{◌≡◌, ℕ, Bool, refl, ap, subst, ◌∙◌}
use Rattle.sdv_registers.specs.declared.kind.Kind.{Kind}
use Rattle.sdv_card.specs.Lists.{May}
use Rattle.sdv_telling.specs.Statements.{Text}
use Rattle.sdv_audit.specs.declared.audit.Findings.{Findings}
use Rattle.sdv_audit.specs.declared.notes.TheConstants.{TOPICS}
use Rattle.sdv_audit.specs.declared.turn.Told.{Told}
use Rattle.sdv_audit.specs.Course.{Course, IsAt, course_after, found_at}
use Rattle.sdv_audit.specs.Audited.{is_empty}
use Rattle.sdv_audit.specs.Room.{AreMany}
use Rattle.sdv_audit.proofs.Courses.{empty_same}
use Rattle.sdv_audit.specs.declared.fault.AuditFault.{AuditFault}
use Rattle.sdv_audit.specs.declared.fault.AuditFault.TheVariants as audit_faults
use Rattle.sdv_audit.specs.declared.fault.NoteFault.TheVariants as note_faults
use Rattle.sdv_audit.specs.Faults.{fault_of_audit}
use Rattle.sdv_audit.specs.declared.style.Style.{Style}
use Rattle.sdv_audit.specs.declared.report.Report.{Report}
use Rattle.sdv_audit.specs.Notes.{HasNotes, has_number, notes_at, premises_of, tally_after}
use Rattle.sdv_audit.specs.declared.style.Tally.{Tally}
use Rattle.sdv_audit.specs.Report.{Progress, ReportAt, line_notes, premises_at, progress_after}

-- the notes on a line, by what is found there
pub notes_same : (k : Kind) (style : Style) (p : Progress) (told : Told) (found : Findings) (number : ℕ) (text : Text) →
    found ≡ found_at k told p.course → HasNotes style (notes_at style number told.line (premises_at p found) found TOPICS) text →
    HasNotes style (line_notes k style p number told) text
notes_same k style p told found number text is h =
    subst (λ (f : Findings). HasNotes style (notes_at style number told.line (premises_at p f) f TOPICS) text) is h

-- what a note rests on, from what the report has
pub premises_so : (report : Report) (p : Progress) (found : Findings) (running bounded : Bool) → ReportAt report p → running ≡ report.audit.running →
    bounded ≡ report.audit.bounded → premises_of running bounded report.tally.outside found ≡ premises_at p found
premises_so report p found running bounded at e f =
    ap (λ v. premises_of v bounded report.tally.outside found) (e ∙ at.course.running)
    ∙ (ap (λ v. premises_of p.course.running v report.tally.outside found) (f ∙ at.course.bounded)
    ∙ ap (λ (v : Tally). premises_of p.course.running p.course.bounded v.outside found) at.tally)

-- the report after a line
pub report_after : (k : Kind) (style : Style) (old new : Report) (p : Progress) (told : Told) (found : Findings) → ReportAt old p → found ≡ found_at k told p.course →
    new.audit.kind ≡ new.kind → IsAt new.audit (course_after k told p.course) →
    new.tally ≡ tally_after (has_number style told.line) (is_empty old.audit.shapes.items) found old.tally → ReportAt new (progress_after k style p told)
report_after k style old new p told found at is kind course tally = record {
  kind = kind;
  course = course;
  tally = tally
      ∙ (ap (λ v. tally_after (has_number style told.line) v found old.tally) (empty_same old.audit.shapes.items p.course.shapes at.course.shapes)
      ∙ (ap (λ f. tally_after (has_number style told.line) (is_empty p.course.shapes) f old.tally) is
      ∙ ap (tally_after (has_number style told.line) (is_empty p.course.shapes) (found_at k told p.course)) at.tally));
}

-- TOO MANY SHAPES follow a line

room_is : (f : AuditFault) → fault_of_audit f ≡ note_faults.Room → f ≡ audit_faults.Room
room_is audit_faults.Memory e = absurd (cc)
room_is audit_faults.Room e = refl

pub take_room : (f : AuditFault) (report : Report) (told : Told) →
    (f ≡ audit_faults.Room → (c : Course) → IsAt report.audit c → AreMany (May (course_after report.audit.kind told c).shapes)) →
    fault_of_audit f ≡ note_faults.Room → (p : Progress) → ReportAt report p → AreMany (May (progress_after report.kind report.style p told).course.shapes)
take_room f report told many e p at =
    subst (λ v. AreMany (May (course_after v told p.course).shapes)) at.kind (many (room_is f e) p.course at.course)

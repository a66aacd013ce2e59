-- How an audit ends.
use Rattle.std.proofs.Common.{◌≡◌, ap, refl, subst, ℕ, Bool, List, Option, Some, None, Result, Ok, Err, IsErrAnd}
use Rattle.std.specs.Prelude.{IfSome, if◌then◌else◌}
use Rattle.sdv_registers.specs.declared.kind.Kind.{Kind}
use Rattle.sdv_audit.specs.AuditedTrace.{Audits}
use Rattle.sdv_audit.specs.Notes.{has_findings}
use Rattle.sdv_audit.specs.declared.fault.TraceFault.{TraceFault}
use Rattle.sdv_audit.specs.declared.style.Style.{Style}
use Rattle.sdv_audit.specs.declared.style.Tally.{Tally}
use Rattle.sdv_program.specs.Fault.{fault_of_trace}
use Rattle.sdv_program.specs.declared.fault.Fault.{Fault}
use Rattle.sdv_program.specs.declared.fault.Fault.TheVariants.{Found}
use Rattle.sdv_program.specs.Requests.{AuditNames}
use Rattle.sdv_program.specs.Files.{Files}
use Rattle.sdv_program.specs.Outcomes.{outcome_of}
use Rattle.sdv_program.proofs.OutcomeLaws.{failed}
use Rattle.sdv_program.proofs.StartLaws.{keeps_same}
use Rattle.sdv_commands.specs.Audit.{AuditEnds, AuditsFile, AuditsReader, NoTrace, no_trace, style_of}
use Rattle.sdv_commands.specs.Batch.{kind_named}

abbrev pub found_if : Bool → Option Fault
found_if found = if found then Some Found else None

module _ (kind : Kind) (style : Style) (trace left before after : Option (List ℕ)) where
  -- the audit stopped
  pub by_fault : (fault : TraceFault) → Audits kind style trace left before after (Err fault)
      → AuditsReader kind style trace (Some (fault_of_trace fault)) before after
  by_fault fault audited = record { left = left; result = Err fault; audited = audited; outcome_is = refl }

  -- it came to its end
  pub by_tally : (tally : Tally) (found : Bool) → found ≡ has_findings tally → Audits kind style trace left before after (Ok tally)
      → AuditsReader kind style trace (found_if found) before after
  by_tally tally found is audited = record { left = left; result = Ok tally; audited = audited; outcome_is = ap found_if is }

module _ (files : Files) (names : AuditNames) (kind : Kind) (named : kind_named names.kind ≡ Some kind) where
  -- the trace is not begun
  pub untraced : {T : Type 0} (known : Option (List ℕ)) (fault : Fault) → NoTrace files names.trace (Some fault) → (r : Result T Fault)
      → IsErrAnd r (λ f. f ≡ fault) → AuditEnds files names (outcome_of r) known known
  untraced known fault none r was =
      failed (λ outcome. AuditEnds files names outcome known known) fault r was (no_trace kind named none (keeps_same known))

  -- a reader that has left what the file gives was audited
  pub of_reader : (read left : Option (List ℕ)) (told : Option Fault) (before after : Option (List ℕ)) → read ≡ left
      → files.streamed names.trace left → IfSome left (λ bytes. files.gives names.trace bytes)
      → AuditsReader kind (style_of names) read told before after → AuditsFile files names told before after
  of_reader read left told before after same streamed gives was = record {
    kind = kind;
    kind_is = named;
    trace = left;
    streamed = streamed;
    given = gives;
    audited = subst (λ trace. AuditsReader kind (style_of names) trace told before after) same was;
  }

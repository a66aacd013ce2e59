-- `audit KIND TRACE`: the report on the trace of a file is printed while the trace is read.
use Rattle.std.specs.Prelude.{◌≡◌, ℕ, List, Option, Some, None, Result, Ok, Err, IfSome, false, if◌then◌else◌}
use Rattle.std.specs.Io.KnownBytes.{Keeps}
use Rattle.clap.specs.Words.{Text}
use Rattle.sdv_registers.specs.declared.kind.Kind.{Kind}
use Rattle.sdv_audit.specs.AuditedTrace.{Audits}
use Rattle.sdv_audit.specs.Notes.{has_findings}
use Rattle.sdv_audit.specs.declared.fault.TraceFault.{TraceFault}
use Rattle.sdv_audit.specs.declared.style.Style.{Style}
use Rattle.sdv_audit.specs.declared.style.Tally.{Tally}
use Rattle.sdv_program.specs.Requests.{AuditNames}
use Rattle.sdv_program.specs.Fault.{fault_of_trace}
use Rattle.sdv_program.specs.declared.fault.Fault.{Fault}
use Rattle.sdv_program.specs.declared.fault.Fault.TheVariants.{Usage, File, Found, Memory}
use Rattle.sdv_program.specs.Files.{Files}
use Rattle.sdv_commands.specs.Batch.{kind_named}

-- an audit that found something ends by a fault, but not where it found lines outside the tables alone
abbrev pub ended_by : Result Tally TraceFault → Option Fault
ended_by (Ok tally) = if has_findings tally then Some Found else None
ended_by (Err fault) = Some (fault_of_trace fault)

-- what a reader had left, where that is known, was audited as the trace of a host beside a card of this kind
pub record AuditsReader (kind : Kind) (style : Style) (trace : Option (List ℕ)) (outcome : Option Fault)
    (before after : Option (List ℕ)) : Type 0 where
  pub left : Option (List ℕ)
  pub result : Result Tally TraceFault
  pub audited : Audits kind style trace left before after result
  pub outcome_is : outcome ≡ ended_by result

abbrev pub style_of : AuditNames → Style
style_of names =
    record { json = names.json; annotate = names.annotate; put_in = false; running = names.running }

-- the file of this name could not be opened or read
abbrev pub IsUnread : Files → (wanted : Text) → Option Fault → Type 0
IsUnread files wanted (Some (File file)) = (file.now ≡ wanted) × files.unread wanted
IsUnread files wanted outcome = ⊥

-- why there is no trace; want of memory says nothing
abbrev pub NoTrace : Files → (wanted : Text) → Option Fault → Type 0
NoTrace files wanted (Some Memory) = Unit {0}
NoTrace files wanted outcome = IsUnread files wanted outcome

-- The reader of the file was audited from its start, beside a card of the kind that is named: what it had left is what the
-- file gives, where it is known. `told` is how the audit ended.
pub record AuditsFile (files : Files) (names : AuditNames) (told : Option Fault) (before after : Option (List ℕ))
    : Type 0 where
  pub kind : Kind
  pub kind_is : kind_named names.kind ≡ Some kind
  pub trace : Option (List ℕ)
  pub streamed : files.streamed names.trace trace
  pub given : IfSome trace (λ bytes. files.gives names.trace bytes)
  pub audited : AuditsReader kind (style_of names) trace told before after

pub data AuditEnds (files : Files) (names : AuditNames) (outcome : Option Fault) (before after : Option (List ℕ))
    : Type 0 where
  -- there is no such kind of card
  no_kind : kind_named names.kind ≡ None → outcome ≡ Some Usage → Keeps before after
      → AuditEnds files names outcome before after
  -- there is, and the trace is not begun
  no_trace : (kind : Kind) → kind_named names.kind ≡ Some kind → NoTrace files names.trace outcome → Keeps before after
      → AuditEnds files names outcome before after
  -- a read of the file failed, and the command tells that in place of the audit's own ending
  broken_off : (told : Option Fault) → AuditsFile files names told before after → IsUnread files names.trace outcome
      → AuditEnds files names outcome before after
  -- what the file gives was audited, and no read of it failed
  audits : AuditsFile files names outcome before after → files.read_well names.trace
      → AuditEnds files names outcome before after

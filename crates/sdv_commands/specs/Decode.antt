-- `audit KIND TRACE --script SCRIPT [--registers FILE] [--json] [--svg]`: the lines of the trace of a file are printed, each
-- with the line of the script that it is of, and what it means; in words, as JSON, or as a picture. Behind the words stands the
-- report on the trace, which is audited with the data lines that the script's host uses.
use Rattle.std.specs.Prelude.{◌≡◌, ◌≢◌, ◌⊎◌, ℕ, List, Option, Some, None, Result, Ok, Err, false, if◌then◌else◌}
use Rattle.std.specs.Io.KnownBytes.{Appends, Keeps}
use Rattle.clap.specs.Words.{Text}
use Rattle.sdv_registers.specs.declared.kind.Kind.{Kind}
use Rattle.sdv_graph.specs.Graph.{Graph}
use Rattle.sdv_check.specs.Verified.{IsGraphOfText, IsNoScript}
use Rattle.sdv_audit.specs.Notes.{has_findings}
use Rattle.sdv_audit.specs.declared.fault.AuditFault.{AuditFault}
use Rattle.sdv_audit.specs.declared.fault.AuditFault.TheVariants as audits
use Rattle.sdv_audit.specs.declared.fault.TraceFault.{TraceFault}
use Rattle.sdv_audit.specs.declared.fault.TraceFault.TheVariants as traces
use Rattle.sdv_audit.specs.declared.style.Style.{Style}
use Rattle.sdv_decode.specs.Decoded.{Decodes, at_first}
use Rattle.sdv_decode.specs.Beside.{AuditsBeside}
use Rattle.sdv_decode.specs.Lines.{lines_in}
use Rattle.sdv_decode.specs.Room.{StopsByRoom}
use Rattle.sdv_decode.specs.declared.beside.Beside.{Beside}
use Rattle.sdv_decode.specs.declared.fault.TraceOff.{TraceOff}
use Rattle.sdv_decode.specs.declared.fault.TraceOff.TheVariants as offs
use Rattle.sdv_decode.specs.declared.form.Form.{Form}
use Rattle.sdv_decode.specs.declared.form.Form.TheVariants as forms
use Rattle.sdv_program.specs.Requests.{DecodeNames}
use Rattle.sdv_program.specs.Fault.{fault_of_trace}
use Rattle.sdv_program.specs.declared.fault.Fault.{Fault}
use Rattle.sdv_program.specs.declared.fault.Fault.TheVariants.{Script, OtherKind, Trace, Stray, Memory, Usage}
use Rattle.sdv_program.specs.Files.{Files}
use Rattle.sdv_program.specs.Outcomes.{Ending, OverText}
use Rattle.sdv_commands.specs.Batch.{kind_named}
use Rattle.sdv_commands.specs.Given.{OverGiven}
use Rattle.sdv_commands.specs.Report.{PrintsReport, found_if}

-- FAULTS

-- a trace that is off at a line, if it is off
abbrev pub told_off : Option TraceOff → Option Fault
told_off None = None
told_off (Some (offs.Line fault line)) = Some (Trace (traces.Line fault line))
told_off (Some (offs.Script line)) = Some (Stray line)

-- the fault where no line of the trace was told
abbrev pub fault_of_audit : AuditFault → Fault
fault_of_audit audits.Room = Trace traces.Room
fault_of_audit audits.Memory = Memory

-- THE REPORT on the trace

abbrev pub plain : Style
plain = record { json = false; annotate = false; put_in = false; running = false }

-- an audit that found something ends by a fault
abbrev pub ended_by : Result Beside TraceFault → Option Fault
ended_by (Ok beside) = found_if (has_findings beside.tally)
ended_by (Err fault) = Some (fault_of_trace fault)

pub record AuditsLined (g : Graph) (trace : Text) (given : Option (List ℕ)) (outcome : Option Fault)
    (before after : Option (List ℕ)) : Type 0 where
  pub result : Result Beside TraceFault
  pub audited : AuditsBeside g given trace plain before after result
  pub outcome_is : outcome ≡ ended_by result

-- it stands behind the words alone; beside another form it tells how the command ends
abbrev pub AuditsIn : Form → Graph → (trace : Text) → (given : Option (List ℕ)) → Ending
AuditsIn forms.Words g trace given outcome before after = AuditsLined g trace given outcome before after
AuditsIn form g trace given outcome before after =
    (after ≡ before) × (sink : Option (List ℕ)) × (sink' : Option (List ℕ)) × AuditsLined g trace given outcome sink sink'

-- THE LINES of the trace

-- want of memory says nothing
abbrev pub IsUndecoded : Form → Graph → (trace : Text) → (given : Option (List ℕ)) → AuditFault → Type 0
IsUndecoded form g trace given audits.Room = StopsByRoom form (at_first g given) (lines_in trace)
IsUndecoded form g trace given audits.Memory = Unit {0}

pub data AuditsGraph (form : Form) (g : Graph) (trace : Text) (given : Option (List ℕ)) (outcome : Option Fault)
    (before after : Option (List ℕ)) : Type 0 where
  -- nothing is told of the trace
  undecoded : (fault : AuditFault) → IsUndecoded form g trace given fault → outcome ≡ Some (fault_of_audit fault)
      → Keeps before after → AuditsGraph form g trace given outcome before after
  -- it is off at a line, or the output failed
  broken_off : (text : Text) (off : Option TraceOff) → Decodes g form given trace text off → outcome ≢ None
      → PrintsReport text (told_off off) outcome before after → AuditsGraph form g trace given outcome before after
  -- all of it was told, and it was audited
  audited : (text : Text) → Decodes g form given trace text None → (told : Option (List ℕ)) → Appends before told text
      → AuditsIn form g trace given outcome told after → AuditsGraph form g trace given outcome before after

-- THE COMMAND

abbrev pub form_of : DecodeNames → Form
form_of names = if names.svg then forms.Picture else if names.json then forms.Json else forms.Words

-- why the text is no script for this kind of card; want of memory says nothing
abbrev pub IsNoScriptFor : Kind → (script : Text) → Option Fault → Type 0
IsNoScriptFor kind script (Some (Script fault)) = IsNoScript script
IsNoScriptFor kind script (Some OtherKind) = (g : Graph) × IsGraphOfText script g × (g.kind ≢ kind)
IsNoScriptFor kind script (Some Memory) = Unit {0}
IsNoScriptFor kind script outcome = ⊥

pub data DecodesTexts (form : Form) (kind : Kind) (script trace : Text) (given : Option (List ℕ)) (outcome : Option Fault)
    (before after : Option (List ℕ)) : Type 0 where
  no_script : IsNoScriptFor kind script outcome → Keeps before after
      → DecodesTexts form kind script trace given outcome before after
  decodes : (g : Graph) → IsGraphOfText script g → g.kind ≡ kind → AuditsGraph form g trace given outcome before after
      → DecodesTexts form kind script trace given outcome before after

-- the file of the registers is read only where those of the script and of the trace gave texts
abbrev pub DecodesTrace : Files → Kind → DecodeNames → (script trace : Text) → Ending
DecodesTrace files kind names script trace =
    OverGiven files names.registers (DecodesTexts (form_of names) kind script trace)

abbrev pub DecodesFiles : Files → Kind → DecodeNames → Ending
DecodesFiles files kind names = OverText files names.script (λ script. OverText files names.trace (λ trace.
    DecodesTrace files kind names script trace))

abbrev pub DecodeEnds : Files → DecodeNames → Ending
DecodeEnds files names outcome before after =
    ((kind_named names.kind ≡ None) × (outcome ≡ Some Usage) × Keeps before after)
    ⊎ ((kind : Kind) × (kind_named names.kind ≡ Some kind) × DecodesFiles files kind names outcome before after)

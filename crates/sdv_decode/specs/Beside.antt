-- THE AUDIT OF A TRACE BESIDE A SCRIPT: of the trace with the data lines of its host, which are not counted.
use Rattle.std.specs.Prelude.{◌≡◌, ◌⊎◌, ℕ, List, true, Option, Some, Result, Ok, Err}
use Rattle.sdv_graph.specs.Graph.{Graph}
use Rattle.sdv_telling.specs.Statements.{Text}
use Rattle.sdv_audit.specs.AuditedTrace.{Audits}
use Rattle.sdv_audit.specs.declared.fault.TraceFault.{TraceFault}
use Rattle.sdv_audit.specs.declared.fault.TraceFault.TheVariants as faults
use Rattle.sdv_audit.specs.declared.style.Style.{Style}
use Rattle.sdv_audit.specs.declared.style.Tally.{Tally}
use Rattle.sdv_decode.specs.Decoded.{at_first}
use Rattle.sdv_decode.specs.Lined.{Put}
use Rattle.sdv_decode.specs.Lines.{lines_in}
use Rattle.sdv_decode.specs.Room.{StopsByRoom}
use Rattle.sdv_decode.specs.declared.beside.Beside.{Beside}
use Rattle.sdv_decode.specs.declared.fault.TraceOff.{TraceOff}
use Rattle.sdv_decode.specs.declared.form.Form.TheVariants.{Words}

abbrev pub with_put_in : Style → Style
with_put_in style = record style { put_in = true }

-- the text that `Put` makes of the trace was audited, and this came of it
pub record AuditsLined (g : Graph) (given : Option (List ℕ)) (trace : Text) (style : Style) (before after : Option (List ℕ))
    (off : Option TraceOff) (result : Result Tally TraceFault) : Type 0 where
  pub text : Text
  pub puts : Put (at_first g given) (lines_in trace) text off
  pub left : Option (List ℕ)
  pub audited : Audits g.kind (with_put_in style) (Some text) left before after result

-- there is no such text, and nothing was written; want of memory says nothing
abbrev pub IsUnlined : Graph → (given : Option (List ℕ)) → (trace : Text) → TraceFault → Type 0
IsUnlined g given trace faults.Room = StopsByRoom Words (at_first g given) (lines_in trace)
IsUnlined g given trace faults.Memory = Unit {0}
IsUnlined g given trace fault = ⊥

abbrev pub AuditsBeside : Graph → (given : Option (List ℕ)) → (trace : Text) → Style → (before after : Option (List ℕ))
    → Result Beside TraceFault → Type 0
AuditsBeside g given trace style before after (Ok beside) =
    AuditsLined g given trace style before after beside.off (Ok beside.tally)
AuditsBeside g given trace style before after (Err fault) =
    ((off : Option TraceOff) × AuditsLined g given trace style before after off (Err fault))
    ⊎ (IsUnlined g given trace fault × (before ≡ after))

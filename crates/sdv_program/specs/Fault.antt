-- The faults of the program: what is said of them on standard error, and the exit status.
use Rattle.std.specs.Prelude.{◌⊎◌, ℕ, List, [], ◌∷◌, ◌++◌, Option, None, Some, Result, codes, decimal}
use Rattle.std.specs.Io.KnownBytes.{Appends}
use Rattle.sdv_text.specs.Written.{AppendsPart, Writes}
use Rattle.std.specs.Int.{w64, to_be_bytes}
use Rattle.std.specs.declared.io.ErrorKind.{ErrorKind}
use Rattle.std.specs.declared.io.ErrorKind.TheVariants.{OutOfMemory}
use Rattle.clap.specs.Words.{Text}
use Rattle.hex.specs.Hex.{encode_lower}
use Rattle.sdv_card.specs.declared.shape.Shape.{Shape}
use Rattle.sdv_audit.specs.declared.fault.TraceFault.{TraceFault}
use Rattle.sdv_audit.specs.declared.fault.TraceFault.TheVariants as traces
use Rattle.sdv_certify.specs.declared.fault.CertifyFault.{CertifyFault}
use Rattle.sdv_certify.specs.declared.fault.CertifyFault.TheVariants as certifies
use Rattle.sdv_script.specs.declared.fault.FaultKind.{FaultKind}
use Rattle.sdv_script.specs.declared.fault.FaultKind.TheVariants as kinds
use Rattle.sdv_script.specs.declared.fault.ScriptFault.{ScriptFault}
use Rattle.sdv_check.specs.declared.text.fault.CertFault.{CertFault}
use Rattle.sdv_check.specs.declared.text.fault.CertFault.TheVariants as certificates
use Rattle.sdv_check.specs.declared.fault.CheckFault.{CheckFault}
use Rattle.sdv_check.specs.declared.fault.CheckFault.TheVariants as checks
use Rattle.sdv_check.specs.declared.fault.VerifyFault.{VerifyFault}
use Rattle.sdv_check.specs.declared.fault.VerifyFault.TheVariants as verifies
use Rattle.sdv_emit.specs.declared.fault.EmitFault.{EmitFault}
use Rattle.sdv_emit.specs.declared.fault.EmitFault.TheVariants as emits
use Rattle.sdv_block.specs.declared.fault.BlockFault.{BlockFault}
use Rattle.sdv_block.specs.declared.fault.BlockFault.TheVariants as blocks
use Rattle.sdv_image.specs.declared.fault.SimFault.{SimFault}
use Rattle.sdv_image.specs.declared.fault.SimFault.TheVariants as cards
use Rattle.sdv_run.specs.declared.fault.RunFault.{RunFault}
use Rattle.sdv_run.specs.declared.fault.RunFault.TheVariants as runs
use Rattle.sdv_named_schedules.specs.declared.fault.ScheduleFault.{ScheduleFault}
use Rattle.sdv_named_schedules.specs.declared.fault.ScheduleFault.TheVariants as schedules
use Rattle.sdv_refute.specs.declared.simulated.TryFault.{TryFault}
use Rattle.sdv_refute.specs.declared.simulated.TryFault.TheVariants as tries
use Rattle.sdv_program.specs.declared.line.LineFault.{LineFault}
use Rattle.sdv_program.specs.declared.line.LineFault.TheVariants as requests
use Rattle.sdv_program.specs.declared.fault.Fault.{Fault}
use Rattle.sdv_program.specs.declared.fault.Fault.TheVariants.{Usage, File, Script, Certificate, Refused, Uncertified, Unserved, Wide, Card, Schedule, Run, OtherKind, Wrong, NoEffect, Request, Unanswered, Named, Output, Memory, Trace, Stray, Found}

-- WHAT IS SAID: the lines that are fixed to the letter. Of other faults a line is said in words for people, which tests pin

abbrev pub kind_name : FaultKind → Text
kind_name kinds.Token = codes "Token"
kind_name kinds.Syntax = codes "Syntax"
kind_name kinds.Name = codes "Name"
kind_name kinds.Command = codes "Command"
kind_name kinds.Argument = codes "Argument"
kind_name kinds.Guard = codes "Guard"
kind_name kinds.Limit = codes "Limit"
kind_name kinds.NoEnd = codes "NoEnd"
kind_name kinds.Memory = codes "Memory"

abbrev pub named_line : (words name : Text) → Text
named_line words name = words ++ (name ++ 10 ∷ [])

abbrev pub numbered_line : (words name of : Text) → ℕ → Text
numbered_line words name of number = words ++ (name ++ (of ++ (decimal number ++ 10 ∷ [])))

abbrev pub certificate_line : CertFault → Text
certificate_line certificates.Header = named_line (codes "certificate fault ") (codes "Header")
certificate_line (certificates.Syntax line) =
    numbered_line (codes "certificate fault ") (codes "Syntax") (codes " line ") line
certificate_line (certificates.Order line) =
    numbered_line (codes "certificate fault ") (codes "Order") (codes " line ") line
certificate_line certificates.Limit = named_line (codes "certificate fault ") (codes "Limit")
certificate_line certificates.Memory = named_line (codes "certificate fault ") (codes "Memory")

abbrev pub pointed_line : (name : Text) (point : ℕ) → Text
pointed_line name point = numbered_line (codes "refused ") name (codes " point ") point

abbrev pub refusal_line : CheckFault → Text
refusal_line checks.Points = named_line (codes "refused ") (codes "Points")
refusal_line checks.Start = named_line (codes "refused ") (codes "Start")
refusal_line (checks.Illegal point) = pointed_line (codes "Illegal") point
refusal_line (checks.Address point) = pointed_line (codes "Address") point
refusal_line (checks.Shape point) = pointed_line (codes "Shape") point
refusal_line (checks.Number point) = pointed_line (codes "Number") point
refusal_line (checks.Bound point) = pointed_line (codes "Bound") point
refusal_line (checks.EndState point) = pointed_line (codes "EndState") point

-- the digits of a shape's code are those of a certificate
abbrev pub illegal_line : (point : ℕ) → Shape → Text
illegal_line point shape = codes "refused Illegal point "
    ++ (decimal point ++ (codes " shape " ++ (encode_lower (to_be_bytes w64 shape.0) ++ 10 ∷ [])))

abbrev pub uncertified_line : CertifyFault → Text
uncertified_line (certifies.Illegal point shape) = illegal_line point shape
uncertified_line (certifies.Address point) = pointed_line (codes "Address") point
uncertified_line (certifies.EndState point) = pointed_line (codes "EndState") point
uncertified_line certifies.TooMany = named_line (codes "refused ") (codes "TooMany")
uncertified_line certifies.Memory = named_line (codes "refused ") (codes "Memory")

abbrev pub block_fault_name : BlockFault → Text
block_fault_name blocks.Empty = codes "Empty"
block_fault_name blocks.Range = codes "Range"
block_fault_name blocks.Limit = codes "Limit"
block_fault_name (blocks.Certify fault) = codes "Certify"
block_fault_name (blocks.Verify fault) = codes "Verify"
block_fault_name (blocks.Run fault) = codes "Run"
block_fault_name blocks.Memory = codes "Memory"

abbrev pub sim_fault_name : SimFault → Text
sim_fault_name cards.Description = codes "Description"
sim_fault_name cards.Capacity = codes "Capacity"
sim_fault_name cards.ImageLength = codes "ImageLength"
sim_fault_name cards.ImageRead = codes "ImageRead"
sim_fault_name cards.Memory = codes "Memory"

abbrev pub run_fault_name : RunFault → Text
run_fault_name runs.Reply = codes "Reply"
run_fault_name runs.Input = codes "Input"
run_fault_name runs.Output = codes "Output"
run_fault_name runs.Trace = codes "Trace"
run_fault_name runs.Memory = codes "Memory"

-- The line of a fault, where it is fixed. Nothing is said of a failed output, nor of a run that ended in a fault of its script,
-- whose trace says so, nor of what an audit or a verdict found, which its report says.
abbrev pub fault_line : Fault → Option Text
fault_line (File file) = Some (named_line (codes "cannot use ") file.now)
fault_line (Script fault) = Some (numbered_line (codes "script fault ") (kind_name fault.kind) (codes " line ") fault.line)
fault_line (Certificate fault) = Some (certificate_line fault)
fault_line (Refused fault) = Some (refusal_line fault)
fault_line (Uncertified fault) = Some (uncertified_line fault)
fault_line (Unserved fault) = Some (named_line (codes "refused ") (block_fault_name fault))
fault_line (Card fault) = Some (named_line (codes "card fault ") (sim_fault_name fault))
fault_line (Run fault) = Some (named_line (codes "run fault ") (run_fault_name fault))
fault_line Named = Some []
fault_line Found = Some []
fault_line Output = Some []
fault_line Memory = Some (named_line (codes "out of memory") [])
fault_line fault = None

-- some words were written, or a part of them where the writer failed
abbrev pub WritesSome : {E : Type 0} → (before after : Option (List ℕ)) → Result (Unit {0}) E → Type 0
WritesSome before after result = (words : Text) × Writes before after result words

-- a line was written, if it is fixed, and some words otherwise
abbrev pub WritesLine : {E : Type 0} → (line : Option Text) → (before after : Option (List ℕ)) → Result (Unit {0}) E → Type 0
WritesLine None before after result = WritesSome before after result
WritesLine (Some line) before after result = Writes before after result line

-- known bytes grow by a line, or, where the writer failed, by a part of it
abbrev pub SaysLine : Text → (before after : Option (List ℕ)) → Type 0
SaysLine line before after = Appends before after line ⊎ AppendsPart before after line

-- they grow by this line, if it is fixed, and by some words otherwise
abbrev pub SaysSo : (line : Option Text) → (before after : Option (List ℕ)) → Type 0
SaysSo None before after = (words : Text) × SaysLine words before after
SaysSo (Some line) before after = SaysLine line before after

abbrev pub Says : Fault → (before after : Option (List ℕ)) → Type 0
Says fault before after = SaysSo (fault_line fault) before after

-- THE STATUS: 1 for a refusal, for a run that did not end in `done` and for what an audit or a verdict found, 2 for words,
-- files, requests and output that cannot be used, 3 for want of memory

abbrev pub status_of : Fault → ℕ
status_of Usage = 2
status_of (File file) = 2
status_of (Script fault) = 1
status_of (Certificate fault) = 1
status_of (Refused fault) = 1
status_of (Uncertified fault) = 1
status_of (Unserved fault) = 1
status_of (Wide part) = 1
status_of (Trace fault) = 1
status_of (Stray line) = 1
status_of (Card fault) = 1
status_of (Schedule fault) = 1
status_of (Run fault) = 1
status_of OtherKind = 1
status_of (Wrong event) = 1
status_of NoEffect = 1
status_of (Request fault) = 2
status_of (Unanswered fault) = 2
status_of Named = 1
status_of Found = 1
status_of Output = 2
status_of Memory = 3

-- WHERE FAULTS COME FROM

-- words that are no request
abbrev pub fault_of_request : LineFault → Fault
fault_of_request requests.Usage = Usage
fault_of_request requests.Memory = Memory

-- words that could not be read
abbrev pub fault_of_words : ErrorKind → Fault
fault_of_words OutOfMemory = Memory
fault_of_words kind = Usage

-- texts that are no script
abbrev pub fault_of_script : FaultKind → ScriptFault → Fault
fault_of_script kinds.Memory fault = Memory
fault_of_script kind fault = Script fault

-- scripts that have no certificate
abbrev pub fault_of_certify : CertifyFault → Fault
fault_of_certify certifies.Memory = Memory
fault_of_certify fault = Uncertified fault

-- texts that are not accepted
abbrev pub fault_of_verify : VerifyFault → Fault
fault_of_verify (verifies.Script fault) = Script fault
fault_of_verify (verifies.Certificate fault) = Certificate fault
fault_of_verify (verifies.Check fault) = Refused fault
fault_of_verify verifies.Memory = Memory

-- why no table of a script is printed
abbrev pub fault_of_emit : EmitFault → Fault
fault_of_emit emits.Name = Usage
fault_of_emit (emits.Verify fault) = fault_of_verify fault
fault_of_emit (emits.Wide part) = Wide part
fault_of_emit emits.Memory = Memory

-- traces that are not audited to their end
abbrev pub fault_of_trace : TraceFault → Fault
fault_of_trace traces.Write = Output
fault_of_trace traces.Memory = Memory
fault_of_trace fault = Trace fault

-- requests that no script serves
abbrev pub fault_of_block : BlockFault → Fault
fault_of_block blocks.Memory = Memory
fault_of_block fault = Unserved fault

-- cards that there are not
abbrev pub fault_of_card : SimFault → Fault
fault_of_card cards.Memory = Memory
fault_of_card fault = Card fault

-- schedules by name that are none
abbrev pub fault_of_schedule : ScheduleFault → Fault
fault_of_schedule schedules.Memory = Memory
fault_of_schedule fault = Schedule fault

-- runs that stopped
abbrev pub fault_of_run : RunFault → Fault
fault_of_run runs.Memory = Memory
fault_of_run fault = Run fault

-- runs that were not tried
abbrev pub fault_of_try : TryFault → Fault
fault_of_try (tries.Script fault) = fault_of_script fault.kind fault
fault_of_try tries.Kind = OtherKind
fault_of_try (tries.Card fault) = fault_of_card fault
fault_of_try tries.Memory = Memory

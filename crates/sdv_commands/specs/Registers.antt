-- THE REGISTERS that a run receives: their bytes, one register after another, and what a writer takes of them.
use Rattle.std.specs.Prelude.{◌≡◌, Bool, true, false, ℕ, List, [], ◌∷◌, ◌++◌, Option, Result, Ok, Err}
use Rattle.std.specs.Io.KnownBytes.{Appends}
use Rattle.clap.specs.Words.{Text}
use Rattle.sdv_text.specs.Written.{AppendsPart}
use Rattle.sdv_card.specs.declared.answer.DataEnd.TheVariants as ends
use Rattle.sdv_card.specs.Card.{Card}
use Rattle.sdv_card.specs.Port.{Call}
use Rattle.sdv_card.specs.ScriptEvent.{Return, RegisterIn}
use Rattle.sdv_graph.specs.Graph.{Graph}
use Rattle.sdv_graph.specs.Walk.{Pair}
use Rattle.sdv_trace.specs.declared.end.End.{End}
use Rattle.sdv_run.specs.declared.fault.RunFault.{RunFault}
use Rattle.sdv_run.specs.Run.{Steps}
use Rattle.sdv_run.specs.Step.{World}
use Rattle.sdv_run.specs.OnCard.{RanBeside}
use Rattle.sdv_program.specs.Files.{Files}
use Rattle.sdv_commands.specs.declared.registers.RegisterSink.{RegisterSink}
use Rattle.sdv_commands.specs.declared.registers.RegisterPort.{RegisterPort}

-- the bytes of a register whose phase ended well
abbrev pub registered_by : Return → List ℕ
registered_by (RegisterIn ends.Ok bytes) = bytes
registered_by returned = []

-- those of the registers that these events brought
abbrev pub registered : List Pair → List ℕ
registered [] = []
registered (p ∷ ps) = registered_by p.1 ++ registered ps

-- the events of a run, each with what it returned
abbrev pub events_of : {S : Type 0} (steps : Steps S) (card : S → Option Card) (g : Graph) (most : ℕ) (w w' : World S)
    (result : Result End RunFault) → RanBeside steps card g most w w' result → List Pair
events_of steps card g most w w' (Ok end) ran = ran.0.events
events_of steps card g most w w' (Err fault) ran = ran.0.events

-- A WRITER: the bytes that it is known to hold, and whether a write failed
pub record Taken : Type 0 where
  pub known : Option (List ℕ)
  pub failed : Bool

-- known bytes grew by these, or, where a write failed, by a part of them
abbrev pub Took : (failed : Bool) → (old new : Option (List ℕ)) → List ℕ → Type 0
Took false old new bytes = Appends old new bytes
Took true old new bytes = AppendsPart old new bytes

-- bytes go to a writer, and after a failed write none do
abbrev pub TakesMore : (failed : Bool) → (s s' : Taken) → List ℕ → Type 0
TakesMore false s s' bytes = Took s'.failed s.known s'.known bytes
TakesMore true s s' bytes = s' ≡ s

-- the bytes of a register go to it
abbrev pub TakesReturn : Return → (s s' : Taken) → Type 0
TakesReturn (RegisterIn ends.Ok bytes) s s' = TakesMore s.failed s s' bytes
TakesReturn returned s s' = s' ≡ s

abbrev pub taken_of : {R : Type 0} → (contents : R → Option (List ℕ)) → RegisterSink R → Taken
taken_of contents sink = record { known = contents sink.writer; failed = sink.has_failed }

-- Its file was ended: whatever was written to it since it was made, it took.
abbrev pub IsEnded : {R : Type 0} → Files → (opened : Text → R → Type 0) → (contents : R → Option (List ℕ)) → (file : Text)
    → RegisterSink R → Type 0
IsEnded {R} files opened contents file sink =
    (made : R) (bytes : List ℕ) → opened file made → Appends (contents made) (contents sink.writer) bytes
    → files.received file bytes

-- A PORT over another one, beside a writer: each call is that of the other port
abbrev pub RegisterSteps : {S : Type 0} → Steps S → (s : S) (taken : Taken) → Call → Return → (s' : S) (taken' : Taken) → Type 0
RegisterSteps steps s taken call returned s' taken' = steps s call returned s' × TakesReturn returned taken taken'

abbrev pub port_of : {P R : Type 0} → RegisterPort P R → P
port_of port = port.port

abbrev pub sink_of : {P R : Type 0} → RegisterPort P R → RegisterSink R
sink_of port = port.sink

-- One move of a run: what it does to the port, the input, the output and the trace, where it leads,
-- and how it is cut short.
use Rattle.std.specs.Prelude.{◌≡◌, ◌<◌, ◌≤◌, ◌^◌, ◌⊎◌, ◌++◌, ℕ, List, length, Option, Some, None, Result, Ok, Err, false}
use Rattle.std.specs.List.{concat}
use Rattle.std.specs.Io.KnownBytes.{Appends}
use Rattle.sdv_registers.specs.declared.kind.Kind.{Kind}
use Rattle.sdv_card.specs.declared.answer.Answer.{Answer}
use Rattle.sdv_card.specs.declared.answer.DataEnd.TheVariants as ends
use Rattle.sdv_card.specs.Card.{Block}
use Rattle.sdv_card.specs.Host.{host_after}
use Rattle.sdv_card.specs.Port.{call_of}
use Rattle.sdv_card.specs.ScriptEvent.{ScriptEvent, SendCommand, ReceiveBlocks, Return, Answered, BlocksIn, MayReturn}
use Rattle.sdv_graph.specs.Walk.{Deed, exactly, giving, IsDeed, given_by}
use Rattle.sdv_graph.specs.Path.{Stand, Move, Goes, Does, Halts}
use Rattle.sdv_trace.specs.declared.end.End.{End}
use Rattle.sdv_run.specs.declared.fault.RunFault.{RunFault}
use Rattle.sdv_run.specs.declared.fault.RunFault.TheVariants.{Reply, Input, Output, Trace}
use Rattle.sdv_text.specs.Written.{AppendsPart}
use Rattle.sdv_trace.specs.Trace.{line_of}
use Rattle.sdv_run.specs.Run.{Steps, received_by, ending_of}
use Rattle.sdv_run.specs.Answers.{is_taken}

-- what a run works on: a port, the blocks left of the input, and what the output and the trace are known to hold
pub record World (S : Type 0) : Type 0 where
  pub port : S
  pub input : List Block
  pub out : Option (List ℕ)
  pub trace : Option (List ℕ)

-- an event was made, its blocks were written, and it was printed
pub record Made {S : Type 0} (k : Kind) (steps : Steps S) (event : ScriptEvent) (returned : Return)
    (w w' : World S) : Type 0 where
  pub fits : MayReturn event returned
  pub step : steps w.port (call_of k event) returned w'.port
  pub input : w.input ≡ given_by event ++ w'.input
  pub out : Appends w.out w'.out (received_by returned)
  pub trace : Appends w.trace w'.trace (line_of event returned)

-- the move was made, and led there
abbrev pub Leads : {S : Type 0} → Kind → Steps S → Move → (w w' : World S) → Stand → Type 0
Leads k steps (Goes next) w w' stand = (w' ≡ w) × (stand ≡ next)
Leads k steps (Does deed before next) w w' stand =
    (event : ScriptEvent) × (returned : Return) × IsDeed deed event × Made k steps event returned w w'
    × (stand ≡ next returned (host_after k event returned before))
Leads k steps (Halts last) w w' stand = ⊥

-- An event was cut short.
-- A command needs more than 32 bits and is not sent, or its answer is not taken.
abbrev pub CutDeed : {S : Type 0} → RunFault → Kind → Steps S → Deed → (w w' : World S) → Type 0
CutDeed Reply k steps (exactly (SendCommand ask position argument)) w w' =
    ((2 ^ 32 ≤ argument) × (w' ≡ w))
    ⊎ ((answer : Answer) × steps w.port (call_of k (SendCommand ask position argument)) (Answered answer) w'.port
    × (is_taken k ask answer ≡ false) × (w' ≡ record w { port = w'.port }))
-- the input has not as many blocks, and none is given
CutDeed Input k steps (giving width count) w w' = (length w.input < count) × (w' ≡ w)
-- the output failed at the blocks of a phase that ended well
CutDeed Output k steps (exactly (ReceiveBlocks width count)) w w' =
    (blocks : List Block) × (length blocks ≡ count)
    × steps w.port (call_of k (ReceiveBlocks width count)) (BlocksIn ends.Ok blocks) w'.port
    × AppendsPart w.out w'.out (concat blocks) × (w' ≡ record w { port = w'.port; out = w'.out })
-- the trace failed at the event's line
CutDeed Trace k steps deed w w' =
    (event : ScriptEvent) × (returned : Return) × IsDeed deed event × MayReturn event returned
    × steps w.port (call_of k event) returned w'.port × (w.input ≡ given_by event ++ w'.input)
    × Appends w.out w'.out (received_by returned) × AppendsPart w.trace w'.trace (line_of event returned)
CutDeed fault k steps deed w w' = ⊥

abbrev pub CutShort : {S : Type 0} → RunFault → Kind → Steps S → Move → (w w' : World S) → Type 0
CutShort fault k steps (Does deed before next) w w' = CutDeed fault k steps deed w w'
CutShort fault k steps m w w' = ⊥

-- a move was made, ended the run, or was cut short
abbrev pub Stepped : {S : Type 0} → Kind → Steps S → Move → (w w' : World S) → Stand → Result (Option End) RunFault →
    Type 0
Stepped k steps m w w' stand (Ok None) = Leads k steps m w w' stand
Stepped k steps m w w' stand (Ok (Some end)) = (m ≡ Halts (ending_of end)) × (w' ≡ w)
Stepped k steps m w w' stand (Err fault) = CutShort fault k steps m w w'

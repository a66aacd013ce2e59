-- What one event of a run does: one call of the port, which takes the blocks that it gives from the input, and what is
-- written of it afterwards.
use Rattle.std.specs.Prelude.{◌≡◌, ◌<◌, ◌++◌, ℕ, List, length, Option, Result, Ok, Err, MatchResult}
use Rattle.std.specs.Io.KnownBytes.{Appends}
use Rattle.sdv_registers.specs.declared.kind.Kind.{Kind}
use Rattle.sdv_card.specs.declared.answer.DataEnd.{DataEnd}
use Rattle.sdv_card.specs.declared.state.Width.{Width}
use Rattle.sdv_card.specs.Modes.{line_count}
use Rattle.sdv_card.specs.Card.{Block}
use Rattle.sdv_card.specs.Port.{call_of, DataOut}
use Rattle.sdv_card.specs.ScriptEvent.{ScriptEvent, Return, BlocksOut}
use Rattle.sdv_graph.specs.Walk.{given_by}
use Rattle.sdv_run.specs.declared.fault.RunFault.{RunFault}
use Rattle.sdv_run.specs.declared.fault.RunFault.TheVariants.{Input, Output, Trace}
use Rattle.sdv_run.specs.declared.next_event.NextEvent.{NextEvent}
use Rattle.sdv_run.specs.declared.next_event.NextEvent.TheVariants as events
use Rattle.sdv_run.specs.declared.returned.Returned.{Returned}
use Rattle.sdv_text.specs.Written.{AppendsPart, Writes}
use Rattle.sdv_trace.specs.Trace.{line_of}
use Rattle.sdv_run.specs.Run.{Steps, received_by}
use Rattle.sdv_run.specs.Asks.{deed_of}
use Rattle.sdv_run.specs.Takes.{Told}

-- THE CALL

-- a port, and the blocks left of an input
abbrev pub Source : Type 0 → Type 0
Source S = S × List Block

-- the event was made
pub record Performed {S : Type 0} (k : Kind) (steps : Steps S) (next : NextEvent) (s s' : Source S)
    (held : List Block) (returned : Returned) : Type 0 where
  pub event : ScriptEvent
  pub seen : Return
  pub told : Told (deed_of next) returned held event seen
  pub step : steps s.0 (call_of k event) seen s'.0
  pub input : s.1 ≡ given_by event ++ s'.1

-- blocks were given, the next ones of the input, or nothing was done because fewer are left
abbrev pub Gives : {S : Type 0} → Steps S → Width → (count : ℕ) → (s s' : Source S) → Result DataEnd RunFault → Type 0
Gives steps lines count s s' (Ok end) =
    (blocks : List Block) × (length blocks ≡ count) × (s.1 ≡ blocks ++ s'.1)
    × steps s.0 (DataOut (line_count lines) blocks) (BlocksOut end) s'.0
Gives steps lines count s s' (Err Input) = (length s.1 < count) × (s' ≡ s)
Gives steps lines count s s' (Err fault) = ⊥

-- it gives more blocks than are left
abbrev pub IsShort : NextEvent → List Block → Type 0
IsShort (events.GiveBlocks lines count) input = length input < count
IsShort event input = ⊥

abbrev pub Performs : {S : Type 0} → Kind → Steps S → NextEvent → (s s' : Source S) → (held : List Block) →
    Result Returned RunFault → Type 0
Performs k steps next s s' held (Ok returned) = Performed k steps next s s' held returned
Performs k steps next s s' held (Err Input) = IsShort next s.1 × (s' ≡ s)
Performs k steps next s s' held (Err fault) = ⊥

-- WHAT IS WRITTEN OF IT

-- what the output and the trace are known to hold
abbrev pub Texts : Type 0
Texts = Option (List ℕ) × Option (List ℕ)

-- the output failed at the blocks, and the line is not printed then, or the trace failed at the line
abbrev pub WasCut : RunFault → ScriptEvent → Return → (t t' : Texts) → Type 0
WasCut Output event seen t t' = AppendsPart t.0 t'.0 (received_by seen) × (t'.1 ≡ t.1)
WasCut Trace event seen t t' = Appends t.0 t'.0 (received_by seen) × AppendsPart t.1 t'.1 (line_of event seen)
WasCut fault event seen t t' = ⊥

-- the bytes of the blocks that came are written to the output
abbrev pub WritesBlocks : {E : Type 0} → NextEvent → Returned → (held : List Block) → (o o' : Option (List ℕ)) →
    Result (Unit {0}) E → Type 0
WritesBlocks next returned held o o' result =
    (event : ScriptEvent) (seen : Return) → Told (deed_of next) returned held event seen
    → Writes o o' result (received_by seen)

-- the line is printed
abbrev pub Prints : {E : Type 0} → NextEvent → Returned → (t t' : Option (List ℕ)) → Result (Unit {0}) E → Type 0
Prints next returned t t' result =
    (held : List Block) (event : ScriptEvent) (seen : Return) → Told (deed_of next) returned held event seen
    → Writes t t' result (line_of event seen)

-- first the blocks, and then the line
abbrev pub Records : NextEvent → Returned → (held : List Block) → (t t' : Texts) → Result (Unit {0}) RunFault → Type 0
Records next returned held t t' result =
    (event : ScriptEvent) (seen : Return) → Told (deed_of next) returned held event seen
    → MatchResult result
    (λ _. Appends t.0 t'.0 (received_by seen) × Appends t.1 t'.1 (line_of event seen))
    (λ fault. WasCut fault event seen t t')

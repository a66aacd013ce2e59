-- What a run is told of an event, and how it goes on.
use Rattle.std.specs.Prelude.{◌≡◌, Bool, true, false, List, take, length, Result, Ok, Err, MatchResult}
use Rattle.sdv_registers.specs.declared.kind.Kind.{Kind}
use Rattle.sdv_card.specs.declared.event.Ask.{Ask}
use Rattle.sdv_card.specs.declared.answer.Answer.{Answer}
use Rattle.sdv_card.specs.declared.guard.Guard.TheVariants.{Ok as WentWell}
use Rattle.sdv_card.specs.CommandTable.{order_of}
use Rattle.sdv_card.specs.Guards.{passes}
use Rattle.sdv_card.specs.Card.{Block}
use Rattle.sdv_card.specs.Host.{Host, host_after, host_after_order}
use Rattle.sdv_card.specs.ScriptEvent.{ScriptEvent, SendCommand, Return, Answered, BlocksIn, RegisterIn, BlocksOut, Waited, MayReturn}
use Rattle.sdv_graph.specs.declared.tree.Phase.{Phase}
use Rattle.sdv_graph.specs.Walk.{Deed, IsDeed, phase_deed}
use Rattle.sdv_graph.specs.Path.{Stand, Move, Goes, Does, Halts}
use Rattle.sdv_run.specs.declared.fault.RunFault.{RunFault}
use Rattle.sdv_run.specs.declared.fault.RunFault.TheVariants.{Reply}
use Rattle.sdv_run.specs.declared.returned.Returned.{Returned}
use Rattle.sdv_run.specs.declared.returned.Returned.TheVariants as told
use Rattle.sdv_run.specs.Answers.{is_taken}

-- what an event returned, beside a host that holds its blocks: they stand before others, and the bytes of a register
-- at the front of 512
abbrev pub Tells : Returned → (held : List Block) → Return → Type 0
Tells (told.Answered a) held (Answered answer) = answer ≡ a
Tells (told.BlocksIn e) held (BlocksIn end blocks) = (end ≡ e) × (blocks ≡ take (length blocks) held)
Tells (told.RegisterIn e register) held (RegisterIn end bytes) =
    (end ≡ e) × (length register ≡ 512) × (bytes ≡ take (length bytes) register)
Tells (told.BlocksOut e) held (BlocksOut end) = end ≡ e
Tells (told.Waited e) held (Waited end) = end ≡ e
Tells returned held event_returned = ⊥

-- this was an event of a statement, and what it returned
pub record Told (deed : Deed) (returned : Returned) (held : List Block) (event : ScriptEvent)
    (seen : Return) : Type 0 where
  pub is : IsDeed deed event
  pub fits : MayReturn event seen
  pub tells : Tells returned held seen

-- a run goes on with an answer that is taken, and with whatever another event returns
abbrev pub goes_on_with : Kind → ScriptEvent → Return → Bool
goes_on_with k (SendCommand ask position argument) (Answered answer) = is_taken k ask answer
goes_on_with k event seen = true

-- a command's answer is heard, or refused
abbrev pub Hears : Kind → Ask → Answer → (h h' : Host) → Result (Unit {0}) RunFault → Type 0
Hears k ask answer h h' (Ok done) =
    (is_taken k ask answer ≡ true) × (h' ≡ host_after_order (order_of k ask) answer h)
Hears k ask answer h h' (Err Reply) = (is_taken k ask answer ≡ false) × (h' ≡ h)
Hears k ask answer h h' (Err fault) = ⊥

-- a phase or a wait ended well, or did not
abbrev pub TakesPhase : Kind → Phase → Returned → (h h' : Host) → Result Bool RunFault → Type 0
TakesPhase k phase returned h h' result =
    (held : List Block) (event : ScriptEvent) (seen : Return) → Told (phase_deed phase h) returned held event seen
    → MatchResult result
    (λ ended_well. (ended_well ≡ passes k WentWell seen) × (h' ≡ host_after k event seen h))
    (λ fault. ⊥)

-- The run goes on where the event leads, or refuses its answer.
abbrev pub Took : Kind → Move → Returned → Stand → Result (Unit {0}) RunFault → Type 0
Took k (Does deed before next) returned stand result =
    (held : List Block) (event : ScriptEvent) (seen : Return) → Told deed returned held event seen
    → MatchResult result
    (λ _. (goes_on_with k event seen ≡ true) × (stand ≡ next seen (host_after k event seen before)))
    (λ fault. (fault ≡ Reply) × (goes_on_with k event seen ≡ false))
Took k m returned stand result = Unit {0}

-- it stands at a place where the event may lead
abbrev pub IsLedTo : Move → Stand → Type 0
IsLedTo (Does deed before next) stand = (seen : Return) × (after : Host) × (stand ≡ next seen after)
IsLedTo m stand = ⊥

-- a move that makes an event
abbrev pub IsEvent : Move → Type 0
IsEvent (Goes next) = ⊥
IsEvent (Does deed before next) = Unit {0}
IsEvent (Halts last) = ⊥

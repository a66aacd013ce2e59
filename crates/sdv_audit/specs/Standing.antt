-- Where a card may stand after the lines of a trace, beside its host.
use Rattle.std.specs.Prelude.{◌≡◌, true, IsTrue, ℕ, List, [], ◌∷◌, length, map, None}
use Rattle.sdv_registers.specs.declared.kind.Kind.{Kind}
use Rattle.sdv_card.specs.declared.shape.Shape.{Shape}
use Rattle.sdv_card.specs.declared.event.Ask.{Ask}
use Rattle.sdv_card.specs.declared.event.Event.{Event}
use Rattle.sdv_card.specs.declared.event.Event.TheVariants.{Send}
use Rattle.sdv_card.specs.Lists.{May}
use Rattle.sdv_card.specs.Modes.{has_width}
use Rattle.sdv_card.specs.Port.{command_of}
use Rattle.sdv_card.specs.ScriptEvent.{ScriptEvent, SendCommand, ReceiveBlocks, ReceiveRegister, GiveBlocks, AwaitReady, Return, Answered, BlocksIn as InBlocks, RegisterIn as InRegister, BlocksOut as OutBlocks, Waited, event_of}
use Rattle.sdv_card.specs.Card.{Card}
use Rattle.sdv_card.specs.Host.{Host, host_after}
use Rattle.sdv_card.specs.HostEvents.{Makes}
use Rattle.sdv_card.specs.Legal.{EventLegal}
use Rattle.sdv_card.specs.Step.{Step}
use Rattle.sdv_card.specs.Laws.{Sound}
use Rattle.sdv_card.specs.Shapes.{IsPair, pair_code, start_codes}
use Rattle.sdv_card.specs.Takes.{matches}
use Rattle.sdv_card.specs.Profile.{IsAtStart, IsOfProfile, host_at_start}
use Rattle.sdv_card.specs.declared.state.Width.{Width}
use Rattle.sdv_audit.specs.declared.line.TraceLine.{TraceLine}
use Rattle.sdv_audit.specs.declared.line.TraceLine.TheVariants.{Exchange, BlocksIn, RegisterIn, BlocksOut, Wait}
use Rattle.sdv_audit.specs.declared.known.HostKnown.{HostKnown}
use Rattle.sdv_audit.specs.declared.turn.Told.{Told}
use Rattle.sdv_audit.specs.declared.turn.Deed.{Deed}
use Rattle.sdv_audit.specs.declared.turn.Deed.TheVariants.{Known, Begins}
use Rattle.sdv_audit.specs.declared.turn.Turn.{Turn}
use Rattle.sdv_audit.specs.declared.turn.Turn.TheVariants.{Uses, Resumes, OtherLength, Does}
use Rattle.sdv_audit.specs.Known.{nothing_known}
use Rattle.sdv_audit.specs.Turns.{turn_of, known_after}

-- AN EVENT AND WHAT IT RETURNED, as a line tells them. Blocks and the bytes of registers that go over the data lines are
-- in no line.
abbrev pub IsToldBy : TraceLine → ScriptEvent → Return → Type 0
IsToldBy (Exchange command answer) (SendCommand ask position argument) (Answered heard) =
    (command ≡ command_of ask argument) × (answer ≡ heard)
IsToldBy (BlocksIn count end) (ReceiveBlocks lines due) (InBlocks ended blocks) = (count ≡ due) × (end ≡ ended)
IsToldBy (RegisterIn count end) (ReceiveRegister lines due) (InRegister ended bytes) = (count ≡ due) × (end ≡ ended)
IsToldBy (BlocksOut count end) (GiveBlocks lines blocks) (OutBlocks ended) = (count ≡ length blocks) × (end ≡ ended)
IsToldBy (Wait end) AwaitReady (Waited ended) = end ≡ ended
IsToldBy line event returned = ⊥

-- the host makes the event, which is legal, and the card takes a step with what the line tells
pub record StepTold (k : Kind) (event : Event) (line : TraceLine) (c : Card) (h : Host) (u : Card) (g : Host)
    : Type 0 where
  pub made_event : ScriptEvent
  pub returned : Return
  pub is : event_of made_event ≡ event
  pub told : IsToldBy line made_event returned
  pub made : Makes k made_event h
  pub legal : EventLegal made_event c
  pub step : Step made_event c returned u
  pub host : host_after k made_event returned h ≡ g

-- so it is by any ask that sends the bits of the line, with a count that lines allow
abbrev pub AskTold : Kind → (IsCount : ℕ → Type 0) → TraceLine → Card → Host → Card → Host → Type 0
AskTold k IsCount line c h u g = (ask : Ask) × IsCount ask.count × StepTold k (Send ask) line c h u g

-- so it is of what the host does: by any ask with the count that lines tell, or with any count where none is told
abbrev pub DeedTold : Kind → Deed → TraceLine → Card → Host → Card → Host → Type 0
DeedTold k (Known (Send told)) line c h u g = AskTold k (λ count. count ≡ told.count) line c h u g
DeedTold k (Known event) line c h u g = StepTold k event line c h u g
DeedTold k (Begins write) line c h u g = AskTold k (λ count. Unit {0}) line c h u g

-- ANY CARD of the profile in any state, beside a host that has its relative address and uses these data lines: what the
-- host knows of the card is true, but it knows no register, no count is preset, and no register is on its way
pub record IsRunning (k : Kind) (rca : ℕ) (lines : Width) (c : Card) (h : Host) : Type 0 where
  pub pair : IsPair k c h
  pub profile : IsOfProfile c
  pub sound : Sound c h
  pub matched : matches c.rca h.rca ≡ true
  pub preset : c.preset ≡ 0
  pub rca_is : h.rca ≡ rca
  pub lines_are : h.lines ≡ lines
  pub csd : h.csd ≡ None
  pub register_length : h.register_length ≡ 0
  pub flags : h.flags ≡ 0

-- from a card beside its host to another one, by one line; where an audit does not know what came before, to any; a data phase of another length is none that the host makes
abbrev pub Goes : Kind → Turn → TraceLine → Card → Host → Card → Host → Type 0
Goes k (Does deed) line c h u g = DeedTold k deed line c h u g
Goes k (Uses width) line c h u g = (c ≡ u) × (record h { lines = width } ≡ g) × IsTrue (has_width k width)
Goes k (Resumes rca lines) line c h u g = IsRunning k rca lines u g
Goes k (OtherLength due) line c h u g = ⊥
Goes k turn line c h u g = (c ≡ u) × (h ≡ g)

-- LINES SO FAR, the last one first

-- what is known of the host after them, and how the next one is understood
abbrev pub known_of : Kind → List Told → HostKnown
known_of k [] = nothing_known
known_of k (told ∷ past) = known_after k (turn_of k (known_of k past) told) told.line (known_of k past)

abbrev pub turn_behind : Kind → List Told → Told → Turn
turn_behind k past told = turn_of k (known_of k past) told

-- a card of the profile beside its host, before the first line
pub record StartPair (k : Kind) (c : Card) (h : Host) : Type 0 where
  pub kind : k ≡ c.kind
  pub start : IsAtStart c
  pub host : h ≡ host_at_start 0

-- there is a card of the profile, from its start on, that makes all these answers at legal events, and is then c beside h
abbrev pub Stood : Kind → List Told → Card → Host → Type 0
Stood k [] c h = StartPair k c h
Stood k (told ∷ past) u g =
    (c : Card) × (h : Host) × Stood k past c h × Goes k (turn_behind k past told) told.line c h u g

abbrev pub shape_of : Card → Host → Shape
shape_of c h = record { 0 = pair_code c h }

abbrev pub shape_with : ℕ → Shape
shape_with code = record { 0 = code }

-- the shapes of a card before the first command
abbrev pub start_set : List Shape
start_set = map shape_with start_codes

-- each of them has a shape of the set
abbrev pub Covers : Kind → List Told → List Shape → Type 0
Covers k past shapes = (c : Card) (h : Host) → Stood k past c h → May shapes (shape_of c h)

-- no card answers so
abbrev pub NoneAnswers : Kind → List Told → Type 0
NoneAnswers k past = (c : Card) (h : Host) → Stood k past c h → ⊥

-- One card, and what happens at it when a host brings it up: an example of a card's steps.
-- SD Physical Layer Simplified Specification, section 4.2 (card identification mode).
use Rattle.std.specs.Prelude.{◌≡◌, true, false, ℕ, List, [], ◌∷◌, replicate, Some, None}
use Rattle.sdv_registers.specs.declared.kind.Kind.TheVariants.{Sd}
use Rattle.sdv_frames.specs.declared.reply.Reply.TheVariants.{R1, R2, R3, R6, R7}
use Rattle.sdv_card.specs.declared.state.State.TheVariants.{Idle, Ready, Stby, Tran, Data, Prg}
use Rattle.sdv_card.specs.declared.state.Width.TheVariants.{One, Four}
use Rattle.sdv_card.specs.declared.state.Transfer.TheVariants.{Nothing, ReadDue, ReadOver}
use Rattle.sdv_card.specs.declared.state.EraseStage.TheVariants.{Outside}
use Rattle.sdv_card.specs.declared.event.Aim.{Aim}
use Rattle.sdv_card.specs.declared.event.Aim.TheVariants.{Rca, Plain}
use Rattle.sdv_card.specs.declared.answer.Answer.{Answer}
use Rattle.sdv_card.specs.declared.answer.Answer.TheVariants.{Sent, TimeOut, Reply as Replied}
use Rattle.sdv_card.specs.Card.{Card, Block, AreBlocks}
use Rattle.sdv_card.specs.Modes.{first_mode}
use Rattle.sdv_card.specs.Host.{Host, host_after}
use Rattle.sdv_card.specs.HostEvents.{Makes}
use Rattle.sdv_card.specs.ScriptEvent.{ScriptEvent, SendCommand, ReceiveBlocks, Return, Answered}
use Rattle.sdv_card.specs.Legal.{EventLegal, InBounds}
use Rattle.sdv_card.specs.Step.{Step}
use Rattle.sdv_card.specs.Profile.{IsAtStart, host_at_start}

-- an event and what it returned
pub record Happening : Type 0 where
  pub event : ScriptEvent
  pub returned : Return

-- the host makes an event that is legal at the card and in bounds, and the card makes a step
pub record Happens (x : Happening) (c : Card) (h : Host) (u : Card) : Type 0 where
  pub made : Makes c.kind x.event h
  pub legal : EventLegal x.event c
  pub bounds : InBounds x.event c
  pub step : Step x.event c x.returned u

-- so one after another
abbrev pub AllHappen : List Happening → Card → Host → Card → Type 0
AllHappen [] c h u = c ≡ u
AllHappen (x ∷ xs) c h u = (d : Card) × Happens x c h d × AllHappen xs d (host_after c.kind x.event x.returned h) u

-- bits 127..8 of the card's CSD and CID, and its SCR
abbrev pub example_csd : List ℕ
example_csd = 0x40 ∷ 0 ∷ 0 ∷ 0 ∷ 0 ∷ 0x09 ∷ 0 ∷ 0 ∷ 0 ∷ 0 ∷ 0 ∷ 0 ∷ 0 ∷ 0 ∷ 0 ∷ []

abbrev pub example_cid : List ℕ
example_cid = 0 ∷ 0x58 ∷ 0x58 ∷ 0x53 ∷ 0x44 ∷ 0x56 ∷ 0x20 ∷ 0x20 ∷ 0x10 ∷ 0 ∷ 0 ∷ 0 ∷ 1 ∷ 1 ∷ 0x81 ∷ []

abbrev pub example_scr : List ℕ
example_scr = 2 ∷ 5 ∷ 0 ∷ 0 ∷ 0 ∷ 0 ∷ 0 ∷ 0 ∷ []

-- an SD card of version 2 with 1,024 blocks and block addresses, before the first command
abbrev pub example_card : List Block → Card
example_card contents = record {
  kind = Sd;
  version = 2;
  block_unit = true;
  capacity = 1024;
  boot_capacity = 0;
  csd = example_csd;
  cid = example_cid;
  ext_csd = [];
  scr = example_scr;
  sd_status = replicate 64 0;
  state = Idle;
  rca = None;
  app = false;
  block_length = 512;
  erase = Outside;
  mode = first_mode;
  preset = 0;
  transfer = Nothing;
  next_block = 0;
  announced = 0;
  unshown_error = false;
  contents = record { user = contents; boot_1 = []; boot_2 = [] };
}

-- the card when it is selected
abbrev pub selected_card : List Block → Card
selected_card contents = record (example_card contents) { state = Tran; rca = Some 0x1234 }

abbrev pub command : ℕ → Aim → ℕ → Answer → Happening
command index aim argument answer = record {
  event = SendCommand (record { index = index; aim = aim; argument = 0; count = 0 }) 0 argument;
  returned = Answered answer;
}

-- the host asks for the operating conditions, and can work with block addresses
abbrev pub ask_conditions : Answer → Happening
ask_conditions answer = record {
  event = SendCommand (record { index = 41; aim = Plain; argument = 0x40ff8000; count = 0 }) 0 0x40ff8000;
  returned = Answered answer;
}

-- what happens until the host asks for the operating conditions
abbrev pub before_conditions : List Happening → List Happening
before_conditions rest =
    command 0 Plain 0 Sent
    ∷ command 8 Plain 0x1aa (Replied (R7 0x1aa))
    ∷ command 55 Rca 0 (Replied (R1 55 0x120))
    ∷ rest

-- what happens from then on
abbrev pub after_conditions : List Happening
after_conditions =
    command 2 Plain 0 (Replied (R2 example_cid))
    ∷ command 3 Plain 0 (Replied (R6 0x12340500))
    ∷ command 9 Rca 0x12340000 (Replied (R2 example_csd))
    ∷ command 7 Rca 0x12340000 (Replied (R1 7 0x700))
    ∷ command 16 Plain 512 (Replied (R1 16 0x900)) ∷ []

-- the whole of it
abbrev pub bring_up : List Happening
bring_up = before_conditions (ask_conditions (Replied (R3 0xc0ff8000)) ∷ after_conditions)

-- it happens at a card of the profile, from the start to the transfer state
pub record BringUpHappens : Type 0 where
  pub start : (contents : List Block) → AreBlocks 1024 contents → IsAtStart (example_card contents)
  pub all : (contents : List Block) → AllHappen bring_up (example_card contents) (host_at_start 0)
      (selected_card contents)

-- the answer of the operating conditions is lost, and the card goes to ready state unheard
abbrev pub LostAnswerHappens : Type 0
LostAnswerHappens = (contents : List Block) →
    AllHappen (before_conditions (ask_conditions TimeOut ∷ [])) (example_card contents) (host_at_start 0)
    (record (example_card contents) { state = Ready })

-- the host that brought the card up
abbrev pub example_host : Host
example_host = record (host_at_start 0) { rca = 0x1234; csd = Some example_csd }

-- programming is done before a command arrives, and the status shows transfer state
abbrev pub ProgrammingEnds : Type 0
ProgrammingEnds = (contents : List Block) →
    Happens (command 13 Rca 0x12340000 (Replied (R1 13 0x900)))
    (record (selected_card contents) { state = Prg }) example_host (selected_card contents)

-- the status of a selection shows an error (bit 19), and the card stayed in stand-by state
abbrev pub DoubtStays : Type 0
DoubtStays = (contents : List Block) →
    Happens (command 7 Rca 0x12340000 (Replied (R1 7 0x80600)))
    (record (selected_card contents) { state = Stby }) example_host
    (record (selected_card contents) { state = Stby })

-- a read of one block is over, and the card may have gone to transfer state, where CMD12 is not legal
abbrev pub StopIsNotLegal : Type 0
StopIsNotLegal = (contents : List Block) →
    EventLegal (SendCommand (record { index = 12; aim = Plain; argument = 0; count = 0 }) 0 0)
    (record (selected_card contents) { state = Data; transfer = ReadOver }) → ⊥

-- a read of the block at this position, with this argument
abbrev pub read_at : (position argument : ℕ) → ScriptEvent
read_at position argument = SendCommand (record { index = 17; aim = Plain; argument = 0; count = 1 }) position argument

-- the last block of the card is in bounds, and the one after it is not
pub record LastBlockIsBound : Type 0 where
  pub last : (contents : List Block) → InBounds (read_at 1023 1023) (selected_card contents)
  pub next : (contents : List Block) → InBounds (read_at 1024 1024) (selected_card contents) → ⊥

-- on a card with block addresses, block 1 sent by its number is in bounds; sent in bytes it is not, though the card has
-- a block 512
pub record UnitIsTheCards : Type 0 where
  pub in_blocks : (contents : List Block) → InBounds (read_at 1 1) (selected_card contents)
  pub in_bytes : (contents : List Block) → InBounds (read_at 1 512) (selected_card contents) → ⊥

-- a read of one block is due at a card that uses four data lines
abbrev pub reading_card : List Block → Card
reading_card contents =
    record (selected_card contents) { state = Data; transfer = ReadDue; mode = record first_mode { width = Four } }

-- its phase is legal where the host uses four data lines too, and where it uses one it is not
pub record LinesMustAgree : Type 0 where
  pub same : (contents : List Block) → EventLegal (ReceiveBlocks Four 1) (reading_card contents)
  pub other : (contents : List Block) → EventLegal (ReceiveBlocks One 1) (reading_card contents) → ⊥

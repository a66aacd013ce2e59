-- Addresses beyond the blocks that the CSD tells, at each card that may stand there.
-- SD Physical Layer Simplified Specification, section 5.3; JESD84-B51, section 7.3.
use Rattle.std.specs.Prelude.{◌≡◌, ◌<◌, ◌+◌, ◌&&◌, not, nat_le, Bool, true, false, ℕ, List, Option, Some, None, is_none, if◌then◌else◌}
use Rattle.sdv_frames.specs.Bits.{bits_of}
use Rattle.sdv_registers.specs.declared.kind.Kind.{Kind}
use Rattle.sdv_registers.specs.declared.kind.Kind.TheVariants.{Emmc}
use Rattle.sdv_registers.specs.Csd.{fault, blocks}
use Rattle.sdv_card.specs.declared.state.Partition.{Partition}
use Rattle.sdv_card.specs.declared.state.Partition.TheVariants.{User}
use Rattle.sdv_card.specs.declared.event.Ask.{Ask}
use Rattle.sdv_card.specs.declared.event.Event.TheVariants.{Send}
use Rattle.sdv_card.specs.CommandTable.{addressed_blocks}
use Rattle.sdv_card.specs.ScriptEvent.{SendCommand}
use Rattle.sdv_card.specs.Card.{Card}
use Rattle.sdv_card.specs.Host.{Host}
use Rattle.sdv_card.specs.Legal.{InBounds}
use Rattle.sdv_card.specs.Code.{digits}
use Rattle.sdv_audit.specs.declared.line.TraceLine.{TraceLine}
use Rattle.sdv_audit.specs.declared.line.TraceLine.TheVariants.{Exchange}
use Rattle.sdv_audit.specs.declared.known.HostKnown.{HostKnown}
use Rattle.sdv_audit.specs.declared.turn.Told.{Told}
use Rattle.sdv_audit.specs.declared.turn.Deed.{Deed}
use Rattle.sdv_audit.specs.declared.turn.Deed.TheVariants.{Known, Begins}
use Rattle.sdv_audit.specs.declared.turn.Turn.{Turn}
use Rattle.sdv_audit.specs.declared.turn.Turn.TheVariants.{Does}
use Rattle.sdv_audit.specs.Turns.{transfer_ask}
use Rattle.sdv_audit.specs.Standing.{Stood, turn_behind}
use Rattle.sdv_audit.specs.Lived.{block_named, names_block}

abbrev pub if_readable : Bool → ℕ → Option ℕ
if_readable readable capacity = if readable then Some capacity else None

abbrev pub readable_blocks : Kind → List ℕ → Option ℕ
readable_blocks k csd = if_readable (is_none (fault k (bits_of csd))) (blocks k (bits_of csd))

-- The blocks that the CSD tells of a partition: of the user area, but not of a block-addressed e.MMC device, whose EXT_CSD
-- tells them.
abbrev pub told_capacity : Kind → (csd : Option (List ℕ)) → (unit : Bool) → Partition → Option ℕ
told_capacity k None unit partition = None
told_capacity Emmc (Some csd) true partition = None
told_capacity k (Some csd) unit User = readable_blocks k csd
told_capacity k (Some csd) unit partition = None

-- the argument is no block's address, or there are fewer blocks from there on
abbrev pub beyond_capacity : Option ℕ → (unit : Bool) → (argument count : ℕ) → Bool
beyond_capacity None unit argument count = false
beyond_capacity (Some capacity) unit argument count =
    not (names_block unit argument && nat_le (block_named unit argument + count) capacity)

abbrev pub beyond_by : Option ℕ → (blocks : Option ℕ) → (unit : Bool) → (argument : ℕ) → Bool
beyond_by capacity None unit argument = false
beyond_by capacity (Some count) unit argument = beyond_capacity capacity unit argument count

-- The blocks that are addressed for sure: an untold count is one or more.
abbrev pub blocks_for_sure : Deed → Option ℕ
blocks_for_sure (Known (Send ask)) = addressed_blocks ask
blocks_for_sure (Known event) = None
blocks_for_sure (Begins write) = Some 1

-- so it is at a code
abbrev pub is_beyond : Kind → HostKnown → Turn → TraceLine → (code : ℕ) → Bool
is_beyond k known (Does deed) (Exchange command answer) code =
    beyond_by (told_capacity k known.csd (digits code).block_unit (digits code).mode.partition) (blocks_for_sure deed)
    (digits code).block_unit command.argument
is_beyond k known turn line code = false

-- the line has this argument
abbrev pub Sends : TraceLine → (argument : ℕ) → Type 0
Sends (Exchange command answer) argument = command.argument ≡ argument
Sends line argument = ⊥

-- the command is that of a turn, with some count where none is told
abbrev pub IsAskOf : Turn → Ask → Type 0
IsAskOf (Does (Known (Send sent))) ask = sent ≡ ask
IsAskOf (Does (Begins write)) ask = (transfer_ask write ask.count ≡ ask) × (0 < ask.count)
IsAskOf turn ask = ⊥

-- the command is in bounds at no card that may stand there, whatever block it is to name
abbrev pub NoneInBounds : Kind → List Told → Told → Type 0
NoneInBounds k past told =
    (c : Card) (h : Host) (ask : Ask) (position argument : ℕ) → Stood k past c h →
    IsAskOf (turn_behind k past told) ask → Sends told.line argument
    → InBounds (SendCommand ask position argument) c → ⊥

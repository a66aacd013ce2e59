-- A history: which codes of a card beside its host follow one another, by which events with which outcomes.
-- This project's own.
use Rattle.std.specs.Prelude.{◌≡◌, ◌<◌, ◌≤◌, ◌+◌, ◌==◌, ◌&&◌, Bool, true, false, IsTrue, ℕ, List, [], ◌∷◌, Option, Some, None}
use Rattle.sdv_registers.specs.declared.kind.Kind.{Kind}
use Rattle.sdv_card.specs.declared.state.Width.{Width}
use Rattle.sdv_card.specs.declared.fields.Fields.{Fields}
use Rattle.sdv_card.specs.declared.command.Order.{Order}
use Rattle.sdv_card.specs.declared.command.Order.TheVariants.{GoIdleState, SendRelativeAddress, SetRelativeAddress}
use Rattle.sdv_card.specs.declared.event.Ask.{Ask}
use Rattle.sdv_card.specs.declared.event.Event.{Event}
use Rattle.sdv_card.specs.declared.event.Event.TheVariants.{Send}
use Rattle.sdv_card.specs.declared.event.Outcome.{Outcome}
use Rattle.sdv_card.specs.declared.event.Seen.{Seen}
use Rattle.sdv_card.specs.declared.event.Seen.TheVariants.{TimeOut, Status}
use Rattle.sdv_card.specs.Lists.{May}
use Rattle.sdv_card.specs.States.{state_number}
use Rattle.sdv_card.specs.Modes.{has_width}
use Rattle.sdv_card.specs.CommandTable.{order_of, addressed_blocks}
use Rattle.sdv_card.specs.Card.{capacity_of}
use Rattle.sdv_card.specs.Code.{code_of, digits, fields_of}
use Rattle.sdv_card.specs.LegalShapes.{legal_code}
use Rattle.sdv_card.specs.Outcomes.{outcomes_code}
use Rattle.sdv_outcomes.specs.OpenGuards.{OpenGuards}

-- ENTRIES

pub data Entry : Type 0 where
  -- the host sets the script's number variables and flags, and the data lines that it uses
  HostSets : (numbers : List ℕ) (flags : ℕ) (lines : Width) → Entry
  -- an event has this outcome, and the open guards hold or fail so; a command that addresses blocks names the block at
  -- the position
  Happens : (event : Event) (position : ℕ) (outcome : Outcome) (guards : OpenGuards) → Entry

-- the code with other flags and data lines of the host; it does not show the numbers
abbrev pub with_settings : ℕ → (flags : ℕ) → Width → ℕ
with_settings code flags lines = code_of (record (digits code) { flags = flags; lines = lines })

-- the code after an entry
abbrev pub entry_code : ℕ → Entry → ℕ
entry_code code (HostSets numbers flags lines) = with_settings code flags lines
entry_code code (Happens event position outcome guards) = outcome.shape.0

-- the code after all entries
abbrev pub code_after : ℕ → List Entry → ℕ
code_after code [] = code
code_after code (entry ∷ rest) = code_after (entry_code code entry) rest

-- WHETHER THE HOST HAS AN ADDRESS, a relative address other than 0, which no code shows

-- CMD0 clears it; CMD3 gives one to an e.MMC device, and an SD card shows one in its answer
abbrev pub has_address_by : Option Order → Seen → (has_address : Bool) → Bool
has_address_by (Some GoIdleState) seen has_address = false
has_address_by (Some SetRelativeAddress) seen has_address = true
has_address_by (Some SendRelativeAddress) (Status state doubt app switch) has_address = true
has_address_by order seen has_address = has_address

abbrev pub has_address_after : Kind → Event → Seen → (has_address : Bool) → Bool
has_address_after k (Send ask) seen has_address = has_address_by (order_of k ask) seen has_address
has_address_after k event seen has_address = has_address

abbrev pub entry_has_address : Kind → Entry → (has_address : Bool) → Bool
entry_has_address k (HostSets numbers flags lines) has_address = has_address
entry_has_address k (Happens event position outcome guards) has_address =
    has_address_after k event outcome.seen has_address

-- AN IMPOSSIBLE MATCH: an SD card chose an address that its host did not hear, and it is that of a host that has none

abbrev pub is_matched_standby : Option Fields → Bool
is_matched_standby None = false
is_matched_standby (Some f) = (state_number f.state == 3) && f.matched

abbrev pub is_impossible_by : Option Order → Seen → (has_address : Bool) → ℕ → Bool
is_impossible_by (Some SendRelativeAddress) TimeOut false code = is_matched_standby (fields_of code)
is_impossible_by order seen has_address code = false

abbrev pub is_impossible_match : Kind → Event → Outcome → (has_address : Bool) → Bool
is_impossible_match k (Send ask) o has_address = is_impossible_by (order_of k ask) o.seen has_address o.shape.0
is_impossible_match k event o has_address = false

-- HISTORIES

-- an entry may follow a code: its event is legal there and has this outcome, which is no impossible match
abbrev pub MayFollow : Kind → (has_address : Bool) → ℕ → Entry → Type 0
MayFollow k has_address code (HostSets numbers flags lines) = (flags < 16) × IsTrue (has_width k lines)
MayFollow k has_address code (Happens event position outcome guards) =
    IsTrue (legal_code k code event) × May (outcomes_code k code event) outcome
    × (is_impossible_match k event outcome has_address ≡ false)

-- the entries are a history from a code on
abbrev pub IsHistory : Kind → (has_address : Bool) → ℕ → List Entry → Type 0
IsHistory k has_address code [] = Unit {0}
IsHistory k has_address code (entry ∷ rest) =
    MayFollow k has_address code entry
    × IsHistory k (entry_has_address k entry has_address) (entry_code code entry) rest

-- IN BOUNDS: the blocks that a command addresses lie in the partition that is in access at its code, given how many
-- blocks the user area and each boot partition have

abbrev pub CommandWithin : (capacity boot_capacity : ℕ) → ℕ → Ask → (position : ℕ) → Type 0
CommandWithin capacity boot_capacity code ask position = (count : ℕ) → addressed_blocks ask ≡ Some count →
    position + count ≤ capacity_of (digits code).mode.partition capacity boot_capacity

abbrev pub EntryWithin : (capacity boot_capacity : ℕ) → ℕ → Entry → Type 0
EntryWithin capacity boot_capacity code (Happens (Send ask) position outcome guards) =
    CommandWithin capacity boot_capacity code ask position
EntryWithin capacity boot_capacity code entry = Unit {0}

abbrev pub IsWithin : (capacity boot_capacity : ℕ) → ℕ → List Entry → Type 0
IsWithin capacity boot_capacity code [] = Unit {0}
IsWithin capacity boot_capacity code (entry ∷ rest) =
    EntryWithin capacity boot_capacity code entry × IsWithin capacity boot_capacity (entry_code code entry) rest

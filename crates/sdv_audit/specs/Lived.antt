-- The runs behind the shapes of an audit: of a card of the profile from its start on, in which each event is that of a
-- line, of each answer the same is seen as of the line's, and the guards say the same of it.
use Rattle.std.specs.Prelude.{◌≡◌, ◌+◌, ◌/◌, ◌%◌, ◌==◌, ◌&&◌, nat_le, Bool, true, false, ℕ, List, [], ◌∷◌, ◌++◌, Option, Some, None}
use Rattle.sdv_registers.specs.declared.kind.Kind.{Kind}
use Rattle.sdv_card.specs.declared.shape.Shape.{Shape}
use Rattle.sdv_card.specs.declared.state.Partition.{Partition}
use Rattle.sdv_card.specs.declared.guard.Guard.TheVariants.{Clean, Ready as ReadyForData, OcrBlock}
use Rattle.sdv_card.specs.declared.command.Order.{Order}
use Rattle.sdv_card.specs.declared.event.Event.{Event}
use Rattle.sdv_card.specs.declared.event.Event.TheVariants.{Send}
use Rattle.sdv_card.specs.declared.event.Outcome.{Outcome}
use Rattle.sdv_card.specs.Lists.{May}
use Rattle.sdv_card.specs.CommandTable.{order_of, addressed_blocks}
use Rattle.sdv_card.specs.Host.{announced_by}
use Rattle.sdv_card.specs.ScriptEvent.{Answered}
use Rattle.sdv_card.specs.Guards.{passes}
use Rattle.sdv_card.specs.Card.{capacity_of}
use Rattle.sdv_card.specs.Code.{digits}
use Rattle.sdv_card.specs.LegalShapes.{legal_code}
use Rattle.sdv_card.specs.Shapes.{start_codes}
use Rattle.sdv_card.specs.Profile.{most_blocks}
use Rattle.sdv_outcomes.specs.OpenGuards.{OpenGuards}
use Rattle.sdv_outcomes.specs.Histories.{Entry, HostSets, Happens, code_after, IsHistory}
use Rattle.sdv_outcomes.specs.StartCards.{most_boot_blocks, IsWithinMost}
use Rattle.sdv_outcomes.specs.IllegalShapes.{IllegalRun}
use Rattle.sdv_audit.specs.declared.line.TraceLine.{TraceLine}
use Rattle.sdv_audit.specs.declared.line.TraceLine.TheVariants.{Exchange, BlocksIn, BlocksOut}
use Rattle.sdv_audit.specs.declared.turn.Told.{Told}
use Rattle.sdv_audit.specs.declared.turn.Deed.{Deed}
use Rattle.sdv_audit.specs.declared.turn.Deed.TheVariants.{Known, Begins}
use Rattle.sdv_audit.specs.declared.turn.Turn.{Turn}
use Rattle.sdv_audit.specs.declared.turn.Turn.TheVariants.{Uses, Resumes, OtherLength, Does}
use Rattle.sdv_audit.specs.Turns.{is_count, transfer_ask, line_seen}
use Rattle.sdv_audit.specs.Carried.{pending_at}
use Rattle.sdv_audit.specs.Standing.{turn_behind}

-- what the guards that the tables leave open say of a line's answer
abbrev pub guards_told : Kind → TraceLine → OpenGuards
guards_told k (Exchange command answer) = record {
  clean = passes k Clean (Answered answer);
  ready = passes k ReadyForData (Answered answer);
  block = passes k OcrBlock (Answered answer);
}
guards_told k line = record { clean = false; ready = false; block = false }

-- ADDRESSES

-- the block that an argument names, in blocks or in bytes
abbrev pub block_named : (unit : Bool) → (argument : ℕ) → ℕ
block_named true argument = argument
block_named false argument = argument / 512

abbrev pub names_block : (unit : Bool) → (argument : ℕ) → Bool
names_block true argument = true
names_block false argument = argument % 512 == 0

abbrev pub line_block : (unit : Bool) → TraceLine → ℕ
line_block unit (Exchange command answer) = block_named unit command.argument
line_block unit line = 0

-- the argument is the address of a block, from which on a card of the profile with the most blocks has as many as are
-- addressed
abbrev pub blocks_within : Kind → Option ℕ → (argument : ℕ) → (unit : Bool) → Partition → Bool
blocks_within k None argument unit partition = true
blocks_within k (Some count) argument unit partition =
    names_block unit argument
    && nat_le (block_named unit argument + count) (capacity_of partition (most_blocks k unit) (most_boot_blocks k))

abbrev pub line_within : Kind → Event → TraceLine → (code : ℕ) → Bool
line_within k (Send ask) (Exchange command answer) code =
    blocks_within k (addressed_blocks ask) command.argument (digits code).block_unit (digits code).mode.partition
line_within k event line code = true

-- an untold count is any that a command can announce, where no preset count allows only one
abbrev pub deed_within : Kind → Deed → TraceLine → (code : ℕ) → Bool
deed_within k (Known event) line code = line_within k event line code
deed_within k (Begins write) line code =
    ((digits code).preset == 0) && line_within k (Send (transfer_ask write 65535)) line code

abbrev pub turn_within : Kind → Turn → TraceLine → (code : ℕ) → Bool
turn_within k (Does deed) line code = deed_within k deed line code
turn_within k (Resumes rca lines) line code = false
turn_within k turn line code = true

-- THE ENTRIES OF A HISTORY that lines tell

-- the blocks that commands announced last
abbrev pub announced_of : Option Order → ℕ → ℕ
announced_of None before = before
announced_of (Some order) before = announced_by order before

abbrev pub announced_at : Kind → Event → ℕ → ℕ
announced_at k (Send ask) before = announced_of (order_of k ask) before
announced_at k event before = before

abbrev pub announced_after : Kind → Entry → ℕ → ℕ
announced_after k (HostSets numbers flags lines) before = before
announced_after k (Happens event position outcome guards) before = announced_at k event before

abbrev pub announced_in : Kind → List Entry → ℕ → ℕ
announced_in k [] before = before
announced_in k (entry ∷ rest) before = announced_in k rest (announced_after k entry before)

-- a data phase of blocks is as long as was announced
abbrev pub IsAsLong : TraceLine → (announced : ℕ) → Type 0
IsAsLong (BlocksIn count end) announced = announced ≡ count
IsAsLong (BlocksOut count end) announced = announced ≡ count
IsAsLong line announced = Unit {0}

-- one more: an event at the last code
pub record AddsEvent (k : Kind) (event : Event) (line : TraceLine) (code : ℕ) (before entries : List Entry)
    : Type 0 where
  pub position : ℕ
  pub outcome : Outcome
  pub entries_are : entries ≡ before ++ Happens event position outcome (guards_told k line) ∷ []
  pub seen : outcome.seen ≡ line_seen k (pending_at (code_after code before)) line
  pub long : IsAsLong line (announced_in k before 0)

-- what the host does, with some count where none is told
abbrev pub AddsDeed : Kind → Deed → TraceLine → (code : ℕ) → (before entries : List Entry) → Type 0
AddsDeed k (Known event) line code before entries = AddsEvent k event line code before entries
AddsDeed k (Begins write) line code before entries =
    (count : ℕ) × AddsEvent k (Send (transfer_ask write count)) line code before entries

-- the host sets its data lines, and no flag; no line shows its numbers
abbrev pub Adds : Kind → Turn → TraceLine → (code : ℕ) → (before entries : List Entry) → Type 0
Adds k (Does deed) line code before entries = AddsDeed k deed line code before entries
Adds k (Uses width) line code before entries =
    entries ≡ before ++ HostSets [] (digits (code_after code before)).flags width ∷ []
Adds k (Resumes rca lines) line code before entries = ⊥
Adds k (OtherLength due) line code before entries = ⊥
Adds k turn line code before entries = before ≡ entries

-- the last line first
abbrev pub Tells : Kind → List Told → (code : ℕ) → List Entry → Type 0
Tells k [] code entries = [] ≡ entries
Tells k (told ∷ past) code entries =
    (before : List Entry) × Tells k past code before × Adds k (turn_behind k past told) told.line code before entries

-- a history of a card of the profile, as the lines tell it, to this shape
pub record Lived (k : Kind) (past : List Told) (s : Shape) : Type 0 where
  pub start_code : ℕ
  pub start : May start_codes start_code
  pub entries : List Entry
  pub tells : Tells k past start_code entries
  pub history : IsHistory k false start_code entries
  pub within : IsWithinMost k start_code entries
  pub end : code_after start_code entries ≡ s.0

-- Where the host is reckless, it is so beside a real card: of the profile, after a run from its start with these answers,
-- the event is not legal.
abbrev pub RecklessIsReal : Kind → Type 0
RecklessIsReal k = (past : List Told) (s : Shape) (event : Event) (position : ℕ) (lived : Lived k past s) →
    legal_code k s.0 event ≡ false → IllegalRun k lived.start_code lived.entries event position 0

pub record RecklessRun (k : Kind) (past : List Told) (event : Event) (s : Shape) (position : ℕ) : Type 0 where
  pub lived : Lived k past s
  pub run : IllegalRun k lived.start_code lived.entries event position 0

-- so it is of what the host does, whatever the position that the event names, and whatever the count if none is told
abbrev pub DoesRecklessly : Kind → List Told → Deed → Shape → Type 0
DoesRecklessly k past (Known event) s = (position : ℕ) → RecklessRun k past event s position
DoesRecklessly k past (Begins write) s =
    (count position : ℕ) → RecklessRun k past (Send (transfer_ask write count)) s position

abbrev pub IsReckless : Kind → List Told → Turn → Shape → Type 0
IsReckless k past (Does deed) s = DoesRecklessly k past deed s
IsReckless k past turn s = ⊥

-- THE BLOCKS ANNOUNCED LAST, where they are not known: any number of blocks may have been

abbrev pub MayAnnounce : Option ℕ → ℕ → Type 0
MayAnnounce None n = is_count n ≡ true
MayAnnounce (Some known) n = known ≡ n

-- a history with these blocks announced last
pub record LivedWith (k : Kind) (past : List Told) (s : Shape) (n : ℕ) : Type 0 where
  pub lived : Lived k past s
  pub announced : announced_in k lived.entries 0 ≡ n

-- one with each number that may be
abbrev pub LivedFor : Kind → List Told → Option ℕ → Shape → Type 0
LivedFor k past announced s = (n : ℕ) → MayAnnounce announced n → LivedWith k past s n

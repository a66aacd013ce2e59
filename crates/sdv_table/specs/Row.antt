-- The ROW of a point: words of 32 bits that say what its statement does, and where it leads.
use Rattle.std.specs.Prelude.{ℕ, ◌+◌, ◌*◌, ◌/◌, ◌%◌, List, [], ◌∷◌, ◌++◌, length, Bool, true, false, Option, Some, None}
use Rattle.sdv_card.specs.declared.event.Aim.{Aim}
use Rattle.sdv_card.specs.declared.event.Aim.TheVariants.{Rca, Plain}
use Rattle.sdv_card.specs.declared.guard.Guard.{Guard}
use Rattle.sdv_card.specs.declared.guard.Guard.TheVariants.{Timeout, Answer, Clean, Ready, App, Echo, OcrReady, OcrBlock, State as InState, Ok as WentWell}
use Rattle.sdv_card.specs.declared.state.Width.{Width}
use Rattle.sdv_card.specs.declared.state.Width.TheVariants.{One, Four, Eight}
use Rattle.sdv_card.specs.States.{state_number}
use Rattle.sdv_frames.specs.declared.reply.Expect.{Expect}
use Rattle.sdv_frames.specs.declared.reply.Expect.TheVariants as expects
use Rattle.sdv_registers.specs.declared.kind.Kind.{Kind}
use Rattle.sdv_graph.specs.declared.graph.Target.{Target}
use Rattle.sdv_graph.specs.declared.tree.ScriptCommand.{ScriptCommand}
use Rattle.sdv_graph.specs.declared.tree.Phase.{Phase}
use Rattle.sdv_graph.specs.declared.tree.Phase.TheVariants as phases
use Rattle.sdv_graph.specs.declared.tree.Address.{Address}
use Rattle.sdv_graph.specs.declared.tree.Unit.{Unit as AddressUnit}
use Rattle.sdv_graph.specs.declared.tree.Unit.TheVariants.{Block, Byte, By}
use Rattle.sdv_graph.specs.declared.tree.Position.{Position}
use Rattle.sdv_graph.specs.declared.tree.Position.TheVariants as positions
use Rattle.sdv_graph.specs.declared.tree.Atom.{Atom}
use Rattle.sdv_graph.specs.declared.tree.Atom.TheVariants as atoms
use Rattle.sdv_graph.specs.declared.tree.Change.{Change}
use Rattle.sdv_graph.specs.declared.tree.Change.TheVariants as changes
use Rattle.sdv_graph.specs.declared.tree.Condition.{Condition}
use Rattle.sdv_graph.specs.declared.tree.Condition.TheVariants as conditions
use Rattle.sdv_graph.specs.Walk.{Failed}
use Rattle.sdv_table.specs.declared.format.TheConstants as format
use Rattle.sdv_table.specs.declared.sending.Data.{Data}
use Rattle.sdv_table.specs.declared.sending.Data.TheVariants as uses
use Rattle.sdv_table.specs.declared.sending.Source.{Source}
use Rattle.sdv_table.specs.declared.sending.Source.TheVariants as sources
use Rattle.sdv_table.specs.declared.sending.Sending.{Sending}
use Rattle.sdv_table.specs.Sending.{sending_of}
use Rattle.sdv_graph.specs.Path.{Case, Action, sends, phases as phase_point, lets, tests, flags, widths, heads, jumps, stops}

-- TARGETS: bits 12..0 the point, 15..13 how many loops are left, 31..16 the turns of the loop that is entered, 0 where
-- none is

abbrev pub turns_number : Option ℕ → ℕ
turns_number None = 0
turns_number (Some n) = n

abbrev pub target_word : Target → ℕ
target_word t = t.to + format.LEAVE * t.leave + format.UPPER * turns_number t.enter

-- NUMBERS: two words, the low one first

abbrev pub low : ℕ → ℕ
low n = n % format.HIGH

abbrev pub high : ℕ → ℕ
high n = n / format.HIGH

-- CASES: a word of guards and a target each

abbrev pub guard_code : Guard → ℕ
guard_code Timeout = format.GUARD_TIMEOUT
guard_code Answer = format.GUARD_ANSWER
guard_code Clean = format.GUARD_CLEAN
guard_code Ready = format.GUARD_READY
guard_code App = format.GUARD_APP
guard_code Echo = format.GUARD_ECHO
guard_code OcrReady = format.GUARD_OCR_READY
guard_code OcrBlock = format.GUARD_OCR_BLOCK
guard_code WentWell = format.GUARD_OK
guard_code (InState s) = format.GUARD_STATE + state_number s

-- the first guard lowest
abbrev pub guards_word : List Guard → ℕ
guards_word [] = 0
guards_word (g ∷ gs) = guard_code g + format.NEXT_GUARD * guards_word gs

abbrev pub cases_words : List Case → List ℕ
cases_words [] = []
cases_words (w ∷ ws) = guards_word w.guards ∷ target_word w.target ∷ cases_words ws

-- ADDRESSES

abbrev pub unit_code : AddressUnit → ℕ
unit_code Block = format.UNIT_BLOCK
unit_code Byte = format.UNIT_BYTE
unit_code (By flag) = format.UNIT_BY + format.NAMED * flag

-- a number, a variable, or a number behind a variable; the variable above
abbrev pub position_code : Position → ℕ
position_code (positions.Number n) = format.POSITION_NUMBER
position_code (positions.Variable x None) = format.POSITION_VARIABLE + format.NAMED * x
position_code (positions.Variable x (Some k)) = format.POSITION_BEHIND + format.NAMED * x

abbrev pub position_number : Position → ℕ
position_number (positions.Number n) = n
position_number (positions.Variable x None) = 0
position_number (positions.Variable x (Some k)) = k

abbrev pub address_words : Option Address → List ℕ
address_words None = []
address_words (Some a) =
    (unit_code a.unit + format.ADDRESS_POSITION * position_code a.position) ∷ low (position_number a.position) ∷ high
    (position_number a.position) ∷ []

abbrev pub has_address : Option Address → ℕ
has_address None = 0
has_address (Some a) = 1

-- NAMES: four bytes a word, the first one lowest
abbrev pub name_words : List ℕ → List ℕ
name_words [] = []
name_words (a ∷ []) = a ∷ []
name_words (a ∷ b ∷ []) = (a + 256 * b) ∷ []
name_words (a ∷ b ∷ c ∷ []) = (a + 256 * b + 65536 * c) ∷ []
name_words (a ∷ b ∷ c ∷ d ∷ rest) = (a + 256 * b + 65536 * c + 16777216 * d) ∷ name_words rest

-- LETS

abbrev pub atom_code : Atom → ℕ
atom_code (atoms.Number n) = format.ATOM_NUMBER
atom_code (atoms.Variable y) = format.ATOM_VARIABLE + format.ATOM_NAMED * y
atom_code atoms.CsdBlocks = format.ATOM_CSD_BLOCKS
atom_code atoms.ExtBlocks = format.ATOM_EXT_BLOCKS
atom_code atoms.ExtBoot = format.ATOM_EXT_BOOT

abbrev pub atom_words : Atom → List ℕ
atom_words (atoms.Number n) = low n ∷ high n ∷ []
atom_words atom = []

abbrev pub change_code : Change → ℕ
change_code changes.Same = format.CHANGE_SAME
change_code (changes.Plus k) = format.CHANGE_PLUS
change_code (changes.Minus k) = format.CHANGE_MINUS

abbrev pub change_words : Change → List ℕ
change_words changes.Same = []
change_words (changes.Plus k) = low k ∷ high k ∷ []
change_words (changes.Minus k) = low k ∷ high k ∷ []

-- CONDITIONS

abbrev pub condition_code : Condition → ℕ
condition_code (conditions.Flag flag) = format.CONDITION_FLAG + format.NAMED * flag
condition_code (conditions.AtLeast x n) = format.CONDITION_AT_LEAST + format.NAMED * x
condition_code (conditions.Below x n) = format.CONDITION_BELOW + format.NAMED * x

abbrev pub condition_words : Condition → List ℕ
condition_words (conditions.Flag flag) = []
condition_words (conditions.AtLeast x n) = low n ∷ high n ∷ []
condition_words (conditions.Below x n) = low n ∷ high n ∷ []

-- COMMANDS

abbrev pub expect_code : Expect → ℕ
expect_code expects.Nothing = format.EXPECT_NOTHING
expect_code (expects.R1 index) = format.EXPECT_R1
expect_code expects.R2 = format.EXPECT_R2
expect_code expects.R3 = format.EXPECT_R3
expect_code expects.R6 = format.EXPECT_R6
expect_code expects.R7 = format.EXPECT_R7

abbrev pub data_code : Data → ℕ
data_code uses.Nothing = format.NO_DATA
data_code uses.Busy = format.BUSY
data_code uses.BlocksIn = format.BLOCKS_IN
data_code uses.BlocksOut = format.BLOCKS_OUT
data_code uses.Scr = format.SCR
data_code uses.SdStatus = format.SD_STATUS
data_code uses.ExtCsd = format.EXT_CSD

abbrev pub source_code : Source → ℕ
source_code sources.Own = format.SOURCE_OWN
source_code sources.Rca = format.SOURCE_RCA
source_code sources.Address = format.SOURCE_ADDRESS

abbrev pub sending_code : Sending → ℕ
sending_code s =
    expect_code s.expect + format.EXPECT_BOUND * (data_code s.follows + format.DATA_BOUND * source_code s.source)

-- the announced count, how the command is sent, and how many cases there are
abbrev pub counts_word : (count : ℕ) → Sending → (cases : ℕ) → ℕ
counts_word count s cases = count + format.ROW_EXPECT * (sending_code s + format.SENDING_BOUND * cases)

-- ROWS

abbrev pub aim_code : Aim → ℕ
aim_code Rca = format.AIM_RCA
aim_code Plain = format.AIM_PLAIN

abbrev pub phase_code : Phase → ℕ
phase_code phases.ReceiveBlocks = format.RECEIVE_BLOCKS
phase_code phases.ReceiveRegister = format.RECEIVE_REGISTER
phase_code phases.GiveBlocks = format.GIVE_BLOCKS
phase_code phases.Wait = format.WAIT

abbrev pub bool_code : Bool → ℕ
bool_code false = 0
bool_code true = 1

abbrev pub width_code : Width → ℕ
width_code One = format.ONE_LINE
width_code Four = format.FOUR_LINES
width_code Eight = format.EIGHT_LINES

-- what kind of statement it is
abbrev pub kind_of_action : Action → ℕ
kind_of_action (sends c cases other) = format.SEND
kind_of_action (phase_point p well other) = format.PHASE
kind_of_action (lets l t) = format.LET
kind_of_action (tests c holds other) = format.IF
kind_of_action (flags f on t) = format.FLAG
kind_of_action (widths width t) = format.LINES
kind_of_action (heads n body other) = format.LOOP
kind_of_action (jumps t) = format.BREAK
kind_of_action (stops (Failed name)) = format.FAULT
kind_of_action (stops last) = format.DONE

-- its index, its aim, and whether it has an address
abbrev pub command_code : ScriptCommand → ℕ
command_code c = c.ask.index + format.COMMAND_AIM * (aim_code c.ask.aim + format.AIM_BOUND * has_address c.address)

-- its small parts
abbrev pub small_of_action : Action → ℕ
small_of_action (sends c cases other) = command_code c
small_of_action (phase_point p well other) = phase_code p
small_of_action (lets l t) = l.target + format.LET_ATOM * (atom_code l.atom + format.ATOM_BOUND * change_code l.change)
small_of_action (tests c holds other) = condition_code c
small_of_action (flags f on t) = bool_code on + format.FLAG_NAMED * f
small_of_action (widths width t) = width_code width
small_of_action (stops (Failed name)) = length name
small_of_action action = 0

abbrev pub head_of_action : Action → ℕ
head_of_action action = kind_of_action action + format.SMALL * small_of_action action

-- the other words
abbrev pub row_of_action : Kind → Action → List ℕ
row_of_action k (sends c cases other) =
    target_word other ∷ (sending_of k c.ask).argument ∷ counts_word c.ask.count (sending_of k c.ask) (length cases)
    ∷ (address_words c.address ++ cases_words cases)
row_of_action k (phase_point p well other) = target_word well ∷ target_word other ∷ []
row_of_action k (lets l t) = target_word t ∷ (atom_words l.atom ++ change_words l.change)
row_of_action k (tests c holds other) = target_word holds ∷ target_word other ∷ condition_words c
row_of_action k (flags f on t) = target_word t ∷ []
row_of_action k (widths width t) = target_word t ∷ []
row_of_action k (heads n body other) = target_word body ∷ target_word other ∷ n ∷ []
row_of_action k (jumps t) = target_word t ∷ []
row_of_action k (stops (Failed name)) = name_words name
row_of_action k (stops last) = []

-- how many they are
abbrev pub address_size : Option Address → ℕ
address_size None = 0
address_size (Some a) = 3

abbrev pub atom_size : Atom → ℕ
atom_size (atoms.Number n) = 2
atom_size atom = 0

abbrev pub change_size : Change → ℕ
change_size changes.Same = 0
change_size change = 2

abbrev pub condition_size : Condition → ℕ
condition_size (conditions.Flag flag) = 0
condition_size condition = 2

abbrev pub row_size : Action → ℕ
row_size (sends c cases other) = 3 + address_size c.address + 2 * length cases
row_size (phase_point p well other) = 2
row_size (lets l t) = 1 + atom_size l.atom + change_size l.change
row_size (tests c holds other) = 2 + condition_size c
row_size (flags f on t) = 1
row_size (widths width t) = 1
row_size (heads n body other) = 3
row_size (jumps t) = 1
row_size (stops (Failed name)) = (length name + 3) / 4
row_size (stops last) = 0

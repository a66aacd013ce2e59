-- What words are READ as, whatever they are: a word past the end is read as 0, and a code that no part has as the last
-- one of its list.
use Rattle.std.specs.Prelude.{ℕ, zero, suc, ◌+◌, ◌-◌, ◌*◌, ◌/◌, ◌%◌, ◌==◌, ◌||◌, nat_lt, List, [], ◌∷◌, drop, slice_index, Option, Some, None, if◌then◌else◌}
use Rattle.sdv_frames.specs.declared.reply.Expect.{Expect}
use Rattle.sdv_frames.specs.declared.reply.Expect.TheVariants as expects
use Rattle.sdv_registers.specs.declared.kind.Kind.{Kind}
use Rattle.sdv_registers.specs.declared.kind.Kind.TheVariants.{Sd, Emmc}
use Rattle.sdv_card.specs.declared.event.Aim.{Aim}
use Rattle.sdv_card.specs.declared.event.Aim.TheVariants.{Rca, Plain}
use Rattle.sdv_card.specs.declared.guard.Guard.{Guard}
use Rattle.sdv_card.specs.declared.guard.Guard.TheVariants.{Timeout, Answer, Clean, Ready, App, Echo, OcrReady, OcrBlock, State as InState, Ok as WentWell}
use Rattle.sdv_card.specs.declared.state.State.{State}
use Rattle.sdv_card.specs.declared.state.State.TheVariants as states
use Rattle.sdv_card.specs.declared.state.Width.{Width}
use Rattle.sdv_card.specs.declared.state.Width.TheVariants.{One, Four, Eight}
use Rattle.sdv_graph.specs.declared.graph.Target.{Target}
use Rattle.sdv_graph.specs.declared.tree.ScriptCommand.{ScriptCommand}
use Rattle.sdv_graph.specs.declared.tree.Let.{Let}
use Rattle.sdv_graph.specs.declared.tree.Phase.{Phase}
use Rattle.sdv_graph.specs.declared.tree.Phase.TheVariants as phases
use Rattle.sdv_graph.specs.declared.tree.Address.{Address}
use Rattle.sdv_graph.specs.declared.tree.Unit.{Unit as AddressUnit}
use Rattle.sdv_graph.specs.declared.tree.Unit.TheVariants.{Block, Byte, By}
use Rattle.sdv_graph.specs.declared.tree.Position.{Position}
use Rattle.sdv_graph.specs.declared.tree.Position.TheVariants as positions
use Rattle.sdv_graph.specs.declared.tree.Atom.{Atom}
use Rattle.sdv_graph.specs.declared.tree.Atom.TheVariants as atoms
use Rattle.sdv_graph.specs.declared.tree.Change.{Change}
use Rattle.sdv_graph.specs.declared.tree.Change.TheVariants as changes
use Rattle.sdv_graph.specs.declared.tree.Condition.{Condition}
use Rattle.sdv_graph.specs.declared.tree.Condition.TheVariants as conditions
use Rattle.sdv_graph.specs.Walk.{Finished, Failed}
use Rattle.sdv_graph.specs.Path.{Case, Action, sends, phases as phase_point, lets, tests, flags, widths, heads, jumps, stops}
use Rattle.sdv_table.specs.declared.format.TheConstants as format
use Rattle.sdv_table.specs.declared.counts.Counts.{Counts}
use Rattle.sdv_table.specs.declared.reading.Row.{Row}
use Rattle.sdv_table.specs.declared.reading.Row.TheVariants as rows
use Rattle.sdv_table.specs.declared.sending.Data.{Data}
use Rattle.sdv_table.specs.declared.sending.Data.TheVariants as uses
use Rattle.sdv_table.specs.declared.sending.Source.{Source}
use Rattle.sdv_table.specs.declared.sending.Source.TheVariants as sources
use Rattle.sdv_table.specs.declared.sending.Sending.{Sending}
use Rattle.sdv_table.specs.Table.{header_size}

-- TARGETS AND NUMBERS

abbrev pub enter_of : ℕ → Option ℕ
enter_of n = if n == 0 then None else Some n

abbrev pub target_of : ℕ → Target
target_of w = record {
  to = w % format.LEAVE;
  leave = w / format.LEAVE % format.LEAVE_BOUND;
  enter = enter_of (w / format.UPPER);
}

abbrev pub number_at : List ℕ → ℕ → ℕ
number_at ws i = slice_index ws i + format.HIGH * slice_index ws (i + 1)

-- SMALL PARTS

abbrev pub phase_of : ℕ → Phase
phase_of n = if n == format.RECEIVE_BLOCKS then phases.ReceiveBlocks else (
    if n == format.RECEIVE_REGISTER then phases.ReceiveRegister else (
    if n == format.GIVE_BLOCKS then phases.GiveBlocks else phases.Wait))

abbrev pub width_of : ℕ → Width
width_of n = if n == format.ONE_LINE then One else (if n == format.FOUR_LINES then Four else Eight)

abbrev pub aim_of : ℕ → Aim
aim_of n = if n == format.AIM_RCA then Rca else Plain

abbrev pub atom_of : ℕ → ℕ → Atom
atom_of code n = if code % format.ATOM_NAMED == format.ATOM_NUMBER then atoms.Number n else (
    if code % format.ATOM_NAMED == format.ATOM_VARIABLE then atoms.Variable (code / format.ATOM_NAMED) else (
    if code % format.ATOM_NAMED == format.ATOM_CSD_BLOCKS then atoms.CsdBlocks else (
    if code % format.ATOM_NAMED == format.ATOM_EXT_BLOCKS then atoms.ExtBlocks else atoms.ExtBoot)))

-- how many words an atom of this code has
abbrev pub code_size : ℕ → ℕ
code_size code = if code % format.ATOM_NAMED == format.ATOM_NUMBER then 2 else 0

abbrev pub change_of : ℕ → ℕ → Change
change_of code n = if code == format.CHANGE_SAME then changes.Same else (
    if code == format.CHANGE_PLUS then changes.Plus n else changes.Minus n)

abbrev pub condition_of : ℕ → ℕ → Condition
condition_of code n = if code % format.NAMED == format.CONDITION_FLAG then conditions.Flag (code / format.NAMED) else (
    if code % format.NAMED == format.CONDITION_AT_LEAST then conditions.AtLeast (code / format.NAMED) n
    else conditions.Below (code / format.NAMED) n)

abbrev pub unit_of : ℕ → AddressUnit
unit_of code = if code % format.NAMED == format.UNIT_BLOCK then Block else (
    if code % format.NAMED == format.UNIT_BYTE then Byte else By (code / format.NAMED))

abbrev pub position_of : ℕ → ℕ → Position
position_of code n = if code % format.NAMED == format.POSITION_NUMBER then positions.Number n else (
    if code % format.NAMED == format.POSITION_VARIABLE then positions.Variable (code / format.NAMED) None
    else positions.Variable (code / format.NAMED) (Some n))

abbrev pub address_of : ℕ → List ℕ → Option Address
address_of has ws = if has == 0 then None else Some record {
  unit = unit_of (slice_index ws 3 % format.ADDRESS_POSITION);
  position = position_of (slice_index ws 3 / format.ADDRESS_POSITION) (number_at ws 4);
}

-- only these indexes have an argument of their own
abbrev pub own_argument : (index word : ℕ) → ℕ
own_argument index word = if (index == 6) || (index == 38) || (index == 41) then word else 0

abbrev pub command_of : ℕ → List ℕ → ScriptCommand
command_of small ws = record {
  ask = record {
    index = small % format.COMMAND_AIM;
    aim = aim_of (small / format.COMMAND_AIM % format.AIM_BOUND);
    argument = own_argument (small % format.COMMAND_AIM) (slice_index ws 1);
    count = slice_index ws 2 % format.UPPER;
  };
  address = address_of (small / format.COMMAND_ADDRESS) ws;
}

-- where the cases of a command begin in its row
abbrev pub cases_place : ℕ → ℕ
cases_place has = if has == 0 then 3 else 6

-- GUARDS AND CASES

abbrev pub state_of : ℕ → State
state_of n = if n == 0 then states.Idle else (if n == 1 then states.Ready else (if n == 2 then states.Ident else (
    if n == 3 then states.Stby else (if n == 4 then states.Tran else (if n == 5 then states.Data else (
    if n == 6 then states.Rcv else (if n == 7 then states.Prg else states.Dis)))))))

abbrev pub guard_of : ℕ → Guard
guard_of n = if n == format.GUARD_TIMEOUT then Timeout else (if n == format.GUARD_ANSWER then Answer else (
    if n == format.GUARD_CLEAN then Clean else (if n == format.GUARD_READY then Ready else (
    if n == format.GUARD_APP then App else (if n == format.GUARD_ECHO then Echo else (
    if n == format.GUARD_OCR_READY then OcrReady else (if n == format.GUARD_OCR_BLOCK then OcrBlock else (
    if n == format.GUARD_OK then WentWell else InState (state_of (n - format.GUARD_STATE))))))))))

-- up to so many, the lowest digit first
abbrev pub guards_of : (most word : ℕ) → List Guard
guards_of zero w = []
guards_of (suc n) w = if w == 0 then [] else guard_of (w % format.NEXT_GUARD) ∷ guards_of n (w / format.NEXT_GUARD)

abbrev pub case_of : List ℕ → Case
case_of ws = record { guards = guards_of format.MOST_GUARDS (slice_index ws 0); target = target_of (slice_index ws 1) }

abbrev pub cases_of : (count : ℕ) → List ℕ → List Case
cases_of zero ws = []
cases_of (suc n) ws = case_of ws ∷ cases_of n (drop 2 ws)

abbrev pub cases_count : List ℕ → ℕ
cases_count ws = slice_index ws 2 / format.ROW_CASES

-- HOW A COMMAND IS SENT

abbrev pub expect_read : (code index : ℕ) → Expect
expect_read code index = if code == format.EXPECT_NOTHING then expects.Nothing else (
    if code == format.EXPECT_R1 then expects.R1 index else (
    if code == format.EXPECT_R2 then expects.R2 else (if code == format.EXPECT_R3 then expects.R3 else (
    if code == format.EXPECT_R6 then expects.R6 else expects.R7))))

abbrev pub data_read : ℕ → Data
data_read code = if code == format.NO_DATA then uses.Nothing else (if code == format.BUSY then uses.Busy else (
    if code == format.BLOCKS_IN then uses.BlocksIn else (if code == format.BLOCKS_OUT then uses.BlocksOut else (
    if code == format.SCR then uses.Scr else (if code == format.SD_STATUS then uses.SdStatus else uses.ExtCsd)))))

abbrev pub source_read : ℕ → Source
source_read code = if code == format.SOURCE_OWN then sources.Own else (
    if code == format.SOURCE_RCA then sources.Rca else sources.Address)

abbrev pub sending_read : ℕ → List ℕ → Sending
sending_read small ws = record {
  source = source_read (slice_index ws 2 / format.ROW_SOURCE % format.SOURCE_BOUND);
  argument = slice_index ws 1;
  expect = expect_read (slice_index ws 2 / format.ROW_EXPECT % format.EXPECT_BOUND) (small % format.COMMAND_AIM);
  follows = data_read (slice_index ws 2 / format.ROW_DATA % format.DATA_BOUND);
}

-- NAMES: so many bytes, four a word

abbrev pub byte_at : List ℕ → (below : ℕ) → ℕ
byte_at ws below = slice_index ws 0 / below % 256

abbrev pub name_of : ℕ → List ℕ → List ℕ
name_of zero ws = []
name_of (suc zero) ws = byte_at ws 1 ∷ []
name_of (suc (suc zero)) ws = byte_at ws 1 ∷ byte_at ws 256 ∷ []
name_of (suc (suc (suc zero))) ws = byte_at ws 1 ∷ byte_at ws 256 ∷ byte_at ws 65536 ∷ []
name_of (suc (suc (suc (suc n)))) ws =
    byte_at ws 1 ∷ byte_at ws 256 ∷ byte_at ws 65536 ∷ byte_at ws 16777216 ∷ name_of n (drop 1 ws)

-- STATEMENTS

abbrev pub let_of : ℕ → List ℕ → Let
let_of small ws = record {
  target = small % format.LET_ATOM;
  atom = atom_of (small / format.LET_ATOM % format.ATOM_BOUND) (number_at ws 1);
  change = change_of (small / format.LET_CHANGE)
      (number_at ws (1 + code_size (small / format.LET_ATOM % format.ATOM_BOUND)));
}

-- the statement of a kind, by its small parts and its row; there are ten kinds
abbrev pub action_of : (kind small : ℕ) → List ℕ → Option Action
action_of kind small ws =
    if kind == format.SEND then Some (sends (command_of small ws)
    (cases_of (cases_count ws) (drop (cases_place (small / format.COMMAND_ADDRESS)) ws))
    (target_of (slice_index ws 0))) else (
    if kind == format.PHASE then Some (phase_point (phase_of small) (target_of (slice_index ws 0))
    (target_of (slice_index ws 1))) else (
    if kind == format.LET then Some (lets (let_of small ws) (target_of (slice_index ws 0))) else (
    if kind == format.IF then Some (tests (condition_of small (number_at ws 2)) (target_of (slice_index ws 0))
    (target_of (slice_index ws 1))) else (
    if kind == format.FLAG then Some (flags (small / format.FLAG_NAMED) (small % format.FLAG_NAMED == 1)
    (target_of (slice_index ws 0))) else (
    if kind == format.LINES then Some (widths (width_of small) (target_of (slice_index ws 0))) else (
    if kind == format.LOOP then Some (heads (slice_index ws 2 % format.UPPER) (target_of (slice_index ws 0))
    (target_of (slice_index ws 1))) else (
    if kind == format.BREAK then Some (jumps (target_of (slice_index ws 0))) else (
    if kind == format.DONE then Some (stops Finished) else (
    if kind == format.FAULT then Some (stops (Failed (name_of small ws))) else None)))))))))

-- TABLES

abbrev pub kind_read : List ℕ → Kind
kind_read ws = if slice_index ws 1 / format.KIND % format.PART_BOUND == format.SD then Sd else Emmc

abbrev pub counts_read : List ℕ → Counts
counts_read ws = record {
  numbers = slice_index ws 1 / format.NUMBERS % format.PART_BOUND;
  flags = slice_index ws 1 / format.FLAGS;
  points = slice_index ws 2 % format.UPPER;
}

-- how many moves a run makes at most, and how many commands it sends at most
abbrev pub moves_read : List ℕ → ℕ
moves_read ws = number_at ws 4

abbrev pub commands_read : List ℕ → ℕ
commands_read ws = number_at ws 6

-- a point's word, and the words from its row on
abbrev pub head_read : List ℕ → ℕ → ℕ
head_read ws i = slice_index ws (header_size + i)

abbrev pub place_read : List ℕ → ℕ → ℕ
place_read ws i = head_read ws i / format.UPPER

abbrev pub small_read : List ℕ → ℕ → ℕ
small_read ws i = head_read ws i / format.SMALL % format.SMALL_BOUND

abbrev pub row_read : List ℕ → ℕ → List ℕ
row_read ws i = drop (place_read ws i) ws

-- the statement at a point; none past the last one
abbrev pub action_at : List ℕ → ℕ → Option Action
action_at ws i = if nat_lt i (counts_read ws).points then action_of (head_read ws i % format.SMALL) (small_read ws i)
    (row_read ws i) else None

-- how the command at a point is sent
abbrev pub sending_at : List ℕ → ℕ → Sending
sending_at ws i = sending_read (small_read ws i) (row_read ws i)

-- ROWS as players see them

abbrev pub seen_row : Row → Action
seen_row (rows.Send command cases other) = sends command (cases_of cases.count cases.words.now) other
seen_row (rows.Phase p well other) = phase_point p well other
seen_row (rows.Let l t) = lets l t
seen_row (rows.If condition holds other) = tests condition holds other
seen_row (rows.Flag f on t) = flags f on t
seen_row (rows.Lines width t) = widths width t
seen_row (rows.Loop n body other) = heads n body other
seen_row (rows.Break t) = jumps t
seen_row rows.Done = stops Finished
seen_row (rows.Fault name) = stops (Failed (name_of name.length name.words.now))

-- What a simulated card is after a row that it takes, part by part.
-- SD Physical Layer Simplified Specification, sections 4.2, 4.3 and 4.8; JESD84-B51, sections 6.4, 6.6 and 6.11.
-- Where the tables leave a choice, the one that is made here is this project's own.
use Rattle.std.specs.Prelude.{Bool, true, false, ℕ, ◌==◌, List, [], ◌∷◌, Option, Some, None, if◌then◌else◌}
use Rattle.sdv_registers.specs.declared.kind.Kind.{Kind}
use Rattle.sdv_registers.specs.declared.kind.Kind.TheVariants.{Sd, Emmc}
use Rattle.sdv_card.specs.declared.state.EraseStage.{EraseStage}
use Rattle.sdv_card.specs.declared.state.EraseStage.TheVariants.{Outside}
use Rattle.sdv_card.specs.declared.state.State.{State}
use Rattle.sdv_card.specs.declared.state.Mode.{Mode}
use Rattle.sdv_card.specs.declared.command.Setting.TheVariants.{Lines}
use Rattle.sdv_card.specs.declared.command.Row.{Row}
use Rattle.sdv_card.specs.declared.command.Row.TheVariants.{Cmd0, Cmd1, Cmd3Sd, Cmd3Emmc, Cmd6, Cmd8Sd, Cmd13, Cmd16, Cmd17, Cmd18, Cmd23, Cmd24, Cmd25, Cmd32, Cmd33, Cmd35, Cmd36, Cmd55, Acmd6, Acmd13, Acmd41}
use Rattle.sdv_card.specs.Modes.{first_mode, calm, failed, set}
use Rattle.sdv_card.specs.StateTable.{rows, targets}
use Rattle.sdv_card.specs.RowRules.{erase_after, transfer_after}
use Rattle.sdv_card.specs.Taken.{block_of}
use Rattle.sdv_behavior.specs.declared.card_desc.CardDesc.{CardDesc}
use Rattle.sdv_behavior.specs.declared.card_state.CardState.{CardState}
use Rattle.sdv_behavior.specs.declared.choice.Choice.{Choice}

-- the first of some states
abbrev pub first_of : List State → State → State
first_of [] state = state
first_of (s ∷ rest) state = s

-- STATE: the one to which the state table leads; after CMD1 and ACMD41 the card is ready, or still idle
abbrev pub state_next : Kind → Row → (ready : Bool) → State → State
state_next k Cmd1 false state = state
state_next k (Acmd41 high) false state = state
state_next k row ready state = first_of (targets (rows k row) state) state

-- RELATIVE ADDRESS: an SD card has the one that it chooses, an e.MMC device the one that it is given
abbrev pub rca_next : (chosen : ℕ) → Row → Option ℕ → Option ℕ
rca_next chosen Cmd0 rca = None
rca_next chosen Cmd3Sd rca = Some chosen
rca_next chosen Cmd3Emmc rca = Some 1
rca_next chosen row rca = rca

-- APPLICATION FLAG: CMD55 sets it, or is taken as an ordinary command
abbrev pub app_next : Row → (sets : Bool) → Bool
app_next Cmd55 sets = sets
app_next row sets = false

-- BLOCK LENGTH
abbrev pub length_next : (first : ℕ) → Row → ℕ → ℕ
length_next first Cmd0 length = first
length_next first Cmd16 length = 512
length_next first row length = length

-- MODE: ACMD6 and CMD6 set their value, unless CMD6 fails; every other command ends a pending switch error, CMD13 by
-- showing it, or keeps it
abbrev pub mode_left : Row → (keeps : Bool) → Mode → Mode
mode_left Cmd13 keeps mode = if keeps then mode else calm mode
mode_left row keeps mode = calm mode

abbrev pub mode_next : Row → (fails keeps : Bool) → Mode → Mode
mode_next Cmd0 fails keeps mode = first_mode
mode_next (Acmd6 width) fails keeps mode = calm (set (Lines width) mode)
mode_next (Cmd6 setting) fails keeps mode = if fails then failed mode else calm (set setting mode)
mode_next row fails keeps mode = mode_left row keeps mode

-- PRESET COUNT: an e.MMC device keeps it or forgets it
abbrev pub preset_left : Kind → (keeps : Bool) → ℕ → ℕ
preset_left Sd keeps preset = preset
preset_left Emmc keeps preset = if keeps then preset else 0

abbrev pub preset_next : Kind → Row → (keeps : Bool) → ℕ → ℕ
preset_next k Cmd0 keeps preset = 0
preset_next k (Cmd18 n) keeps preset = 0
preset_next k (Cmd23 n) keeps preset = n
preset_next k (Cmd25 n) keeps preset = 0
preset_next k row keeps preset = preset_left k keeps preset

-- BLOCKS OF A TRANSFER: the block that the argument names; where no count was preset the transfer is
-- open, with one block
abbrev pub block_next : Row → (block_unit : Bool) → (argument : ℕ) → ℕ → ℕ
block_next Cmd17 block_unit argument block = block_of block_unit argument
block_next (Cmd18 n) block_unit argument block = block_of block_unit argument
block_next Cmd24 block_unit argument block = block_of block_unit argument
block_next (Cmd25 n) block_unit argument block = block_of block_unit argument
block_next row block_unit argument block = block

-- the preset count, or one block
abbrev pub count_of : ℕ → ℕ
count_of preset = if preset == 0 then 1 else preset

abbrev pub announced_next : Row → (preset : ℕ) → ℕ → ℕ
announced_next Cmd17 preset announced = 1
announced_next (Cmd18 n) preset announced = count_of preset
announced_next Cmd24 preset announced = 1
announced_next (Cmd25 n) preset announced = count_of preset
announced_next row preset announced = announced

-- CMD8 of an SD card
abbrev pub checked_next : Row → Bool → Bool
checked_next Cmd0 checked = false
checked_next Cmd8Sd checked = true
checked_next row checked = checked

-- BLOCKS OF AN ERASE
abbrev pub first_next : Row → (block_unit : Bool) → (argument : ℕ) → ℕ → ℕ
first_next Cmd32 block_unit argument block = block_of block_unit argument
first_next Cmd35 block_unit argument block = block_of block_unit argument
first_next row block_unit argument block = block

abbrev pub last_next : Row → (block_unit : Bool) → (argument : ℕ) → ℕ → ℕ
last_next Cmd33 block_unit argument block = block_of block_unit argument
last_next Cmd36 block_unit argument block = block_of block_unit argument
last_next row block_unit argument block = block

-- the state after a row that the card takes
abbrev pub taken_by : CardDesc → Row → (argument : ℕ) → Choice → CardState → CardState
taken_by d row argument choice t = record {
  state = state_next d.kind row choice.ready t.state;
  rca = rca_next choice.address row t.rca;
  app = app_next row choice.app;
  block_length = length_next choice.length row t.block_length;
  erase = erase_after row t.erase;
  mode = mode_next row choice.switch_fails choice.keeps_switch_error t.mode;
  preset = preset_next d.kind row choice.keeps_preset t.preset;
  transfer = transfer_after row t.preset t.transfer;
  next_block = block_next row d.block_unit argument t.next_block;
  announced = announced_next row t.preset t.announced;
  checked = checked_next row t.checked;
  erase_first = first_next row d.block_unit argument t.erase_first;
  erase_last = last_next row d.block_unit argument t.erase_last;
  unshown_error = t.unshown_error;
}

-- ERASE STAGE of a card that stays: it is kept, or ended, unless the index is 13
abbrev pub erase_left : Row → (keeps : Bool) → EraseStage → EraseStage
erase_left Cmd13 keeps erase = erase
erase_left Acmd13 keeps erase = erase
erase_left row keeps erase = if keeps then erase else Outside

-- the state of a card that did not take a command which reached it: the application flag is lost, and a pending switch
-- error, which an answer to CMD13 shows or keeps
abbrev pub stays : Kind → Row → Choice → CardState → CardState
stays k row choice t = record t {
  app = false;
  mode = mode_left row choice.keeps_switch_error t.mode;
  erase = erase_left row choice.keeps_erase t.erase;
  preset = preset_left k choice.keeps_preset t.preset;
}

-- The code of a card beside its host, as a number, and the fields that such a number shows.
-- The code is this project's own.
use Rattle.std.specs.Prelude.{Bool, true, false, ℕ, ◌==◌, ◌+◌, ◌*◌, ◌/◌, ◌%◌, Option, Some, None, if◌then◌else◌}
use Rattle.sdv_card.specs.declared.state.State.{State}
use Rattle.sdv_card.specs.declared.state.State.TheVariants.{Idle, Ready, Ident, Stby, Tran, Data, Rcv, Prg, Dis}
use Rattle.sdv_card.specs.declared.state.Transfer.{Transfer}
use Rattle.sdv_card.specs.declared.state.Transfer.TheVariants.{Nothing, ReadDue, OpenReadDue, ScrDue, SdStatusDue, ExtCsdDue, ReadOver, OpenReadOver, WriteDue, OpenWriteDue, WriteOver, OpenWriteOver}
use Rattle.sdv_card.specs.declared.state.EraseStage.{EraseStage}
use Rattle.sdv_card.specs.declared.state.EraseStage.TheVariants.{Outside, Begun, Both}
use Rattle.sdv_card.specs.declared.fields.Fields.{Fields}
use Rattle.sdv_card.specs.declared.state.Width.{Width}
use Rattle.sdv_card.specs.declared.state.Width.TheVariants.{One, Four, Eight}
use Rattle.sdv_card.specs.declared.state.Partition.{Partition}
use Rattle.sdv_card.specs.declared.state.Partition.TheVariants.{User, Boot1, Boot2}
use Rattle.sdv_card.specs.declared.state.Mode.{Mode}
use Rattle.sdv_card.specs.States.{state_number}
use Rattle.sdv_card.specs.Modes.{width_number, partition_number}

abbrev pub transfer_number : Transfer → ℕ
transfer_number Nothing = 0
transfer_number ReadDue = 1
transfer_number OpenReadDue = 2
transfer_number ScrDue = 3
transfer_number SdStatusDue = 4
transfer_number ExtCsdDue = 5
transfer_number ReadOver = 6
transfer_number OpenReadOver = 7
transfer_number WriteDue = 8
transfer_number OpenWriteDue = 9
transfer_number WriteOver = 10
transfer_number OpenWriteOver = 11

abbrev pub erase_number : EraseStage → ℕ
erase_number Outside = 0
erase_number Begun = 1
erase_number Both = 2

abbrev pub bool_number : Bool → ℕ
bool_number false = 0
bool_number true = 1

-- the bits of a mode: 21..20 width, 25..24 partition, 26 a pending switch error
abbrev pub mode_number : Mode → ℕ
mode_number mode =
    1048576 * width_number mode.width + 16777216 * partition_number mode.partition
    + 67108864 * bool_number mode.error

-- bits 3..0 state, 7..4 transfer, 9..8 erase stage, 10 block addresses, 11 block length 512, 12 application flag,
-- 13 match, 19..16 the script's flags, 21..20 the card's width, 23..22 the host's, 25..24 the partition in access,
-- 26 a pending switch error, 47..32 preset count
unfoldable pub code_of : Fields → ℕ
code_of f =
    state_number f.state + 16 * transfer_number f.transfer + 256 * erase_number f.erase + 1024
    * bool_number f.block_unit
    + 2048 * bool_number f.length_512 + 4096 * bool_number f.app + 8192 * bool_number f.matched
    + 65536 * f.flags + mode_number f.mode + 4194304 * width_number f.lines + 4294967296 * f.preset

abbrev pub state_of : ℕ → State
state_of n = if n == 0 then Idle else (if n == 1 then Ready else (if n == 2 then Ident else (if n == 3 then Stby else (
    if n == 4 then Tran else (if n == 5 then Data else (if n == 6 then Rcv else (if n == 7 then Prg else Dis)))))))

abbrev pub transfer_of : ℕ → Transfer
transfer_of n = if n == 0 then Nothing else
    (if n == 1 then ReadDue else (if n == 2 then OpenReadDue else (if n == 3 then ScrDue else (
    if n == 4 then SdStatusDue else (if n == 5 then ExtCsdDue else
    (if n == 6 then ReadOver else (if n == 7 then OpenReadOver else (
    if n == 8 then WriteDue else (if n == 9 then OpenWriteDue else
    (if n == 10 then WriteOver else OpenWriteOver))))))))))

abbrev pub erase_of : ℕ → EraseStage
erase_of n = if n == 0 then Outside else (if n == 1 then Begun else Both)

-- the width, the partition and the mode that a number shows
abbrev pub width_of : ℕ → Width
width_of n = if n == 0 then One else (if n == 1 then Four else Eight)

abbrev pub partition_of : ℕ → Partition
partition_of n = if n == 0 then User else (if n == 1 then Boot1 else Boot2)

abbrev pub mode_of : ℕ → Mode
mode_of n = record {
  width = width_of (n / 1048576 % 4);
  partition = partition_of (n / 16777216 % 4);
  error = n / 67108864 % 2 == 1;
}

-- the fields that the bits of a number show, if they are a code
unfoldable pub digits : ℕ → Fields
digits n = record {
  state = state_of (n % 16);
  transfer = transfer_of (n / 16 % 16);
  erase = erase_of (n / 256 % 4);
  block_unit = n / 1024 % 2 == 1;
  length_512 = n / 2048 % 2 == 1;
  app = n / 4096 % 2 == 1;
  matched = n / 8192 % 2 == 1;
  mode = mode_of n;
  lines = width_of (n / 4194304 % 4);
  flags = n / 65536 % 16;
  preset = n / 4294967296 % 65536;
}

-- the fields of a number; none where it has another bit or value than a code
unfoldable pub fields_of : ℕ → Option Fields
fields_of n = if code_of (digits n) == n then Some (digits n) else None

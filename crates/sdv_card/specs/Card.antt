-- What a card is: its registers, its capacity, its state, and the blocks that it holds.
-- SD Physical Layer Simplified Specification, chapters 4 and 5; JESD84-B51, chapters 6 and 7.
use Rattle.std.specs.Prelude.{◌≡◌, ◌<◌, ◌==◌, Bool, true, false, not, IsTrue, ℕ, List, length, All, Option, Some, None}
use Rattle.sdv_registers.specs.declared.kind.Kind.{Kind}
use Rattle.sdv_registers.specs.declared.kind.Kind.TheVariants.{Sd, Emmc}
use Rattle.sdv_card.specs.declared.state.State.{State}
use Rattle.sdv_card.specs.declared.state.State.TheVariants.{Idle, Ready, Ident, Data, Rcv}
use Rattle.sdv_card.specs.declared.state.Transfer.{Transfer}
use Rattle.sdv_card.specs.declared.state.Transfer.TheVariants.{Nothing, ReadDue, OpenReadDue, ScrDue, SdStatusDue, ExtCsdDue, ReadOver, OpenReadOver, WriteDue, OpenWriteDue, WriteOver, OpenWriteOver}
use Rattle.sdv_card.specs.declared.state.EraseStage.{EraseStage}
use Rattle.sdv_card.specs.declared.state.Partition.{Partition}
use Rattle.sdv_card.specs.declared.state.Partition.TheVariants.{User, Boot1, Boot2}
use Rattle.sdv_card.specs.declared.state.Mode.{Mode}
use Rattle.sdv_card.specs.Modes.{mode_fits}

-- a block of 512 bytes
abbrev pub Block : Type 0
Block = List ℕ

-- what a card holds: the blocks of its user area, and of each boot partition
pub record Partitions : Type 0 where
  pub user : List Block
  pub boot_1 : List Block
  pub boot_2 : List Block

pub record Card : Type 0 where
  -- WHAT NO STEP CHANGES
  pub kind : Kind
  -- of an SD card: 1 or 2, the version of the specification that it follows
  pub version : ℕ
  -- addresses count blocks, and not bytes
  pub block_unit : Bool
  -- in blocks: of the user area, and of each boot partition, which an SD card does not have
  pub capacity : ℕ
  pub boot_capacity : ℕ
  -- bits 127..8 of the CSD and the CID, the highest byte first
  pub csd : List ℕ
  pub cid : List ℕ
  -- the registers that go over the data lines, in the order of their bytes there
  pub ext_csd : List ℕ
  pub scr : List ℕ
  pub sd_status : List ℕ
  -- WHAT STEPS CHANGE
  pub state : State
  -- the relative card address
  pub rca : Option ℕ
  -- the application flag: the next command is taken as an application command
  pub app : Bool
  -- in bytes
  pub block_length : ℕ
  pub erase : EraseStage
  -- what commands with index 6 set
  pub mode : Mode
  -- the preset count of CMD23, 0 where there is none
  pub preset : ℕ
  pub transfer : Transfer
  -- the next block of a transfer of blocks, and how many the host announced
  pub next_block : ℕ
  pub announced : ℕ
  -- an error of an earlier write that no status has shown yet
  pub unshown_error : Bool
  pub contents : Partitions

-- A PARTITION

-- how many blocks it has
abbrev pub capacity_of : Partition → (capacity boot_capacity : ℕ) → ℕ
capacity_of User capacity boot_capacity = capacity
capacity_of partition capacity boot_capacity = boot_capacity

-- its blocks
abbrev pub blocks_of : Partition → Partitions → List Block
blocks_of User contents = contents.user
blocks_of Boot1 contents = contents.boot_1
blocks_of Boot2 contents = contents.boot_2

-- the contents with other blocks there
abbrev pub put : Partition → List Block → Partitions → Partitions
put User blocks contents = record contents { user = blocks }
put Boot1 blocks contents = record contents { boot_1 = blocks }
put Boot2 blocks contents = record contents { boot_2 = blocks }

-- THE PARTITION IN ACCESS, which commands with an address and data phases concern

-- how many blocks it has
abbrev pub accessed_capacity : Card → ℕ
accessed_capacity c = capacity_of c.mode.partition c.capacity c.boot_capacity

-- its blocks, of what a card holds or may hold later
abbrev pub accessed_blocks : Card → (contents : Partitions) → List Block
accessed_blocks c contents = blocks_of c.mode.partition contents

-- the contents with other blocks there
abbrev pub put_accessed : Card → List Block → (contents : Partitions) → Partitions
put_accessed c blocks contents = put c.mode.partition blocks contents

-- THE RULES OF A CARD

abbrev pub IsByte : ℕ → Type 0
IsByte n = n < 256

-- a register of n bytes
pub record IsRegister (n : ℕ) (bytes : List ℕ) : Type 0 where
  pub size : length bytes ≡ n
  pub bytes_fit : All IsByte bytes

-- n blocks of 512 bytes
pub record AreBlocks (n : ℕ) (blocks : List Block) : Type 0 where
  pub size : length blocks ≡ n
  pub blocks_fit : All (IsRegister 512) blocks

-- in idle, ready and identification state a card has no relative address, in every other one that isn't 0
abbrev pub AddressFits : State → Option ℕ → Type 0
AddressFits Idle rca = None ≡ rca
AddressFits Ready rca = None ≡ rca
AddressFits Ident rca = None ≡ rca
AddressFits state rca = (n : ℕ) × (Some n ≡ rca) × (0 < n) × (n < 65536)

-- data state has a transfer from the card, receive state one to the card, every other state none
abbrev pub transfer_fits : State → Transfer → Bool
transfer_fits Data ReadDue = true
transfer_fits Data OpenReadDue = true
transfer_fits Data ScrDue = true
transfer_fits Data SdStatusDue = true
transfer_fits Data ExtCsdDue = true
transfer_fits Data ReadOver = true
transfer_fits Data OpenReadOver = true
transfer_fits Data transfer = false
transfer_fits Rcv WriteDue = true
transfer_fits Rcv OpenWriteDue = true
transfer_fits Rcv WriteOver = true
transfer_fits Rcv OpenWriteOver = true
transfer_fits Rcv transfer = false
transfer_fits state Nothing = true
transfer_fits state transfer = false

-- an SD card has no preset count and no EXT_CSD; an e.MMC device no application flag, SCR and SD status
abbrev pub kind_fits : Kind → Transfer → (app : Bool) → (preset : ℕ) → Bool
kind_fits Sd ExtCsdDue app preset = false
kind_fits Sd transfer app preset = preset == 0
kind_fits Emmc ScrDue app preset = false
kind_fits Emmc SdStatusDue app preset = false
kind_fits Emmc transfer app preset = not app

-- a block-addressed card has block length 512
abbrev pub length_fits : (block_unit length_512 : Bool) → Bool
length_fits true length_512 = length_512
length_fits false length_512 = true

-- the registers of a kind that go over the data lines
pub record SdRegisters (c : Card) : Type 0 where
  pub scr : IsRegister 8 c.scr
  pub sd_status : IsRegister 64 c.sd_status

abbrev pub DataRegisters : Kind → Card → Type 0
DataRegisters Sd c = SdRegisters c
DataRegisters Emmc c = IsRegister 512 c.ext_csd

-- a card holds as many blocks in each partition as its capacities say
abbrev pub ContentsFit : Card → Type 0
ContentsFit c = (partition : Partition) →
    AreBlocks (capacity_of partition c.capacity c.boot_capacity) (blocks_of partition c.contents)

-- a card, as every step leaves it
pub record IsCard (c : Card) : Type 0 where
  pub csd : IsRegister 15 c.csd
  pub cid : IsRegister 15 c.cid
  pub registers : DataRegisters c.kind c
  pub address : AddressFits c.state c.rca
  pub transfer : IsTrue (transfer_fits c.state c.transfer)
  pub kind_rules : IsTrue (kind_fits c.kind c.transfer c.app c.preset)
  pub block_length : IsTrue (length_fits c.block_unit (c.block_length == 512))
  pub mode : IsTrue (mode_fits c.kind c.mode)
  pub preset : c.preset < 65536
  pub announced : c.announced < 65536
  pub contents : ContentsFit c

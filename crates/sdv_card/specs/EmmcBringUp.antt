-- One e.MMC device, and what happens at it when a host brings it up and reads its EXT_CSD: an example of its steps.
-- JESD84-B51, sections 6.4 (device identification mode) and 7.4 (extended CSD register).
use Rattle.std.specs.Prelude.{true, false, ℕ, List, [], ◌∷◌, ◌++◌, replicate, Some, None}
use Rattle.sdv_registers.specs.declared.kind.Kind.TheVariants.{Emmc}
use Rattle.sdv_frames.specs.declared.reply.Reply.TheVariants.{R1, R2, R3}
use Rattle.sdv_card.specs.declared.state.State.TheVariants.{Idle, Tran}
use Rattle.sdv_card.specs.declared.state.Transfer.TheVariants.{Nothing}
use Rattle.sdv_card.specs.declared.state.EraseStage.TheVariants.{Outside}
use Rattle.sdv_card.specs.declared.state.Width.TheVariants.{One}
use Rattle.sdv_card.specs.declared.state.Partition.TheVariants.{Boot1}
use Rattle.sdv_card.specs.declared.event.Aim.TheVariants.{Rca, Plain}
use Rattle.sdv_card.specs.declared.answer.Answer.TheVariants.{Sent, Reply as Replied}
use Rattle.sdv_card.specs.declared.answer.DataEnd.TheVariants.{Ok}
use Rattle.sdv_card.specs.Card.{Card, Block, Partitions, AreBlocks}
use Rattle.sdv_card.specs.Modes.{first_mode}
use Rattle.sdv_card.specs.ScriptEvent.{ReceiveRegister, RegisterIn}
use Rattle.sdv_card.specs.Profile.{IsAtStart, IsOfProfile, host_at_start}
use Rattle.sdv_card.specs.Legal.{InBounds}
use Rattle.sdv_card.specs.BringUp.{Happening, AllHappen, command, read_at}

-- bits 127..8 of the device's CSD and CID
abbrev pub device_csd : List ℕ
device_csd = 0 ∷ 0 ∷ 0 ∷ 0 ∷ 0 ∷ 0x09 ∷ 0x03 ∷ 0xff ∷ 0xc0 ∷ 0x03 ∷ 0x80 ∷ 0 ∷ 0 ∷ 0 ∷ 0 ∷ []

abbrev pub device_cid : List ℕ
device_cid = 0 ∷ 1 ∷ 0x58 ∷ 0x53 ∷ 0x44 ∷ 0x56 ∷ 0x45 ∷ 0x52 ∷ 0x49 ∷ 0x10 ∷ 0 ∷ 0 ∷ 0 ∷ 1 ∷ 0x17 ∷ []

-- its EXT_CSD, with 1,024 sectors in bytes 212 to 215
abbrev pub device_ext_csd : List ℕ
device_ext_csd = replicate 212 0 ++ (0 ∷ 4 ∷ 0 ∷ 0 ∷ replicate 296 0)

-- an e.MMC device with 1,024 blocks and block addresses, before the first command
abbrev pub example_device : List Block → Card
example_device contents = record {
  kind = Emmc;
  version = 0;
  block_unit = true;
  capacity = 1024;
  boot_capacity = 0;
  csd = device_csd;
  cid = device_cid;
  ext_csd = device_ext_csd;
  scr = [];
  sd_status = [];
  state = Idle;
  rca = None;
  app = false;
  block_length = 512;
  erase = Outside;
  preset = 0;
  transfer = Nothing;
  mode = first_mode;
  next_block = 0;
  announced = 0;
  unshown_error = false;
  contents = record { user = contents; boot_1 = []; boot_2 = [] };
}

-- the device when it is selected
abbrev pub selected_device : List Block → Card
selected_device contents = record (example_device contents) { state = Tran; rca = Some 1 }

-- the device sends its EXT_CSD
abbrev pub read_ext_csd : Happening
read_ext_csd = record { event = ReceiveRegister One 512; returned = RegisterIn Ok device_ext_csd }

-- what happens
abbrev pub device_bring_up : List Happening
device_bring_up =
    command 0 Plain 0 Sent
    ∷ command 1 Plain 0x40ff8080 (Replied (R3 0xc0ff8080))
    ∷ command 2 Plain 0 (Replied (R2 device_cid))
    ∷ command 3 Plain 0x00010000 (Replied (R1 3 0x500))
    ∷ command 9 Rca 0x00010000 (Replied (R2 device_csd))
    ∷ command 7 Rca 0x00010000 (Replied (R1 7 0x700))
    ∷ command 16 Plain 512 (Replied (R1 16 0x900))
    ∷ command 8 Plain 0 (Replied (R1 8 0x900))
    ∷ read_ext_csd ∷ []

-- it happens at a device of the profile, from the start to the transfer state
pub record DeviceBringUpHappens : Type 0 where
  pub start : (contents : List Block) → AreBlocks 1024 contents → IsAtStart (example_device contents)
  pub all : (contents : List Block) →
      AllHappen device_bring_up (example_device contents) (host_at_start 0) (selected_device contents)

-- the same EXT_CSD with BOOT_SIZE_MULT 1, in byte 226: two boot partitions of 256 blocks each
abbrev pub boot_ext_csd : List ℕ
boot_ext_csd = replicate 212 0 ++ (0 ∷ 4 ∷ 0 ∷ 0 ∷ (replicate 10 0 ++ (1 ∷ replicate 285 0)))

-- a device with these partitions when it is selected, with the first boot partition in access
abbrev pub boot_device : Partitions → Card
boot_device contents =
    record (selected_device contents.user) {
      boot_capacity = 256;
      ext_csd = boot_ext_csd;
      mode = record first_mode { partition = Boot1 };
      contents = contents;
    }

-- it is a device of the profile; the last block of the partition in access is in bounds, and the one after it is not,
-- though the user area has it
pub record BootBlockIsBound : Type 0 where
  pub device : (contents : Partitions) → AreBlocks 1024 contents.user → AreBlocks 256 contents.boot_1 →
      AreBlocks 256 contents.boot_2 → IsOfProfile (boot_device contents)
  pub last : (contents : Partitions) → InBounds (read_at 255 255) (boot_device contents)
  pub next : (contents : Partitions) → InBounds (read_at 256 256) (boot_device contents) → ⊥

-- The cards beside which a script may start: which capacities they have, what tells the capacity, and their first
-- state. SD Physical Layer Simplified Specification, sections 4.2.2 and 5.3; JESD84-B51, sections 6.4 and 7.3. That a
-- card is unlocked and starts in idle state, and the ranges of the capacity, are this project's profile.
use Rattle.std.specs.Prelude.{◌≡◌, ◌≤◌, ◌-◌, ◌^◌, ◌⊎◌, Bool, true, false, ℕ, List, replicate, None}
use Rattle.sdv_registers.specs.declared.kind.Kind.{Kind}
use Rattle.sdv_registers.specs.declared.kind.Kind.TheVariants.{Sd, Emmc}
use Rattle.sdv_card.specs.declared.state.State.TheVariants.{Idle}
use Rattle.sdv_card.specs.declared.state.Transfer.TheVariants.{Nothing}
use Rattle.sdv_card.specs.declared.state.EraseStage.TheVariants.{Outside}
use Rattle.sdv_card.specs.Card.{Card, IsCard}
use Rattle.sdv_frames.specs.Bits.{bits_of}
use Rattle.sdv_registers.specs.Csd.{fault, blocks}
use Rattle.sdv_registers.specs.ExtCsd.{sec_count, boot_blocks}
use Rattle.sdv_card.specs.declared.state.Width.TheVariants.{One}
use Rattle.sdv_card.specs.Modes.{first_mode}
use Rattle.sdv_card.specs.Host.{Host}

-- the most blocks of a card, by its kind and whether it has block addresses
abbrev pub most_blocks : Kind → Bool → ℕ
most_blocks Sd false = 2 ^ 23
most_blocks Sd true = 2 ^ 32
most_blocks Emmc false = 2 ^ 22
most_blocks Emmc true = 2 ^ 32 - 1

-- the capacity that the registers tell: the CSD, but SEC_COUNT of a block-addressed e.MMC device
abbrev pub told_blocks : Kind → Bool → (csd ext_csd : List ℕ) → ℕ
told_blocks Emmc true csd ext_csd = sec_count ext_csd
told_blocks k block_unit csd ext_csd = blocks k (bits_of csd)

-- the blocks of a boot partition that the registers tell
abbrev pub told_boot_blocks : Kind → (ext_csd : List ℕ) → ℕ
told_boot_blocks Sd ext_csd = 0
told_boot_blocks Emmc ext_csd = boot_blocks ext_csd

-- an SD card follows version 1 or 2, and with version 1 it has byte addresses
abbrev pub VersionFits : Kind → ℕ → Bool → Type 0
VersionFits Sd version block_unit = (version ≡ 2) ⊎ ((version ≡ 1) × (block_unit ≡ false))
VersionFits Emmc version block_unit = Unit {0}

-- a card of the profile, in any state
pub record IsOfProfile (c : Card) : Type 0 where
  pub card : IsCard c
  pub version : VersionFits c.kind c.version c.block_unit
  pub least : 1 ≤ c.capacity
  pub most : c.capacity ≤ most_blocks c.kind c.block_unit
  pub readable : fault c.kind (bits_of c.csd) ≡ None
  pub told : told_blocks c.kind c.block_unit c.csd c.ext_csd ≡ c.capacity
  pub told_boot : told_boot_blocks c.kind c.ext_csd ≡ c.boot_capacity

-- a card of the profile before the first command: a byte-addressed one has any block length, and every one any contents
pub record IsAtStart (c : Card) : Type 0 where
  pub profile : IsOfProfile c
  pub state : c.state ≡ Idle
  pub rca : c.rca ≡ None
  pub app : c.app ≡ false
  pub erase : c.erase ≡ Outside
  pub mode : c.mode ≡ first_mode
  pub preset : c.preset ≡ 0
  pub transfer : c.transfer ≡ Nothing
  pub unshown_error : c.unshown_error ≡ false

-- a host before the first command: n variables that are 0, clear flags, and nothing known of the card
abbrev pub host_at_start : ℕ → Host
host_at_start n = record {
  numbers = replicate n 0;
  flags = 0;
  rca = 0;
  lines = One;
  csd = None;
  ext_csd = None;
  announced = 0;
  register_length = 0;
}

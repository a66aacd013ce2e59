-- The card that a description gives, and the rule of its capacity.
use Rattle.std.specs.Prelude.{ℕ, ◌+◌, ◌*◌, ◌^◌, ◌==◌, ◌&&◌, ◌||◌, not, nat_le, List, Bool, true, false, is_none}
use Rattle.sdv_registers.specs.declared.kind.Kind.{Kind}
use Rattle.sdv_registers.specs.declared.kind.Kind.TheVariants.{Sd, Emmc}
use Rattle.sdv_registers.specs.Csd.{fault}
use Rattle.sdv_frames.specs.Bits.{bits_of}
use Rattle.sdv_card.specs.Modes.{first_mode}
use Rattle.sdv_card.specs.Profile.{most_blocks, told_blocks, told_boot_blocks}
use Rattle.sdv_behavior.specs.declared.description.Description.{Description}
use Rattle.sdv_behavior.specs.declared.description.Description.TheVariants.{SdBytes, SdBlocks, EmmcBytes, EmmcBlocks}
use Rattle.sdv_behavior.specs.Registers.{byte_csd, block_csd, size_blocks, ext_csd_of}

-- what a description says of a card
pub record Parts : Type 0 where
  pub kind : Kind
  pub version : ℕ
  pub block_unit : Bool
  pub capacity : ℕ
  pub csd : List ℕ
  pub sectors : ℕ
  pub boot_size_mult : ℕ
  pub block_length : ℕ
  pub rca : ℕ

abbrev pub parts_of : Description → Parts
parts_of (SdBytes version size rca) =
    record {
      kind = Sd;
      version = version;
      block_unit = false;
      capacity = size_blocks size;
      csd = byte_csd size;
      sectors = 0;
      boot_size_mult = 0;
      block_length = 2 ^ size.read_bl_len;
      rca = rca;
    }
parts_of (SdBlocks c_size rca) =
    record {
      kind = Sd;
      version = 2;
      block_unit = true;
      capacity = (c_size + 1) * 1024;
      csd = block_csd c_size;
      sectors = 0;
      boot_size_mult = 0;
      block_length = 512;
      rca = rca;
    }
parts_of (EmmcBytes size boot) =
    record {
      kind = Emmc;
      version = 0;
      block_unit = false;
      capacity = size_blocks size;
      csd = byte_csd size;
      sectors = 0;
      boot_size_mult = boot;
      block_length = 2 ^ size.read_bl_len;
      rca = 1;
    }
-- with the greatest size, as its CSD doesn't tell its capacity
parts_of (EmmcBlocks sectors boot) =
    record {
      kind = Emmc;
      version = 0;
      block_unit = true;
      capacity = sectors;
      csd = byte_csd (record { c_size = 4095; c_size_mult = 7; read_bl_len = 9 });
      sectors = sectors;
      boot_size_mult = boot;
      block_length = 512;
      rca = 1;
    }

-- no more blocks than a card of the kind and unit can have
abbrev pub within_capacity : Description → Bool
within_capacity read = let p = parts_of read in nat_le p.capacity (most_blocks p.kind p.block_unit)

-- WHAT HOLDS of every card that a description gives: it has a relative address, block length 512 where it has block
-- addresses, a capacity in the range of its kind and unit, boot partitions that an SD card does not have, and registers
-- that are read and tell its capacities

abbrev pub version_fits : Kind → ℕ → (block_unit : Bool) → Bool
version_fits Sd version block_unit = (version == 2) || ((version == 1) && not block_unit)
version_fits Emmc version block_unit = true

unfoldable pub is_described : Kind → (version : ℕ) → (block_unit : Bool) → (capacity : ℕ) → (csd : List ℕ) →
    (sectors boot_size_mult block_length rca : ℕ) → Bool
is_described kind version block_unit capacity csd sectors boot_size_mult block_length rca =
    nat_le 1 rca && nat_le rca 65535
    && (not block_unit || (block_length == 512))
    && version_fits kind version block_unit
    && nat_le 1 capacity && nat_le capacity (most_blocks kind block_unit)
    && is_none (fault kind (bits_of csd))
    && (told_blocks kind block_unit csd (ext_csd_of first_mode sectors boot_size_mult) == capacity)
    && nat_le boot_size_mult 255
    && (told_boot_blocks kind (ext_csd_of first_mode sectors boot_size_mult) == 256 * boot_size_mult)

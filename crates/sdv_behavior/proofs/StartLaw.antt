-- A described card before its first command is one of the profile.
use Rattle.std.proofs.Common.{◌≡◌, ℕ, zero, suc, ◌<◌, ◌/◌, ◌%◌, ◌^◌, ◌==◌, ◌++◌, ◌∷◌, Bool, true, false, List, All, replicate, refl, eq-eqb, arith, lit<}
use Rattle.std.proofs.lemmas.List.Elements.{All-nil, All-cons, All-append, All-from_recursion}
use Rattle.sdv_registers.specs.declared.kind.Kind.{Kind}
use Rattle.sdv_registers.specs.declared.kind.Kind.TheVariants.{Sd, Emmc}
use Rattle.sdv_card.specs.Card.{Block, IsByte, IsRegister, AreBlocks, DataRegisters, kind_fits, length_fits}
use Rattle.sdv_card.specs.declared.state.Transfer.TheVariants.{Nothing}
use Rattle.sdv_card.specs.declared.state.Mode.{Mode}
use Rattle.sdv_card.specs.declared.state.Width.{Width}
use Rattle.sdv_card.specs.declared.state.Width.TheVariants.{One, Four, Eight}
use Rattle.sdv_card.specs.declared.state.Partition.{Partition}
use Rattle.sdv_card.specs.declared.state.Partition.TheVariants.{User, Boot1, Boot2}
use Rattle.sdv_card.specs.Modes.{first_mode, mode_fits, width_number, partition_number}
use Rattle.sdv_card.specs.Profile.{IsAtStart}
use Rattle.sdv_behavior.specs.declared.card_desc.CardDesc.{CardDesc}
use Rattle.sdv_behavior.specs.Registers.{cid_of, scr, sd_status, ext_csd_of}
use Rattle.sdv_behavior.specs.Layout.{image_size}
use Rattle.sdv_behavior.proofs.Described.{described_law}
use Rattle.sdv_behavior.proofs.LayoutLaws.{contents_sized}
use Rattle.sdv_behavior.specs.CardOf.{card_of, at_start}

cid_is : (k : Kind) → IsRegister 15 (cid_of k)
cid_is Sd = record {
  size = refl;
  bytes_fit = All-from_recursion IsByte (cid_of Sd) (
    lit< tt,
    (
      lit< tt,
      (
        lit< tt,
        (lit< tt, (lit< tt, (lit< tt, (lit< tt, (lit< tt, (lit< tt, (lit< tt, (lit< tt, (lit< tt, (lit< tt, (lit< tt, (lit< tt, tt)))))))))))),
      ),
    ),
  );
}
cid_is Emmc = record {
  size = refl;
  bytes_fit = All-from_recursion IsByte (cid_of Emmc) (
    lit< tt,
    (
      lit< tt,
      (
        lit< tt,
        (lit< tt, (lit< tt, (lit< tt, (lit< tt, (lit< tt, (lit< tt, (lit< tt, (lit< tt, (lit< tt, (lit< tt, (lit< tt, (lit< tt, tt)))))))))))),
      ),
    ),
  );
}

zeros_fit : (n : ℕ) → All IsByte (replicate n 0)
zeros_fit zero = All-nil IsByte
zeros_fit (suc n) = All-cons IsByte 0 (replicate n 0) (lit< tt) (zeros_fit n)

status_is : IsRegister 64 sd_status
unfolding sd_status
status_is = record { size = refl; bytes_fit = zeros_fit 64 }

scr_is : IsRegister 8 scr
scr_is = record {
  size = refl;
  bytes_fit =
      All-from_recursion IsByte scr (lit< tt, (lit< tt, (lit< tt, (lit< tt, (lit< tt, (lit< tt, (lit< tt, (lit< tt, tt))))))));
}

-- a byte among zeros, and what follows them
byte_fits : (n b : ℕ) (rest : List ℕ) → b < 256 → All IsByte rest → All IsByte (replicate n 0 ++ b ∷ rest)
byte_fits n b rest fits all = All-append IsByte (replicate n 0) (b ∷ rest) (zeros_fit n) (All-cons IsByte b rest fits all)

-- the bytes from SEC_COUNT on
abbrev from_sectors : (n boot : ℕ) → List ℕ
from_sectors n boot = n / 256 % 256 ∷ n / 65536 % 256 ∷ n / 16777216 ∷ (replicate 10 0 ++ boot ∷ replicate 285 0)

from_sectors_fit : (n boot : ℕ) → n < 2 ^ 32 → boot < 256 → All IsByte (from_sectors n boot)
from_sectors_fit n boot fits byte =
    All-cons IsByte (n / 256 % 256) (n / 65536 % 256 ∷ n / 16777216 ∷ (replicate 10 0 ++ boot ∷ replicate 285 0)) (omega arith)
    (All-cons IsByte (n / 65536 % 256) (n / 16777216 ∷ (replicate 10 0 ++ boot ∷ replicate 285 0)) (omega arith)
    (All-cons IsByte (n / 16777216) (replicate 10 0 ++ boot ∷ replicate 285 0) (omega (arith, fits))
    (byte_fits 10 boot (replicate 285 0) byte (zeros_fit 285))))

width_small : (w : Width) → width_number w < 256
width_small One = lit< tt
width_small Four = lit< tt
width_small Eight = lit< tt

partition_small : (p : Partition) → partition_number p < 256
partition_small User = lit< tt
partition_small Boot1 = lit< tt
partition_small Boot2 = lit< tt

ext_csd_is : (mode : Mode) (n boot : ℕ) → n < 2 ^ 32 → boot < 256 → IsRegister 512 (ext_csd_of mode n boot)
unfolding ext_csd_of
ext_csd_is mode n boot fits byte = record {
  size = refl;
  bytes_fit =
      byte_fits 179 (partition_number mode.partition)
      (replicate 3 0 ++ width_number mode.width ∷ (replicate 28 0 ++ n % 256 ∷ from_sectors n boot)) (partition_small mode.partition)
      (byte_fits 3 (width_number mode.width) (replicate 28 0 ++ n % 256 ∷ from_sectors n boot) (width_small mode.width)
      (byte_fits 28 (n % 256) (from_sectors n boot) (omega arith) (from_sectors_fit n boot fits byte)));
}

registers_are : (k : Kind) (d : CardDesc) (blocks : List Block) → d.sectors < 2 ^ 32 → d.boot_size_mult < 256 →
    DataRegisters k (card_of d (at_start d) blocks)
registers_are Sd d blocks fits byte = record { scr = scr_is; sd_status = status_is }
registers_are Emmc d blocks fits byte = ext_csd_is first_mode d.sectors d.boot_size_mult fits byte

mode_is : (k : Kind) → mode_fits k first_mode ≡ true
mode_is Sd = refl
mode_is Emmc = refl

no_transfer : (k : Kind) → kind_fits k Nothing false 0 ≡ true
no_transfer Sd = refl
no_transfer Emmc = refl

length_is : (block_unit : Bool) (length : ℕ) → (block_unit ≡ true → length ≡ 512) → length_fits block_unit (length == 512) ≡ true
length_is true length h = eq-eqb length 512 (h refl)
length_is false length h = refl

pub start_law : (d : CardDesc) (blocks : List Block) → IsRegister 15 d.csd → d.sectors < 2 ^ 32 → AreBlocks (image_size d) blocks →
    IsAtStart (card_of d (at_start d) blocks)
start_law d blocks csd sectors sized =
    let is = described_law d in
    record {
      profile = record {
        card = record {
          csd = csd;
          cid = cid_is d.kind;
          registers = registers_are d.kind d blocks sectors is.boot_fits;
          address = refl;
          transfer = refl;
          kind_rules = no_transfer d.kind;
          mode = mode_is d.kind;
          block_length = length_is d.block_unit d.block_length is.length;
          preset = lit< tt;
          announced = lit< tt;
          contents = contents_sized d blocks sized;
        };
        version = is.version;
        least = is.least;
        most = is.most;
        readable = is.readable;
        told = is.told;
        told_boot = is.told_boot;
      };
      state = refl;
      rca = refl;
      app = refl;
      erase = refl;
      mode = refl;
      preset = refl;
      transfer = refl;
      unshown_error = refl;
    }

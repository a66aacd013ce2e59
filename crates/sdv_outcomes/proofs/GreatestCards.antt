-- The cards of the profile with the most blocks, before the first command: one of each kind for each start shape.
use Rattle.std.proofs.Common.{◌≡◌, ℕ, ◌^◌, ◌<◌, ◌≤◌, ◌==◌, ◌&&◌, inl, inr, refl, subst, sym, Bool, true, false, List, [], ◌∷◌, ◌++◌, length, take, drop, reverse, replicate, None, lit<, lit≤, arith}
use Rattle.std.specs.Prelude.{nat_lt}
use Rattle.std.specs.List.{AllByRecursion}
use Rattle.std.proofs.Math.Pow.{pow_mono}
use Rattle.std.proofs.lemmas.Bool.{ltb-true}
use Rattle.std.proofs.lemmas.List.{length-take, length-reverse, length-replicate}
use Rattle.std.proofs.lemmas.List.Elements.{All-replicate}
use Rattle.sdv_frames.specs.Bits.{bits, bits_of, number_of}
use Rattle.sdv_frames.proofs.BitLaws.{number_of_below, length-bits_of}
use Rattle.sdv_frames.proofs.Tried.{both}
use Rattle.sdv_registers.specs.Csd.{fault}
use Rattle.sdv_registers.specs.ExtCsd.{boot_size_mult}
use Rattle.sdv_registers.specs.declared.kind.Kind.{Kind}
use Rattle.sdv_registers.specs.declared.kind.Kind.TheVariants.{Sd, Emmc}
use Rattle.sdv_card.specs.declared.state.Partition.TheVariants.{User, Boot1, Boot2}
use Rattle.sdv_card.specs.Lists.{IsOneOf}
use Rattle.sdv_card.specs.Card.{Card, Block, IsByte, IsRegister, AreBlocks, ContentsFit, length_fits}
use Rattle.sdv_card.specs.Code.{code_of}
use Rattle.sdv_card.specs.Shapes.{pair_code, start_codes}
use Rattle.sdv_card.specs.Profile.{most_blocks, told_blocks, told_boot_blocks, IsAtStart, host_at_start}
use Rattle.sdv_card.specs.BringUp.{example_card, example_cid, example_scr}
use Rattle.sdv_card.specs.EmmcBringUp.{example_device, device_csd, device_cid}
use Rattle.sdv_card.proofs.Steps.{bytes_fit, no_boot_blocks}
use Rattle.sdv_outcomes.specs.StartCards.{most_boot_blocks, NoneHasMore, GreatestCard, EachStartHasCard}
use Rattle.sdv_outcomes.proofs.MadeEvents.{block, block_fits}

-- NONE HAS MORE

boot_small : (register : List ℕ) → boot_size_mult register < 256
boot_small register =
    let part : List ℕ = reverse (take 1 (drop 226 register)) in
    let count : length (bits_of part) ≤ 8 =
    omega (arith, length-bits_of part, length-reverse (take 1 (drop 226 register)), length-take 1 (drop 226 register)) in
    let below = number_of_below (bits_of part) in
    let power : 2 ^ length (bits_of part) ≤ 2 ^ 8 = pow_mono count in
    omega arith

most_told : (k : Kind) (ext_csd : List ℕ) → told_boot_blocks k ext_csd ≤ most_boot_blocks k
most_told Sd ext_csd = lit≤ tt
most_told Emmc ext_csd = omega (arith, boot_small ext_csd)

pub none_has_more : (k : Kind) → NoneHasMore k
none_has_more k c kind profile = (
  subst (λ v. c.capacity ≤ most_blocks v c.block_unit) (sym kind) profile.most,
  subst (λ n. n ≤ most_boot_blocks k) profile.told_boot (subst (λ v. told_boot_blocks v c.ext_csd ≤ most_boot_blocks k) kind (most_told k c.ext_csd)),
)

-- REGISTERS

abbrev are_bytes : List ℕ → Bool
are_bytes [] = true
are_bytes (x ∷ xs) = nat_lt x 256 && are_bytes xs

by_recursion : (xs : List ℕ) → are_bytes xs ≡ true → AllByRecursion IsByte xs
by_recursion [] e = tt
by_recursion (x ∷ xs) e = let r = both (nat_lt x 256) (are_bytes xs) e in (ltb-true x 256 r.0, by_recursion xs r.1)

register : (n : ℕ) (xs : List ℕ) → length xs ≡ n → are_bytes xs ≡ true → IsRegister n xs
register n xs size e = record { size = size; bytes_fit = bytes_fit xs (by_recursion xs e) }

-- version 1.0 with C_SIZE 4095 and C_SIZE_MULT 7: READ_BL_LEN is 11 on SD, and 10 on e.MMC
sd_byte_csd : List ℕ
sd_byte_csd = 0 ∷ 0 ∷ 0 ∷ 0 ∷ 0 ∷ 0x0b ∷ 0x03 ∷ 0xff ∷ 0xc0 ∷ 0x03 ∷ 0x80 ∷ 0 ∷ 0 ∷ 0 ∷ 0 ∷ []

emmc_byte_csd : List ℕ
emmc_byte_csd = 0 ∷ 0 ∷ 0 ∷ 0 ∷ 0 ∷ 0x0a ∷ 0x03 ∷ 0xff ∷ 0xc0 ∷ 0x03 ∷ 0x80 ∷ 0 ∷ 0 ∷ 0 ∷ 0 ∷ []

-- version 2.0 with C_SIZE 4194303
sd_block_csd : List ℕ
sd_block_csd = 0x40 ∷ 0 ∷ 0 ∷ 0 ∷ 0 ∷ 0x09 ∷ 0 ∷ 0x3f ∷ 0xff ∷ 0xff ∷ 0 ∷ 0 ∷ 0 ∷ 0 ∷ 0 ∷ []

-- SEC_COUNT 4294967295 and BOOT_SIZE_MULT 255
greatest_ext_csd : List ℕ
greatest_ext_csd = replicate 212 0 ++ (255 ∷ 255 ∷ 255 ∷ 255 ∷ (replicate 10 0 ++ (255 ∷ replicate 285 0)))

-- BLOCKS

blocks : ℕ → List Block
blocks n = replicate n block

blocks_are : (n : ℕ) → AreBlocks n (blocks n)
unfolding blocks
blocks_are n = record { size = length-replicate n block; blocks_fit = All-replicate (IsRegister 512) n block block_fits }

-- AN SD CARD

abbrev sd_card : (unit : Bool) (capacity block_length : ℕ) (csd : List ℕ) → Card
sd_card unit capacity block_length csd =
    record (example_card (blocks capacity)) { block_unit = unit; capacity = capacity; block_length = block_length; csd = csd }

sd_contents : (unit : Bool) (capacity block_length : ℕ) (csd : List ℕ) → ContentsFit (sd_card unit capacity block_length csd)
sd_contents unit capacity block_length csd User = blocks_are capacity
sd_contents unit capacity block_length csd Boot1 = no_boot_blocks
sd_contents unit capacity block_length csd Boot2 = no_boot_blocks

sd_at_start : (unit : Bool) (capacity block_length : ℕ) (csd : List ℕ) → IsRegister 15 csd → length_fits unit (block_length == 512) ≡ true →
    1 ≤ capacity → capacity ≤ most_blocks Sd unit → fault Sd (bits_of csd) ≡ None → told_blocks Sd unit csd [] ≡ capacity →
    IsAtStart (sd_card unit capacity block_length csd)
sd_at_start unit capacity block_length csd fits length least most readable told = record {
  profile = record {
    card = record {
      csd = fits;
      cid = register 15 example_cid refl refl;
      registers = record { scr = register 8 example_scr refl refl; sd_status = register 64 (replicate 64 0) refl refl };
      address = refl;
      transfer = refl;
      kind_rules = refl;
      block_length = length;
      mode = refl;
      preset = lit< tt;
      announced = lit< tt;
      contents = sd_contents unit capacity block_length csd;
    };
    version = inl refl;
    least = least;
    most = most;
    readable = readable;
    told = told;
    told_boot = refl;
  };
  state = refl;
  rca = refl;
  app = refl;
  erase = refl;
  mode = refl;
  preset = refl;
  transfer = refl;
  unshown_error = refl;
}

-- with byte addresses, whatever its block length
sd_byte_card : (block_length : ℕ) (code : ℕ) → ((variables : ℕ) → pair_code (sd_card false 8388608 block_length sd_byte_csd) (host_at_start variables) ≡ code) →
    GreatestCard Sd code
unfolding sd_byte_csd bits bits_of number_of
sd_byte_card block_length code shape = record {
  card = sd_card false 8388608 block_length sd_byte_csd;
  kind = refl;
  start = sd_at_start false 8388608 block_length sd_byte_csd (register 15 sd_byte_csd refl refl) refl (lit≤ tt) (lit≤ tt) refl refl;
  representative = record { all_shown = refl; version = λ e. refl; boot_blocks = λ e. absurd (cc) };
  shape = shape;
  capacity = refl;
  boot_capacity = refl;
}

sd_block_card : GreatestCard Sd 0x2c00
unfolding sd_block_csd code_of bits bits_of number_of
sd_block_card = record {
  card = sd_card true 4294967296 512 sd_block_csd;
  kind = refl;
  start = sd_at_start true 4294967296 512 sd_block_csd (register 15 sd_block_csd refl refl) refl (lit≤ tt) (lit≤ tt) refl refl;
  representative = record { all_shown = refl; version = λ e. refl; boot_blocks = λ e. absurd (cc) };
  shape = λ variables. refl;
  capacity = refl;
  boot_capacity = refl;
}

-- AN e.MMC DEVICE

abbrev device : (unit : Bool) (capacity block_length : ℕ) (csd : List ℕ) → Card
device unit capacity block_length csd = record (example_device (blocks capacity)) {
  block_unit = unit;
  capacity = capacity;
  boot_capacity = 65280;
  block_length = block_length;
  csd = csd;
  ext_csd = greatest_ext_csd;
  contents = record { user = blocks capacity; boot_1 = blocks 65280; boot_2 = blocks 65280 };
}

device_contents : (unit : Bool) (capacity block_length : ℕ) (csd : List ℕ) → ContentsFit (device unit capacity block_length csd)
device_contents unit capacity block_length csd User = blocks_are capacity
device_contents unit capacity block_length csd Boot1 = blocks_are 65280
device_contents unit capacity block_length csd Boot2 = blocks_are 65280

device_at_start : (unit : Bool) (capacity block_length : ℕ) (csd : List ℕ) → IsRegister 15 csd → length_fits unit (block_length == 512) ≡ true →
    1 ≤ capacity → capacity ≤ most_blocks Emmc unit → fault Emmc (bits_of csd) ≡ None → told_blocks Emmc unit csd greatest_ext_csd ≡ capacity →
    IsAtStart (device unit capacity block_length csd)
unfolding greatest_ext_csd bits bits_of number_of
device_at_start unit capacity block_length csd fits length least most readable told = record {
  profile = record {
    card = record {
      csd = fits;
      cid = register 15 device_cid refl refl;
      registers = register 512 greatest_ext_csd refl refl;
      address = refl;
      transfer = refl;
      kind_rules = refl;
      block_length = length;
      mode = refl;
      preset = lit< tt;
      announced = lit< tt;
      contents = device_contents unit capacity block_length csd;
    };
    version = tt;
    least = least;
    most = most;
    readable = readable;
    told = told;
    told_boot = refl;
  };
  state = refl;
  rca = refl;
  app = refl;
  erase = refl;
  mode = refl;
  preset = refl;
  transfer = refl;
  unshown_error = refl;
}

byte_device : (block_length : ℕ) (code : ℕ) → ((variables : ℕ) → pair_code (device false 4194304 block_length emmc_byte_csd) (host_at_start variables) ≡ code) →
    GreatestCard Emmc code
unfolding emmc_byte_csd bits bits_of number_of
byte_device block_length code shape = record {
  card = device false 4194304 block_length emmc_byte_csd;
  kind = refl;
  start = device_at_start false 4194304 block_length emmc_byte_csd (register 15 emmc_byte_csd refl refl) refl (lit≤ tt) (lit≤ tt) refl refl;
  representative = record { all_shown = refl; version = λ e. absurd (cc); boot_blocks = λ e. lit< tt };
  shape = shape;
  capacity = refl;
  boot_capacity = refl;
}

block_device : GreatestCard Emmc 0x2c00
unfolding greatest_ext_csd code_of bits bits_of number_of
block_device = record {
  card = device true 4294967295 512 device_csd;
  kind = refl;
  start = device_at_start true 4294967295 512 device_csd (register 15 device_csd refl refl) refl (lit≤ tt) (lit≤ tt) refl refl;
  representative = record { all_shown = refl; version = λ e. absurd (cc); boot_blocks = λ e. lit< tt };
  shape = λ variables. refl;
  capacity = refl;
  boot_capacity = refl;
}

-- EACH START SHAPE

start_card : (k : Kind) (code : ℕ) → IsOneOf start_codes code → GreatestCard k code
unfolding code_of
start_card Sd code (inl e) = sd_byte_card 2048 code (λ variables. e)
start_card Sd code (inr (inl e)) = sd_byte_card 512 code (λ variables. e)
start_card Sd code (inr (inr (inl e))) = subst (λ v. GreatestCard Sd v) e sd_block_card
start_card Sd code (inr (inr (inr m))) = absurd m
start_card Emmc code (inl e) = byte_device 2048 code (λ variables. e)
start_card Emmc code (inr (inl e)) = byte_device 512 code (λ variables. e)
start_card Emmc code (inr (inr (inl e))) = subst (λ v. GreatestCard Emmc v) e block_device
start_card Emmc code (inr (inr (inr m))) = absurd m

pub each_start_has_card : (k : Kind) → EachStartHasCard k
each_start_has_card k code m = start_card k code m.one

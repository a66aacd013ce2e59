-- What the registers of a card of the profile tell of its capacity.
use Rattle.std.proofs.Common.{◌≡◌, ℕ, ◌+◌, ◌-◌, ◌*◌, ◌^◌, ◌<◌, ◌≤◌, List, length, take, drop, reverse, Bool, true, false, refl, arith}
use Rattle.std.proofs.Math.Nat.{mul-le-mul}
use Rattle.std.proofs.Math.Pow.{pow_mono}
use Rattle.std.proofs.lemmas.List.{length-take, length-reverse}
use Rattle.sdv_frames.specs.Bits.{Bits, bits_of, number_of}
use Rattle.sdv_frames.proofs.BitLaws.{number_of_below, length-bits_of}
use Rattle.sdv_registers.specs.declared.kind.Kind.{Kind}
use Rattle.sdv_registers.specs.declared.kind.Kind.TheVariants.{Sd, Emmc}
use Rattle.sdv_registers.specs.declared.csd.CsdLayout.{CsdLayout}
use Rattle.sdv_registers.specs.declared.csd.CsdLayout.TheVariants.{Version1, Version2}
use Rattle.sdv_registers.specs.Field.{field}
use Rattle.sdv_registers.specs.Csd.{blocks, blocks_of, layout, c_size, c_size_mult, read_bl_len}
use Rattle.sdv_registers.specs.ExtCsd.{boot_size_mult, sec_count}
use Rattle.sdv_card.specs.Profile.{told_blocks}

short_below : (n : ℕ) (bs : Bits) → length bs ≤ n → number_of bs < 2 ^ n
short_below n bs le = let small = number_of_below bs in let power : 2 ^ length bs ≤ 2 ^ n = pow_mono le in omega arith

field_below : (top high low : ℕ) (bs : Bits) → field top high low bs < 2 ^ (high + 1 - low)
field_below top high low bs = short_below (high + 1 - low) (take (high + 1 - low) (drop (top - high) bs))
    (omega (arith, length-take (high + 1 - low) (drop (top - high) bs)))

layout_small : (l : CsdLayout) (bs : Bits) → blocks_of l bs ≤ 2 ^ 32
layout_small Version1 bs =
    let size : c_size Version1 bs + 1 ≤ 2 ^ 12 = omega (arith, field_below 127 73 62 bs) in
    let mult : 2 ^ (c_size_mult bs + 2) ≤ 2 ^ 9 = pow_mono {j = 9} (omega (arith, field_below 127 49 47 bs)) in
    let unit : 2 ^ (read_bl_len bs - 9) ≤ 2 ^ 6 = pow_mono {j = 6} (omega (arith, field_below 127 83 80 bs)) in
    let front : (c_size Version1 bs + 1) * 2 ^ (c_size_mult bs + 2) ≤ 2 ^ 12 * 2 ^ 9 = mul-le-mul size mult in
    let all : (c_size Version1 bs + 1) * 2 ^ (c_size_mult bs + 2) * 2 ^ (read_bl_len bs - 9) ≤ 2 ^ 12 * 2 ^ 9 * 2 ^ 6 = mul-le-mul front unit in
    omega arith
layout_small Version2 bs = omega (arith, field_below 127 69 48 bs)

-- no capacity that a CSD gives is above 2^32
pub csd_small : (k : Kind) (csd : List ℕ) → blocks k (bits_of csd) ≤ 2 ^ 32
csd_small k csd = layout_small (layout k (bits_of csd)) (bits_of csd)

-- nor is SEC_COUNT
pub sec_count_small : (register : List ℕ) → sec_count register ≤ 2 ^ 32
sec_count_small register =
    let part = take 4 (drop 212 register) in
    let small = short_below 32 (bits_of (reverse part)) (omega
    (arith, length-bits_of (reverse part), length-reverse part, length-take 4 (drop 212 register))) in
    omega arith

-- nor is BOOT_SIZE_MULT above 255
pub boot_small : (register : List ℕ) → boot_size_mult register < 256
boot_small register =
    let part = take 1 (drop 226 register) in
    let small = short_below 8 (bits_of (reverse part)) (omega (arith, length-bits_of (reverse part), length-reverse part, length-take 1 (drop 226 register))) in
    omega arith

pub told_by_csd : (k : Kind) (unit : Bool) (csd ext_csd : List ℕ) → (k ≡ Emmc → unit ≡ false) → told_blocks k unit csd ext_csd ≡ blocks k (bits_of csd)
told_by_csd Sd unit csd ext_csd e = refl
told_by_csd Emmc false csd ext_csd e = refl
told_by_csd Emmc true csd ext_csd e = absurd (cc (e refl))

pub told_by_ext_csd : (k : Kind) (unit : Bool) (csd ext_csd : List ℕ) → k ≡ Emmc → unit ≡ true → told_blocks k unit csd ext_csd ≡ sec_count ext_csd
told_by_ext_csd Emmc true csd ext_csd e u = refl
told_by_ext_csd Emmc false csd ext_csd e u = absurd (cc)
told_by_ext_csd Sd unit csd ext_csd e u = absurd (cc)

-- What holds of every card that a description gives.
use Rattle.std.proofs.Common.{◌≡◌, ℕ, ◌+◌, ◌-◌, ◌*◌, ◌%◌, ◌^◌, ◌<◌, ◌≤◌, ◌==◌, ◌&&◌, ◌||◌, nat_le, nat_lt, Bool, true, false, List, Result, Ok, Err, None, refl, sym, ap, subst, arith, eq-eqb, lit≤}
use Rattle.std.specs.Prelude.{MatchResult}
use Rattle.std.proofs.lemmas.Bool.{and_parts, le-leb, leb-true}
use Rattle.std.proofs.lemmas.Bool.Decides.{nat_tests}
use Rattle.std.proofs.Math.Nat.{pow-le-pow_right}
use Rattle.std.proofs.lemmas.Nat.{mul-le, pow_pos}
use Rattle.sdv_frames.specs.Bits.{bits_of}
use Rattle.sdv_registers.specs.declared.kind.Kind.{Kind}
use Rattle.sdv_registers.specs.declared.kind.Kind.TheVariants.{Sd, Emmc}
use Rattle.sdv_registers.specs.Csd.{fault, blocks}
use Rattle.sdv_card.specs.Modes.{first_mode}
use Rattle.sdv_card.specs.Profile.{most_blocks, told_boot_blocks}
use Rattle.sdv_image.specs.declared.fault.SimFault.{SimFault}
use Rattle.sdv_image.specs.declared.fault.SimFault.TheVariants as faults
use Rattle.sdv_behavior.specs.declared.card_desc.CardDesc.{CardDesc}
use Rattle.sdv_behavior.specs.declared.description.Description.{Description}
use Rattle.sdv_behavior.specs.declared.description.Size.{Size}
use Rattle.sdv_behavior.specs.Grammar.{size_fits, rca_fits, IsTextOf}
use Rattle.sdv_behavior.specs.Registers.{byte_csd, block_csd, size_blocks, ext_csd_of}
use Rattle.sdv_behavior.specs.Described.{version_fits, is_described, within_capacity}
use Rattle.sdv_behavior.specs.Gives.{Gives, Describes, Refuses}
use Rattle.sdv_behavior.proofs.CsdLaws.{IsSize, size_structure, size_read_bl_len, size_c_size, size_c_size_mult, block_structure, block_c_size, sectors_read, boot_read}

pub is_size : (s : Size) → size_fits s ≡ true → IsSize s
is_size s fits =
    let p = and_parts (nat_le s.c_size 4095 && nat_le s.c_size_mult 7 && nat_le 9 s.read_bl_len) (nat_le s.read_bl_len 11) fits in
    let q = and_parts (nat_le s.c_size 4095 && nat_le s.c_size_mult 7) (nat_le 9 s.read_bl_len) p.0 in
    let r = and_parts (nat_le s.c_size 4095) (nat_le s.c_size_mult 7) q.0 in
    record { c_size = leb-true _ _ r.0; c_size_mult = leb-true _ _ r.1; least = leb-true _ _ q.1; most = leb-true _ _ p.1 }

-- THE CSD of a size is read, and tells its capacity

not_below : (a b : ℕ) → b ≤ a → nat_lt a b ≡ false
not_below a b h = grind (arith, nat_tests)

pub size_is_read : (k : Kind) (s : Size) → IsSize s → fault k (bits_of (byte_csd s)) ≡ None
size_is_read Sd s is = rw (size_structure s is, size_read_bl_len s is, not_below s.read_bl_len 9 is.least, not_below 11 s.read_bl_len is.most) refl
size_is_read Emmc s is = rw (size_read_bl_len s is, not_below s.read_bl_len 9 is.least, not_below 11 s.read_bl_len is.most) refl

pub size_told : (k : Kind) (s : Size) → IsSize s → blocks k (bits_of (byte_csd s)) ≡ size_blocks s
size_told Sd s is = rw (size_structure s is, size_c_size s is, size_c_size_mult s is, size_read_bl_len s is) refl
size_told Emmc s is = rw (size_c_size s is, size_c_size_mult s is, size_read_bl_len s is) refl

pub block_is_read : (n : ℕ) → n ≤ 4194303 → fault Sd (bits_of (block_csd n)) ≡ None
block_is_read n fits = rw (block_structure n fits) refl

pub block_told : (n : ℕ) → n ≤ 4194303 → blocks Sd (bits_of (block_csd n)) ≡ (n + 1) * 1024
block_told n fits = rw (block_structure n fits, block_c_size n fits) refl

-- THE CAPACITY of a size

power : (n m : ℕ) → n ≤ m → 2 ^ n ≤ 2 ^ m
power n m h = pow-le-pow_right {n = 2} (lit≤ tt) {i = n} {j = m} h

pub some_blocks : (s : Size) → 1 ≤ size_blocks s
some_blocks s =
    let a : 0 < 2 ^ (s.c_size_mult + 2) = pow_pos (s.c_size_mult + 2) in
    let b : 0 < 2 ^ (s.read_bl_len - 9) = pow_pos (s.read_bl_len - 9) in
    mul-le 1 1 ((s.c_size + 1) * 2 ^ (s.c_size_mult + 2)) (2 ^ (s.read_bl_len - 9))
    (mul-le 1 1 (s.c_size + 1) (2 ^ (s.c_size_mult + 2)) (omega arith) (omega arith)) (omega arith)

pub most_size_blocks : (s : Size) → IsSize s → size_blocks s ≤ 2 ^ 23
most_size_blocks s is =
    let c = is.c_size in
    let m = is.c_size_mult in
    let l = is.most in
    mul-le ((s.c_size + 1) * 2 ^ (s.c_size_mult + 2)) (2 ^ (s.read_bl_len - 9)) (4096 * 2 ^ 9) (2 ^ 2)
    (mul-le (s.c_size + 1) (2 ^ (s.c_size_mult + 2)) 4096 (2 ^ 9) (omega (arith, c)) (power (s.c_size_mult + 2) 9 (omega (arith, m))))
    (power (s.read_bl_len - 9) 2 (omega (arith, l)))

-- a block length, as code of 16 bits shifts it
pub shifted : (n : ℕ) → n ≤ 11 → 1 * 2 ^ n % 65536 ≡ 2 ^ n
shifted n h = let p : 2 ^ n ≤ 2048 = power n 11 h in omega (arith, p)

-- ALL OF IT

all_of : (a b c d e f g h i j : Bool) → a ≡ true → b ≡ true → c ≡ true → d ≡ true → e ≡ true → f ≡ true → g ≡ true → h ≡ true → i ≡ true → j ≡ true →
    (a && b && c && d && e && f && g && h && i && j) ≡ true
all_of a b c d e f g h i j p0 p1 p2 p3 p4 p5 p6 p7 p8 p9 = rw (p0, p1, p2, p3, p4, p5, p6, p7, p8, p9) refl

-- the boot partitions of a device
boot_told : (sectors boot : ℕ) → nat_le boot 255 ≡ true → (told_boot_blocks Emmc (ext_csd_of first_mode sectors boot) == 256 * boot) ≡ true
boot_told sectors boot fits =
    let small : boot ≤ 255 = leb-true _ _ fits in
    eq-eqb _ _ (ap (λ n. 256 * n) (boot_read first_mode sectors boot (omega arith)))

pub sd_bytes_described : (version rca : ℕ) (s : Size) → ((version == 1) || (version == 2)) ≡ true → size_fits s ≡ true → rca_fits rca ≡ true →
    is_described Sd version false (size_blocks s) (byte_csd s) 0 0 (2 ^ s.read_bl_len) rca ≡ true
unfolding is_described
sd_bytes_described version rca s known fits addressed =
    let is = is_size s fits in
    let a = and_parts (nat_le 1 rca) (nat_le rca 65535) addressed in
    let read : fault Sd (bits_of (byte_csd s)) ≡ None = size_is_read Sd s is in
    all_of _ _ _ _ _ _ _ _ _ _ a.0 a.1 refl (version_known version known) (le-leb _ _ (some_blocks s)) (le-leb _ _ (most_size_blocks s is)) (rw read refl)
    (eq-eqb _ _ (size_told Sd s is)) refl refl
  where
    version_known : (version : ℕ) → ((version == 1) || (version == 2)) ≡ true → version_fits Sd version false ≡ true
    version_known version e = grind (arith, nat_tests)

pub sd_blocks_described : (c_size rca : ℕ) → nat_le c_size 4194303 ≡ true → rca_fits rca ≡ true →
    is_described Sd 2 true ((c_size + 1) * 1024) (block_csd c_size) 0 0 512 rca ≡ true
unfolding is_described
sd_blocks_described c_size rca fits addressed =
    let small : c_size ≤ 4194303 = leb-true _ _ fits in
    let a = and_parts (nat_le 1 rca) (nat_le rca 65535) addressed in
    let read : fault Sd (bits_of (block_csd c_size)) ≡ None = block_is_read c_size small in
    all_of _ _ _ _ _ _ _ _ _ _ a.0 a.1 refl refl (le-leb _ _ (omega arith)) (le-leb _ _ (omega arith)) (rw read refl) (eq-eqb _ _ (block_told c_size small))
    refl refl

pub emmc_bytes_described : (s : Size) (boot : ℕ) → size_fits s ≡ true → nat_le boot 255 ≡ true →
    nat_le (size_blocks s) (most_blocks Emmc false) ≡ true →
    is_described Emmc 0 false (size_blocks s) (byte_csd s) 0 boot (2 ^ s.read_bl_len) 1 ≡ true
unfolding is_described
emmc_bytes_described s boot fits byte within =
    let is = is_size s fits in
    let read : fault Emmc (bits_of (byte_csd s)) ≡ None = size_is_read Emmc s is in
    all_of _ _ _ _ _ _ _ _ _ _ refl refl refl refl (le-leb _ _ (some_blocks s)) within (rw read refl) (eq-eqb _ _ (size_told Emmc s is))
    byte (boot_told 0 boot byte)

pub emmc_blocks_described : (sectors boot : ℕ) → nat_le 1 sectors ≡ true → nat_le sectors 4294967295 ≡ true → nat_le boot 255 ≡ true →
    is_described Emmc 0 true sectors (byte_csd (record { c_size = 4095; c_size_mult = 7; read_bl_len = 9 })) sectors boot 512 1 ≡ true
unfolding is_described
emmc_blocks_described sectors boot some fits byte =
    let s : Size = record { c_size = 4095; c_size_mult = 7; read_bl_len = 9 } in
    let is : IsSize s = record { c_size = lit≤ tt; c_size_mult = lit≤ tt; least = lit≤ tt; most = lit≤ tt } in
    let read : fault Emmc (bits_of (byte_csd s)) ≡ None = size_is_read Emmc s is in
    let small : sectors ≤ 4294967295 = leb-true _ _ fits in
    all_of _ _ _ _ _ _ _ _ _ _ refl refl refl refl some fits (rw read refl) (eq-eqb _ _ (sectors_read first_mode sectors boot (omega arith)))
    byte (boot_told sectors boot byte)

-- WHAT IS ANSWERED

pub answered : (text : List ℕ) (read : Description) → IsTextOf read text → (result : Result CardDesc SimFault) →
    MatchResult result (Gives read) (λ fault. (fault ≡ faults.Capacity) × (within_capacity read ≡ false)) → MatchResult result (Describes text) (Refuses text)
answered text read is (Ok d) gives = record { read = read; is_text = is; gives = gives }
answered text read is (Err fault) beyond = subst (λ f. Refuses text f) (sym beyond.0) (record { read = read; is_text = is; beyond = beyond.1 })

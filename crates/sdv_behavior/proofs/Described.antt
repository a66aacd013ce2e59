-- What holds of every card that a description gives, fact by fact.
use Rattle.std.proofs.Common.{◌≡◌, ℕ, ◌<◌, ◌≤◌, ◌*◌, ◌^◌, ◌==◌, ◌||◌, not, nat_le, Bool, true, false, None, Some, Option, inl, inr, refl, arith, eqb-true, lit≤}
use Rattle.std.specs.Prelude.{is_none}
use Rattle.std.proofs.lemmas.Bool.{and_parts, leb-true}
use Rattle.sdv_frames.specs.Bits.{bits_of}
use Rattle.sdv_registers.specs.declared.kind.Kind.{Kind}
use Rattle.sdv_registers.specs.declared.kind.Kind.TheVariants.{Sd, Emmc}
use Rattle.sdv_registers.specs.declared.fault.RegisterFault.{RegisterFault}
use Rattle.sdv_registers.specs.Csd.{fault}
use Rattle.sdv_card.specs.Modes.{first_mode}
use Rattle.sdv_card.specs.Profile.{most_blocks, told_blocks, told_boot_blocks, VersionFits}
use Rattle.sdv_behavior.specs.declared.card_desc.CardDesc.{CardDesc}
use Rattle.sdv_behavior.specs.Registers.{ext_csd_of}
use Rattle.sdv_behavior.specs.Described.{version_fits, is_described}

pub record IsDescribed (d : CardDesc) : Type 0 where
  -- it has a relative address
  pub some_address : 0 < d.rca
  pub address_fits : d.rca < 65536
  -- a card with block addresses has block length 512
  pub length : d.block_unit ≡ true → d.block_length ≡ 512
  pub version : VersionFits d.kind d.version d.block_unit
  pub least : 1 ≤ d.capacity
  pub most : d.capacity ≤ most_blocks d.kind d.block_unit
  -- its registers are read, and tell its capacities
  pub readable : fault d.kind (bits_of d.csd) ≡ None
  pub told : told_blocks d.kind d.block_unit d.csd (ext_csd_of first_mode d.sectors d.boot_size_mult) ≡ d.capacity
  pub boot_fits : d.boot_size_mult < 256
  pub told_boot : told_boot_blocks d.kind (ext_csd_of first_mode d.sectors d.boot_size_mult) ≡ 256 * d.boot_size_mult

length_law : (block_unit fits : Bool) (n : ℕ) → (n == 512) ≡ fits → (not block_unit || fits) ≡ true → block_unit ≡ true → n ≡ 512
length_law true true n e t u = eqb-true n 512 e
length_law true false n e t u = absurd (let f : false ≡ true = t in cc)
length_law false fits n e t u = absurd (let f : false ≡ true = u in cc)

version_law : (k : Kind) (version : ℕ) (block_unit is_2 is_1 : Bool) → (version == 2) ≡ is_2 → (version == 1) ≡ is_1 →
    version_fits k version block_unit ≡ true → VersionFits k version block_unit
version_law Emmc version block_unit is_2 is_1 e f t = tt
version_law Sd version block_unit true is_1 e f t = inl (eqb-true version 2 e)
version_law Sd version false false true e f t = inr (eqb-true version 1 f, refl)
version_law Sd version true false true e f t = absurd (let g : false ≡ true = rw (e, f) at t in cc)
version_law Sd version block_unit false false e f t = absurd (let g : false ≡ true = rw (e, f) at t in cc)

none_law : (o : Option RegisterFault) → is_none o ≡ true → o ≡ None
none_law None e = refl
none_law (Some fault) e = absurd (let f : false ≡ true = e in cc)

pub described_law : (d : CardDesc) → IsDescribed d
unfolding is_described
described_law d =
    let p9 = and_parts _ _ d.described in
    let p8 = and_parts _ _ p9.0 in
    let p7 = and_parts _ _ p8.0 in
    let p6 = and_parts _ _ p7.0 in
    let p5 = and_parts _ _ p6.0 in
    let p4 = and_parts _ _ p5.0 in
    let p3 = and_parts _ _ p4.0 in
    let p2 = and_parts _ _ p3.0 in
    let p1 = and_parts (nat_le 1 d.rca) (nat_le d.rca 65535) p2.0 in
    let some : 1 ≤ d.rca = leb-true _ _ p1.0 in
    let fits : d.rca ≤ 65535 = leb-true _ _ p1.1 in
    let byte : d.boot_size_mult ≤ 255 = leb-true _ _ p8.1 in
    record {
      some_address = omega arith;
      address_fits = omega arith;
      length = length_law d.block_unit (d.block_length == 512) d.block_length refl p2.1;
      version = version_law d.kind d.version d.block_unit (d.version == 2) (d.version == 1) refl refl p3.1;
      least = leb-true _ _ p4.1;
      most = leb-true _ _ p5.1;
      readable = none_law _ p6.1;
      told = eqb-true _ _ p7.1;
      boot_fits = omega arith;
      told_boot = eqb-true _ _ p9.1;
    }

-- ITS SIZES

most_small : (k : Kind) (block_unit : Bool) → most_blocks k block_unit ≤ 2 ^ 32
most_small Sd false = lit≤ tt
most_small Sd true = lit≤ tt
most_small Emmc false = lit≤ tt
most_small Emmc true = lit≤ tt

pub capacity_small : (d : CardDesc) → d.capacity ≤ 2 ^ 32
capacity_small d =
    let most = (described_law d).most in
    let all = most_small d.kind d.block_unit in
    omega (arith, most, all)

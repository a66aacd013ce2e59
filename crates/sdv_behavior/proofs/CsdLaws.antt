-- The fields of a described CSD, and SEC_COUNT and BOOT_SIZE_MULT of a described EXT_CSD, read as they were set.
use Rattle.std.proofs.Common.{◌≡◌, ℕ, zero, suc, ◌/◌, ◌%◌, ◌^◌, ◌<◌, ◌≤◌, List, [], ◌∷◌, refl, ap, ◌∙◌, arith, lit<, lit≤}
use Rattle.byteorder.specs.Endian.{big_from}
use Rattle.sdv_frames.specs.Bits.{bits, bits_of, number_of}
use Rattle.sdv_frames.proofs.BitLaws.{number_of-bits}
use Rattle.sdv_registers.specs.Csd.{csd_structure, read_bl_len, c_size, c_size_mult}
use Rattle.sdv_registers.specs.declared.csd.CsdLayout.TheVariants.{Version1, Version2}
use Rattle.sdv_registers.specs.ExtCsd.{sec_count, boot_size_mult}
use Rattle.sdv_registers.proofs.ByteLaws.{AreBytes, field-bytes, bits_of-big}
use Rattle.sdv_card.specs.declared.state.Mode.{Mode}
use Rattle.sdv_behavior.specs.declared.description.Size.{Size}
use Rattle.sdv_behavior.specs.Registers.{byte_csd, block_csd, ext_csd_of}

-- VERSION 1

pub record IsSize (size : Size) : Type 0 where
  pub c_size : size.c_size ≤ 4095
  pub c_size_mult : size.c_size_mult ≤ 7
  pub least : 9 ≤ size.read_bl_len
  pub most : size.read_bl_len ≤ 11

module _ (s : Size) (is : IsSize s) where
  bytes : AreBytes (byte_csd s)
  bytes zero = lit< tt
  bytes (suc zero) = lit< tt
  bytes (suc (suc zero)) = lit< tt
  bytes (suc (suc (suc zero))) = lit< tt
  bytes (suc (suc (suc (suc zero)))) = lit< tt
  bytes (suc (suc (suc (suc (suc zero))))) = let h = is.most in omega (arith, h)
  bytes (suc (suc (suc (suc (suc (suc zero)))))) = let h = is.c_size in omega (arith, h)
  bytes (suc (suc (suc (suc (suc (suc (suc zero))))))) = omega arith
  bytes (suc (suc (suc (suc (suc (suc (suc (suc zero)))))))) = omega arith
  bytes (suc (suc (suc (suc (suc (suc (suc (suc (suc zero))))))))) = let h = is.c_size_mult in omega (arith, h)
  bytes (suc (suc (suc (suc (suc (suc (suc (suc (suc (suc zero)))))))))) = omega arith
  bytes (suc (suc (suc (suc (suc (suc (suc (suc (suc (suc (suc zero))))))))))) = lit< tt
  bytes (suc (suc (suc (suc (suc (suc (suc (suc (suc (suc (suc (suc zero)))))))))))) = lit< tt
  bytes (suc (suc (suc (suc (suc (suc (suc (suc (suc (suc (suc (suc (suc zero))))))))))))) = lit< tt
  bytes (suc (suc (suc (suc (suc (suc (suc (suc (suc (suc (suc (suc (suc (suc zero)))))))))))))) = lit< tt
  bytes (suc (suc (suc (suc (suc (suc (suc (suc (suc (suc (suc (suc (suc (suc (suc n))))))))))))))) = lit< tt

  pub size_structure : csd_structure (bits_of (byte_csd s)) ≡ 0
  size_structure = field-bytes 127 127 126 8 15 (byte_csd s) bytes refl refl (lit≤ tt) (lit≤ tt) (lit≤ tt)
      ∙ (let a = is.c_size in let b = is.c_size_mult in let c = is.most in omega (arith, a, b, c))

  pub size_read_bl_len : read_bl_len (bits_of (byte_csd s)) ≡ s.read_bl_len
  size_read_bl_len = field-bytes 127 83 80 8 15 (byte_csd s) bytes refl refl (lit≤ tt) (lit≤ tt) (lit≤ tt)
      ∙ (let a = is.c_size in let b = is.c_size_mult in let c = is.most in omega (arith, a, b, c))

  pub size_c_size : c_size Version1 (bits_of (byte_csd s)) ≡ s.c_size
  size_c_size = field-bytes 127 73 62 8 15 (byte_csd s) bytes refl refl (lit≤ tt) (lit≤ tt) (lit≤ tt)
      ∙ (let a = is.c_size in let b = is.c_size_mult in let c = is.most in omega (arith, a, b, c))

  pub size_c_size_mult : c_size_mult (bits_of (byte_csd s)) ≡ s.c_size_mult
  size_c_size_mult = field-bytes 127 49 47 8 15 (byte_csd s) bytes refl refl (lit≤ tt) (lit≤ tt) (lit≤ tt)
      ∙ (let a = is.c_size in let b = is.c_size_mult in let c = is.most in omega (arith, a, b, c))

-- VERSION 2

module _ (n : ℕ) (fits : n ≤ 4194303) where
  block_bytes : AreBytes (block_csd n)
  block_bytes zero = lit< tt
  block_bytes (suc zero) = lit< tt
  block_bytes (suc (suc zero)) = lit< tt
  block_bytes (suc (suc (suc zero))) = lit< tt
  block_bytes (suc (suc (suc (suc zero)))) = lit< tt
  block_bytes (suc (suc (suc (suc (suc zero))))) = lit< tt
  block_bytes (suc (suc (suc (suc (suc (suc zero)))))) = lit< tt
  block_bytes (suc (suc (suc (suc (suc (suc (suc zero))))))) = omega (arith, fits)
  block_bytes (suc (suc (suc (suc (suc (suc (suc (suc zero)))))))) = omega arith
  block_bytes (suc (suc (suc (suc (suc (suc (suc (suc (suc zero))))))))) = omega arith
  block_bytes (suc (suc (suc (suc (suc (suc (suc (suc (suc (suc zero)))))))))) = lit< tt
  block_bytes (suc (suc (suc (suc (suc (suc (suc (suc (suc (suc (suc zero))))))))))) = lit< tt
  block_bytes (suc (suc (suc (suc (suc (suc (suc (suc (suc (suc (suc (suc zero)))))))))))) = lit< tt
  block_bytes (suc (suc (suc (suc (suc (suc (suc (suc (suc (suc (suc (suc (suc zero))))))))))))) = lit< tt
  block_bytes (suc (suc (suc (suc (suc (suc (suc (suc (suc (suc (suc (suc (suc (suc zero)))))))))))))) = lit< tt
  block_bytes (suc (suc (suc (suc (suc (suc (suc (suc (suc (suc (suc (suc (suc (suc (suc k))))))))))))))) = lit< tt

  pub block_structure : csd_structure (bits_of (block_csd n)) ≡ 1
  block_structure = field-bytes 127 127 126 8 15 (block_csd n) block_bytes refl refl (lit≤ tt) (lit≤ tt) (lit≤ tt) ∙ omega (arith, fits)

  pub block_c_size : c_size Version2 (bits_of (block_csd n)) ≡ n
  block_c_size = field-bytes 127 69 48 8 15 (block_csd n) block_bytes refl refl (lit≤ tt) (lit≤ tt) (lit≤ tt) ∙ omega (arith, fits)

-- SEC_COUNT

-- the bytes of SEC_COUNT, the highest first
abbrev high_first : ℕ → List ℕ
high_first n = n / 16777216 ∷ n / 65536 % 256 ∷ n / 256 % 256 ∷ n % 256 ∷ []

four_bytes : (n : ℕ) → n < 2 ^ 32 → AreBytes (high_first n)
four_bytes n fits zero = omega (arith, fits)
four_bytes n fits (suc zero) = omega arith
four_bytes n fits (suc (suc zero)) = omega arith
four_bytes n fits (suc (suc (suc zero))) = omega arith
four_bytes n fits (suc (suc (suc (suc k)))) = lit< tt

pub sectors_read : (mode : Mode) (n boot : ℕ) → n < 2 ^ 32 → sec_count (ext_csd_of mode n boot) ≡ n
unfolding ext_csd_of
sectors_read mode n boot fits =
    let spelled : bits_of (high_first n) ≡ bits 32 (big_from 0 4 (high_first n)) = bits_of-big 0 4 (high_first n) (four_bytes n fits) (lit≤ tt) in
    ap number_of spelled ∙ (number_of-bits 32 (big_from 0 4 (high_first n)) ∙ omega (arith, fits))

-- BOOT_SIZE_MULT

one_byte : (n : ℕ) → n < 256 → AreBytes (n ∷ [])
one_byte n fits zero = fits
one_byte n fits (suc k) = lit< tt

pub boot_read : (mode : Mode) (sectors n : ℕ) → n < 256 → boot_size_mult (ext_csd_of mode sectors n) ≡ n
unfolding ext_csd_of
boot_read mode sectors n fits =
    let spelled : bits_of (n ∷ []) ≡ bits 8 (big_from 0 1 (n ∷ [])) = bits_of-big 0 1 (n ∷ []) (one_byte n fits) (lit≤ tt) in
    ap number_of spelled ∙ (number_of-bits 8 (big_from 0 1 (n ∷ [])) ∙ omega (arith, fits))

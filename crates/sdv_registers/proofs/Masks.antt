-- The masks as numbers.
use Rattle.std.proofs.Common.{◌≡◌, refl}
use Rattle.sdv_registers.specs.Status.{doubt_mask, clean_mask, doubt_mask_r6, clean_mask_r6}
use Rattle.sdv_registers.specs.declared.kind.Kind.TheVariants.{Sd, Emmc}

pub doubt_mask_is : doubt_mask ≡ 0xFD390000
doubt_mask_is = refl

pub clean_mask-sd : clean_mask Sd ≡ 0xFDF90000
clean_mask-sd = refl

pub clean_mask-emmc : clean_mask Emmc ≡ 0xFDF90080
clean_mask-emmc = refl

pub doubt_mask_r6_is : doubt_mask_r6 ≡ 0x2000
doubt_mask_r6_is = refl

pub clean_mask_r6_is : clean_mask_r6 ≡ 0xE000
clean_mask_r6_is = refl

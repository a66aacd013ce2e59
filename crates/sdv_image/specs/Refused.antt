-- Why there is no image over a file.
use Rattle.std.specs.Prelude.{◌≡◌, ◌%◌, ℕ}
use Rattle.sdv_image.specs.declared.fault.SimFault.{SimFault}
use Rattle.sdv_image.specs.declared.fault.SimFault.TheVariants as faults

-- the length of a file that is not whole blocks, and else memory
abbrev pub IsRefused : (bytes : ℕ) → SimFault → Type 0
IsRefused bytes faults.ImageLength = ¬ (bytes % 512 ≡ 0)
IsRefused bytes faults.Memory = bytes % 512 ≡ 0
IsRefused bytes fault = ⊥

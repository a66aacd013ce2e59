-- What the card status says: the 32 bits of an R1, and those of them that an R6 shows.
-- SD Physical Layer Simplified Specification, sections 4.10.1 (card status) and 4.9.5 (R6);
-- JESD84-B51, section 6.13 (device status).
use Rattle.std.specs.Prelude.{ℕ, ◌^◌, Bool, ◌==◌, not, nat_le, if◌then◌else◌, List, [], ◌∷◌, ◌++◌, sum_by, Option, Some, None}
use Rattle.std.specs.Int.RustNames.{bit_and}
use Rattle.std.specs.List.{filter_map}
use Rattle.sdv_frames.specs.Bits.{bits}
use Rattle.sdv_registers.specs.Field.{field, is_set}
use Rattle.sdv_registers.specs.declared.kind.Kind.{Kind}
use Rattle.sdv_registers.specs.declared.kind.Kind.TheVariants.{Sd, Emmc}

-- CURRENT_STATE, the state in which the card received the command; an R6 has it at the same place
abbrev pub state : ℕ → ℕ
state status = field 31 12 9 (bits 32 status)

-- READY_FOR_DATA, SWITCH_ERROR (e.MMC) and APP_CMD (SD); an R6 has them at the same places
abbrev pub is_ready_for_data : ℕ → Bool
is_ready_for_data status = is_set 31 8 (bits 32 status)

abbrev pub is_switch_error : ℕ → Bool
is_switch_error status = is_set 31 7 (bits 32 status)

abbrev pub is_app_cmd : ℕ → Bool
is_app_cmd status = is_set 31 5 (bits 32 status)

-- The errors of which each puts in doubt whether the card took the command: out of range, address,
-- block length, erase sequence, erase parameter, write protect, lock failed, ECC, controller, error
-- and CSD overwrite.
abbrev pub doubt_places : List ℕ
doubt_places = 31 ∷ 30 ∷ 29 ∷ 28 ∷ 27 ∷ 26 ∷ 24 ∷ 21 ∷ 20 ∷ 19 ∷ 16 ∷ []

-- the errors that speak of the command before: its CRC, and an illegal command
abbrev pub earlier_places : List ℕ
earlier_places = 23 ∷ 22 ∷ []

-- all errors that a clean reply has not: on e.MMC also the switch error
abbrev pub error_places : Kind → List ℕ
error_places Sd = doubt_places ++ earlier_places
error_places Emmc = doubt_places ++ (earlier_places ++ 7 ∷ [])

-- where an R6 shows a bit of the card status, if it does: bits 23, 22 and 19 at 15, 14 and 13, and
-- bits 12..0 at their own places
abbrev pub place_in_r6 : ℕ → Option ℕ
place_in_r6 place =
    if place == 23 then Some 15 else if place == 22 then Some 14 else if place == 19 then Some 13
    else if nat_le place 12 then Some place else None

-- the word of which just these bits are 1
abbrev pub mask : List ℕ → ℕ
mask places = sum_by (λ place. 2 ^ place) places

-- the doubt mask, and the clean mask of a kind
abbrev pub doubt_mask : ℕ
doubt_mask = mask doubt_places

abbrev pub clean_mask : Kind → ℕ
clean_mask kind = mask (error_places kind)

-- the same of an R6, which only an SD card sends
abbrev pub doubt_mask_r6 : ℕ
doubt_mask_r6 = mask (filter_map place_in_r6 doubt_places)

abbrev pub clean_mask_r6 : ℕ
clean_mask_r6 = mask (filter_map place_in_r6 (error_places Sd))

-- a card status shows a doubt; it is clean
abbrev pub has_doubt : ℕ → Bool
has_doubt status = not (bit_and status doubt_mask == 0)

abbrev pub is_clean : Kind → ℕ → Bool
is_clean kind status = bit_and status (clean_mask kind) == 0

-- the word of an R6 shows a doubt; it is clean
abbrev pub has_doubt_r6 : ℕ → Bool
has_doubt_r6 word = not (bit_and word doubt_mask_r6 == 0)

abbrev pub is_clean_r6 : ℕ → Bool
is_clean_r6 word = bit_and word clean_mask_r6 == 0

-- the new relative card address in an R6
abbrev pub rca : ℕ → ℕ
rca word = field 31 31 16 (bits 32 word)

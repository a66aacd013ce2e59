-- A SCHEDULE beside a description: a digit from 0 to 7 for each event, with spaces and ends of lines between; or the line at
-- which it is none.
use Rattle.std.specs.Prelude.{◌≡◌, ℕ, ◌+◌, ◌-◌, ◌^◌, ◌==◌, ◌&&◌, ◌||◌, min, List, [], ◌∷◌, Bool, Option, Some, None, nat_le, if◌then◌else◌}
use Rattle.sdv_image.specs.declared.fault.SimFault.{SimFault}
use Rattle.sdv_image.specs.declared.fault.SimFault.TheVariants.{Description}
use Rattle.sdv_explain.specs.Described.{Tells}
use Rattle.sdv_explain.specs.declared.describing.CardPage.{CardPage}

-- a byte that a schedule may have
abbrev pub stands_in : (byte : ℕ) → Bool
stands_in byte = (nat_le 48 byte && nat_le byte 55) || ((byte == 32) || ((byte == 13) || (byte == 10)))

abbrev pub line_after : (line byte : ℕ) → ℕ
line_after line byte = if byte == 10 then min (line + 1) (2 ^ 64 - 1) else line

-- the line of the first other byte, from a line on
abbrev pub wrong_from : (line : ℕ) → List ℕ → Option ℕ
wrong_from line [] = None
wrong_from line (byte ∷ bytes) = if stands_in byte then wrong_from (line_after line byte) bytes else Some line

abbrev pub wrong_line : List ℕ → Option ℕ
wrong_line bytes = wrong_from 1 bytes

abbrev pub schedule_fault : Option ℕ → Option SimFault
schedule_fault None = None
schedule_fault (Some line) = Some Description

-- THE PAGE of a description and a schedule: nothing is told of the schedule where there is no card

abbrev pub fault_beside : Option SimFault → (wrong : Option ℕ) → Option SimFault
fault_beside None wrong = schedule_fault wrong
fault_beside (Some fault) wrong = Some fault

abbrev pub TellsGiven : (text : List ℕ) → (schedule : Option (List ℕ)) → CardPage → Type 0
TellsGiven text None page = Tells text page
TellsGiven text (Some schedule) page =
    (card : CardPage) × Tells text card × (page.fault ≡ fault_beside card.fault (wrong_line schedule))
    × (page.misfit ≡ card.misfit)

-- The behaviors of a simulated card, one for each event: the values of a schedule in their order; after its end all are
-- prompt. The values are this project's own; a file of digits has those from 0 to 7.
use Rattle.std.specs.Prelude.{ℕ, Bool, ◌==◌, ◌-◌, List, [], ◌∷◌, Option, Some, is_some, option_map, slice_get, codes, if◌then◌else◌, None}
use Rattle.std.specs.List.{list_all}
use Rattle.sdv_behavior.specs.declared.behavior.Behavior.{Behavior}
use Rattle.sdv_behavior.specs.declared.behavior.TheConstants.{PROMPT}
use Rattle.sdv_behavior.specs.declared.mishap.Mishap.{Mishap}
use Rattle.sdv_behavior.specs.declared.mishap.Mishap.TheVariants.{LosesCommand, LosesAnswer, IsSlow, ReportsError, Refuses, CutsPhase, FailsSwitch, LosesCrcStatus, OmitsAppCommand, LosesCommandWhileBusy, ReportsErrorWhileBusy, FailsWriteLater, MovesOn, ReportsOutOfRange, ReportsEraseSequence, ReportsIllegalCommand, SetsOtherLength, LosesOtherAddress, RefusesWithOtherAddress, KeepsSwitchError}
use Rattle.sdv_behavior.specs.declared.mishap.TheConstants.{MISHAPS}

-- NAMES of mishaps in a schedule

abbrev pub mishap_name : Mishap → List ℕ
mishap_name LosesCommand = codes "command lost"
mishap_name LosesAnswer = codes "answer lost"
mishap_name IsSlow = codes "not ready"
mishap_name ReportsError = codes "error shown"
mishap_name Refuses = codes "refused"
mishap_name CutsPhase = codes "phase cut"
mishap_name FailsSwitch = codes "switch fails"
mishap_name LosesCrcStatus = codes "CRC status lost"
mishap_name OmitsAppCommand = codes "no APP_CMD"
mishap_name LosesCommandWhileBusy = codes "lost while busy"
mishap_name ReportsErrorWhileBusy = codes "error while busy"
mishap_name FailsWriteLater = codes "write fails, error shown later"
mishap_name MovesOn = codes "time passes"
mishap_name ReportsOutOfRange = codes "OUT_OF_RANGE"
mishap_name ReportsEraseSequence = codes "ERASE_SEQ_ERROR"
mishap_name ReportsIllegalCommand = codes "ILLEGAL_COMMAND"
mishap_name SetsOtherLength = codes "other block length"
mishap_name LosesOtherAddress = codes "answer lost with other address"
mishap_name RefusesWithOtherAddress = codes "refused with other address"
mishap_name KeepsSwitchError = codes "switch error kept"

-- a shorter one, or the same again
abbrev pub mishap_short_name : Mishap → List ℕ
mishap_short_name LosesCommand = codes "lost"
mishap_short_name CutsPhase = codes "cut"
mishap_short_name FailsWriteLater = codes "write fails"
mishap_short_name mishap = mishap_name mishap

-- VALUES

-- the row of a value, from 1
abbrev pub row_of_code : ℕ → Option (Mishap × Behavior)
row_of_code code = if code == 0 then None else slice_get MISHAPS (code - 1)

abbrev pub mishap_of_code : ℕ → Option Mishap
mishap_of_code code = option_map (λ row. row.0) (row_of_code code)

abbrev pub behavior_of_code : ℕ → Option Behavior
behavior_of_code code =
    if code == 0 then Some PROMPT else option_map (λ row. row.1) (row_of_code code)

abbrev pub first_behavior : List Behavior → Behavior
first_behavior [] = PROMPT
first_behavior (behavior ∷ later) = behavior

abbrev pub later_behaviors : List Behavior → List Behavior
later_behaviors [] = []
later_behaviors (behavior ∷ later) = later

-- each value is that of a behavior
abbrev pub are_codes : List ℕ → Bool
are_codes codes = list_all (λ code. is_some (behavior_of_code code)) codes

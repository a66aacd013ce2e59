-- WHICH RUNS a sweep makes, and which of their ends are no good.
use Rattle.std.specs.Prelude.{◌==◌, ◌&&◌, ◌||◌, not, nat_le, Bool, true, false, ℕ, zero, suc, List, [], ◌∷◌, ◌++◌, filter, Option, Some, None}
use Rattle.std.specs.List.{list_any}
use Rattle.sdv_behavior.specs.Schedules.{mishap_of_code}
use Rattle.sdv_behavior.specs.declared.mishap.Mishap.{Mishap}
use Rattle.sdv_behavior.specs.declared.mishap.Mishap.TheVariants.{LosesCommand, LosesAnswer, IsSlow, ReportsError, Refuses, CutsPhase, FailsSwitch, LosesCrcStatus, OmitsAppCommand, LosesCommandWhileBusy, ReportsErrorWhileBusy, FailsWriteLater, MovesOn, ReportsOutOfRange, ReportsEraseSequence, ReportsIllegalCommand, SetsOtherLength, LosesOtherAddress, RefusesWithOtherAddress, KeepsSwitchError}
use Rattle.sdv_refute.specs.declared.next.Next.{Next}
use Rattle.sdv_refute.specs.declared.next.Next.TheVariants.{Send, Receive, ReceiveRegister, Give, Wait}
use Rattle.sdv_search.specs.declared.sweeping.TheConstants.{VALUES}
use Rattle.sdv_search.specs.declared.sweeping.Cell.{Cell}
use Rattle.sdv_search.specs.declared.sweeping.Row.{Row}
use Rattle.sdv_search.specs.declared.sweeping.RunEnd.{RunEnd}
use Rattle.sdv_search.specs.declared.sweeping.RunEnd.TheVariants as ends
use Rattle.sdv_search.specs.declared.sweeping.SweepTable.{SweepTable}

-- WHICH MISHAPS AN EVENT CAN HAVE, whatever the state of the card. Where it can have none, the run with it is the run without.
-- SD Physical Layer Simplified Specification, sections 4.3.10, 4.7.4 and 4.9; JESD84-B51, sections 6.4, 6.10.4 and 6.12.

-- CMD0 has no answer, nor has the CMD7 that deselects all cards
abbrev pub has_answer : (index argument : ℕ) → Bool
has_answer index argument = not ((index == 0) || ((index == 7) && (argument == 0)))

-- OCR: CMD1 and ACMD41 ask whether the card is ready
abbrev pub asks_ready : (index : ℕ) → Bool
asks_ready index = (index == 1) || (index == 41)

-- a card takes these only in a state in which it is not busy: CMD2, CMD9, CMD10, and CMD8 with the pattern of an SD card
abbrev pub asks_register : (index argument : ℕ) → Bool
asks_register index argument =
    (index == 2) || ((index == 9) || ((index == 10) || ((index == 8) && (argument == 0x1aa))))

-- the card may be busy when the command comes. CMD0 resets a busy card as any other
abbrev pub finds_busy : (index argument : ℕ) → Bool
finds_busy index argument = not ((index == 0) || (asks_ready index || asks_register index argument))

-- the answer shows errors: an R1 or an R6
abbrev pub shows_errors : (index argument : ℕ) → Bool
shows_errors index argument = has_answer index argument && finds_busy index argument

-- CMD6 of e.MMC writes a byte of the EXT_CSD; ACMD6 of SD is no switch
abbrev pub is_switch : (index argument : ℕ) → Bool
is_switch index argument = (index == 6) && nat_le 0x03000000 argument

-- CMD3 of SD asks for a new relative address; that of e.MMC gives one
abbrev pub asks_address : (index argument : ℕ) → Bool
asks_address index argument = (index == 3) && (argument == 0)

-- no command but CMD0 always arrives
abbrev pub command_can_have : Mishap → (index argument : ℕ) → Bool
command_can_have LosesCommand index argument = not (index == 0)
command_can_have LosesAnswer index argument = has_answer index argument
command_can_have IsSlow index argument = asks_ready index || finds_busy index argument
command_can_have ReportsError index argument = shows_errors index argument
command_can_have Refuses index argument = shows_errors index argument
command_can_have FailsSwitch index argument = is_switch index argument
command_can_have OmitsAppCommand index argument = index == 55
command_can_have LosesCommandWhileBusy index argument = not (index == 0)
command_can_have ReportsErrorWhileBusy index argument = finds_busy index argument
command_can_have ReportsOutOfRange index argument = shows_errors index argument
command_can_have ReportsEraseSequence index argument = shows_errors index argument
command_can_have ReportsIllegalCommand index argument = shows_errors index argument
command_can_have SetsOtherLength index argument = index == 0
command_can_have LosesOtherAddress index argument = asks_address index argument
command_can_have RefusesWithOtherAddress index argument = asks_address index argument
command_can_have KeepsSwitchError index argument = index == 13
command_can_have mishap index argument = false

abbrev pub can_have : Mishap → Next → Bool
can_have mishap (Send ask position argument) = command_can_have mishap ask.index argument
can_have CutsPhase (Receive count) = true
can_have CutsPhase (ReceiveRegister count) = true
can_have CutsPhase (Give count) = true
can_have LosesCrcStatus (Give count) = true
can_have FailsWriteLater (Give count) = true
can_have MovesOn (Receive count) = true
can_have MovesOn (ReceiveRegister count) = true
can_have MovesOn (Give count) = true
can_have MovesOn Wait = true
can_have IsSlow Wait = true
can_have mishap next = false

-- THE VALUES of the mishaps that an event can have

abbrev pub code_can_come : Next → Option Mishap → Bool
code_can_come next None = false
code_can_come next (Some mishap) = can_have mishap next

abbrev pub can_have_code : Next → ℕ → Bool
can_have_code next code = code_can_come next (mishap_of_code code)

-- those below a number
abbrev pub codes_below : ℕ → List ℕ
codes_below zero = []
codes_below (suc n) = codes_below n ++ n ∷ []

abbrev pub codes_at : Next → List ℕ
codes_at next = filter (can_have_code next) (codes_below VALUES)

-- WHETHER A RUN comes to what is not allowed at the card

abbrev pub is_wrong : RunEnd → Bool
is_wrong (ends.Wrong point) = true
is_wrong end = false

abbrev pub any_run_wrong : List Cell → Bool
any_run_wrong cells = list_any (λ (cell : Cell). is_wrong cell.end) cells

abbrev pub any_row_wrong : List Row → Bool
any_row_wrong rows = list_any (λ (row : Row). any_run_wrong row.cells.items) rows

-- the run without a mishap does not come to its end
abbrev pub is_stopped : RunEnd → Bool
is_stopped (ends.Stopped fault) = true
is_stopped end = false

-- a sweep that is no good: a run comes to what is not allowed, or the run without a mishap does not come to its end
abbrev pub fails : SweepTable → Bool
fails s = is_wrong s.plain || (any_row_wrong s.rows.items || is_stopped s.plain)

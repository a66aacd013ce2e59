-- Which LINE of a trace an event of a script has, and what that line tells that the event returned.
use Rattle.std.specs.Prelude.{ℕ, List, ◌++◌, ◌==◌, ◌&&◌, ◌||◌, Bool, true, false, Option, Some, None, nat_lt, length, take, drop, replicate, codes, if◌then◌else◌}
use Rattle.sdv_text.specs.Fronts.{after, is_word}
use Rattle.sdv_card.specs.declared.answer.DataEnd.{DataEnd}
use Rattle.sdv_card.specs.declared.answer.DataEnd.TheVariants.{Ok as Whole, Cut}
use Rattle.sdv_card.specs.declared.answer.WaitEnd.TheVariants.{Ok as InTime}
use Rattle.sdv_audit.specs.declared.line.TraceLine.{TraceLine}
use Rattle.sdv_audit.specs.declared.line.TraceLine.TheVariants.{Exchange, BlocksIn, RegisterIn, BlocksOut, Wait}
use Rattle.sdv_trace.specs.declared.end.End.{End}
use Rattle.sdv_trace.specs.declared.end.End.TheVariants.{Done, Fault}
use Rattle.sdv_run.specs.declared.next_event.NextEvent.{NextEvent}
use Rattle.sdv_run.specs.declared.next_event.NextEvent.TheVariants as events
use Rattle.sdv_run.specs.declared.returned.Returned.{Returned}
use Rattle.sdv_run.specs.declared.returned.Returned.TheVariants as told

-- the line is one of the event: the command with its argument, or a phase of that length
abbrev pub is_of : NextEvent → TraceLine → Bool
is_of (events.Send ask position argument) (Exchange command answer) =
    (ask.index == command.index) && (argument == command.argument)
is_of (events.ReceiveBlocks lines count) (BlocksIn n end) = count == n
is_of (events.ReceiveRegister lines count) (RegisterIn n end) = count == n
is_of (events.GiveBlocks lines count) (BlocksOut n end) = count == n
is_of events.Wait (Wait end) = true
is_of event line = false

-- what it tells that the event returned, with the bytes of a register; the lines of no event tell nothing
abbrev pub returned_of : TraceLine → (register : List ℕ) → Returned
returned_of (Exchange command answer) register = told.Answered answer
returned_of (BlocksIn n end) register = told.BlocksIn end
returned_of (RegisterIn n end) register = told.RegisterIn end register
returned_of (BlocksOut n end) register = told.BlocksOut end
returned_of (Wait end) register = told.Waited end
returned_of line register = told.Waited InTime

-- REGISTERS: the trace has only how many bytes came. Where they are given besides, they stand before zeros in 512 bytes;
-- where they are not, all bits are taken as 1, so that the capacities are the greatest.

abbrev pub greatest_register : List ℕ
greatest_register = replicate 512 255

abbrev pub register_of : Option (List ℕ) → (count : ℕ) → List ℕ
register_of None count = greatest_register
register_of (Some bytes) count =
    if nat_lt (length bytes) count || nat_lt 512 count then greatest_register
    else take count bytes ++ drop count (replicate 512 0)

-- the bytes that are left behind those of a register
abbrev pub left_behind : Option (List ℕ) → (count : ℕ) → Option (List ℕ)
left_behind None count = None
left_behind (Some bytes) count = Some (drop count bytes)

-- a register came whole, with so many bytes
abbrev pub bytes_told : DataEnd → ℕ → ℕ
bytes_told Whole count = count
bytes_told Cut count = 0

abbrev pub register_told : Option (List ℕ) → TraceLine → List ℕ
register_told given (RegisterIn count end) = register_of given (bytes_told end count)
register_told given line = greatest_register

abbrev pub given_after : Option (List ℕ) → TraceLine → Option (List ℕ)
given_after given (RegisterIn count end) = left_behind given (bytes_told end count)
given_after given line = given

-- THE END

abbrev pub is_name : Option (List ℕ) → List ℕ → Bool
is_name None name = false
is_name (Some rest) name = is_word name rest

-- the text is the last line of a run that ended so
abbrev pub is_end : List ℕ → End → Bool
is_end text Done = is_word (codes "done") text
is_end text (Fault name) = is_name (after (codes "fault ") text) name.bytes

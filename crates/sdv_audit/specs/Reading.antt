-- Reading a line of a trace from left to right, or the first fault: each part, and what follows it.
use Rattle.std.specs.Prelude.{ℕ, List, length, take, drop, ◌&&◌, nat_lt, nat_le, codes, Option, Some, None, Result, Ok, Err, if◌then◌else◌}
use Rattle.std.specs.Int.{w32, from_be_bytes}
use Rattle.hex.specs.Hex.{decode_sized}
use Rattle.hex.specs.declared.error.FromHexError.{FromHexError}
use Rattle.sdv_text.specs.Fronts.{Read, after, is_end, is_word, is_digit, run, number_after}
use Rattle.sdv_frames.specs.declared.reply.Reply.{Reply}
use Rattle.sdv_frames.specs.declared.reply.Reply.TheVariants.{R1, R2, R3, R6, R7}
use Rattle.sdv_card.specs.declared.state.Width.TheVariants.{One, Four, Eight}
use Rattle.sdv_card.specs.declared.answer.Answer.{Answer}
use Rattle.sdv_card.specs.declared.answer.Answer.TheVariants.{Sent, TimeOut, Reply as Replied}
use Rattle.sdv_card.specs.declared.answer.DataEnd.{DataEnd}
use Rattle.sdv_card.specs.declared.answer.DataEnd.TheVariants as data_ends
use Rattle.sdv_card.specs.declared.answer.WaitEnd.TheVariants as wait_ends
use Rattle.sdv_audit.specs.declared.fault.TraceLineFault.{TraceLineFault}
use Rattle.sdv_audit.specs.declared.fault.TraceLineFault.TheVariants as faults
use Rattle.sdv_audit.specs.declared.line.TraceLine.{TraceLine}
use Rattle.sdv_audit.specs.declared.line.TraceLine.TheVariants.{Exchange, BlocksIn, RegisterIn, BlocksOut, Wait, Lines, End}

-- STEPS

-- one step of reading behind another
infixl 10 ◌>>=◌
abbrev pub ◌>>=◌ : {A B : Type 0} → Result A TraceLineFault → (A → Result B TraceLineFault) → Result B TraceLineFault
(Ok x) >>= f = f x
(Err fault) >>= f = Err fault

-- where nothing is read, the fault
abbrev pub or_fault : {A : Type 0} → TraceLineFault → Option A → Result A TraceLineFault
or_fault fault None = Err fault
or_fault fault (Some x) = Ok x

-- the second reading where the first finds none
abbrev pub or_else : {A : Type 0} → Option (List ℕ) → (List ℕ → A) → A → A
or_else None f other = other
or_else (Some rest) f other = f rest

abbrev pub map_some : {A B : Type 0} → (A → B) → Option A → Option B
map_some f None = None
map_some f (Some x) = Some (f x)

-- NUMBERS of one decimal digit or more, up to 65,535

abbrev pub figure : (digits rest : List ℕ) → Read ℕ
figure digits rest =
    if nat_lt 0 (length digits) && nat_le (number_after 0 digits) 65535
    then Some (number_after 0 digits, rest) else None

unfoldable pub read_number : List ℕ → Read ℕ
read_number bs = figure (take (run is_digit bs) bs) (drop (run is_digit bs) bs)

-- HEXADECIMAL DIGITS of either case

abbrev pub word_and : Result (List ℕ) FromHexError → List ℕ → Read ℕ
word_and (Ok bytes) rest = Some (from_be_bytes w32 bytes, rest)
word_and (Err fault) rest = None

-- a word of 32 bits in eight digits
unfoldable pub read_word : List ℕ → Read ℕ
read_word bs = if nat_lt (length bs) 8 then None else word_and (decode_sized (take 8 bs) 4) (drop 8 bs)

abbrev pub if_last : Read ℕ → Option ℕ
if_last None = None
if_last (Some (word, rest)) = if is_end rest then Some word else None

-- such a word, with nothing behind it
abbrev pub last_word : List ℕ → Option ℕ
last_word bs = if_last (read_word bs)

abbrev pub bytes_or_none : Result (List ℕ) FromHexError → Option (List ℕ)
bytes_or_none (Ok bytes) = Some bytes
bytes_or_none (Err fault) = None

-- a register of 15 bytes, with nothing behind it
abbrev pub last_register : List ℕ → Option (List ℕ)
last_register bs = bytes_or_none (decode_sized bs 15)

-- RESPONSES, by their format; an R1 repeats the index of its command

unfoldable pub read_reply : (index : ℕ) → List ℕ → Option Reply
read_reply index bs =
    or_else (after (codes "R1 ") bs) (λ rest. map_some (R1 index) (last_word rest)) (
    or_else (after (codes "R2 ") bs) (λ rest. map_some R2 (last_register rest)) (
    or_else (after (codes "R3 ") bs) (λ rest. map_some R3 (last_word rest)) (
    or_else (after (codes "R6 ") bs) (λ rest. map_some R6 (last_word rest)) (
    or_else (after (codes "R7 ") bs) (λ rest. map_some R7 (last_word rest)) None))))

unfoldable pub read_answer : (index : ℕ) → List ℕ → Result Answer TraceLineFault
read_answer index bs =
    if is_word (codes "-") bs then Ok Sent
    else (if is_word (codes "timeout") bs then Ok TimeOut
    else or_fault faults.Answer (map_some Replied (read_reply index bs)))

-- COMMANDS

abbrev pub index_and : ℕ → Option (List ℕ) → Result (ℕ × List ℕ) TraceLineFault
index_and index None = Err faults.Index
index_and index (Some rest) = if nat_le index 63 then Ok (index, rest) else Err faults.Index

unfoldable pub read_index : List ℕ → Result (ℕ × List ℕ) TraceLineFault
read_index bs = or_fault faults.Index (read_number bs) >>= λ n. index_and n.0 (after (codes " ") n.1)

unfoldable pub read_argument : List ℕ → Result (ℕ × List ℕ) TraceLineFault
read_argument bs =
    or_fault faults.Argument (read_word bs) >>= λ word.
    or_fault faults.Argument (after (codes " ") word.1) >>= λ rest. Ok (word.0, rest)

unfoldable pub read_exchange : List ℕ → Result TraceLine TraceLineFault
read_exchange bs =
    read_index bs >>= λ index.
    read_argument index.1 >>= λ argument.
    read_answer index.0 argument.1 >>= λ answer.
    Ok (Exchange (record { index = index.0; argument = argument.0 }) answer)

-- PHASES AND WAITS

unfoldable pub read_data_end : List ℕ → Result DataEnd TraceLineFault
read_data_end bs =
    if is_word (codes " ok") bs then Ok data_ends.Ok
    else (if is_word (codes " cut") bs then Ok data_ends.Cut else Err faults.End)

unfoldable pub read_phase : List ℕ → Result (ℕ × DataEnd) TraceLineFault
read_phase bs =
    or_fault faults.Count (read_number bs) >>= λ count.
    read_data_end count.1 >>= λ end. Ok (count.0, end)

unfoldable pub read_wait : List ℕ → Result TraceLine TraceLineFault
read_wait bs =
    if is_word (codes "ok") bs then Ok (Wait wait_ends.Ok)
    else (if is_word (codes "late") bs then Ok (Wait wait_ends.Late) else Err faults.End)

-- DATA LINES

unfoldable pub read_lines : List ℕ → Result TraceLine TraceLineFault
read_lines bs =
    if is_word (codes "1") bs then Ok (Lines One)
    else (if is_word (codes "4") bs then Ok (Lines Four)
    else (if is_word (codes "8") bs then Ok (Lines Eight) else Err faults.Lines))

-- A LINE, without the end of line

-- the last line of a run: it was done, or ended in a fault with some name
unfoldable pub read_end : List ℕ → Result TraceLine TraceLineFault
read_end bs =
    if is_word (codes "done") bs then Ok End else or_else (after (codes "fault ") bs) (λ rest. Ok End) (Err faults.Word)

-- a line of the host alone, or the last one
unfoldable pub read_other : List ℕ → Result TraceLine TraceLineFault
read_other bs =
    or_else (after (codes "WAIT ") bs) read_wait (or_else (after (codes "LINES ") bs) read_lines (read_end bs))

-- a line of a data phase, or another one
unfoldable pub read_data : List ℕ → Result TraceLine TraceLineFault
read_data bs =
    or_else (after (codes "IN ") bs) (λ rest. read_phase rest >>= λ x. Ok (BlocksIn x.0 x.1)) (
    or_else (after (codes "REG ") bs) (λ rest. read_phase rest >>= λ x. Ok (RegisterIn x.0 x.1)) (
    or_else (after (codes "OUT ") bs) (λ rest. read_phase rest >>= λ x. Ok (BlocksOut x.0 x.1)) (read_other bs)))

unfoldable pub read_line : List ℕ → Result TraceLine TraceLineFault
read_line bs = or_else (after (codes "CMD") bs) read_exchange (read_data bs)

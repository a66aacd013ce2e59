-- What the text of a request's first line says, read from left to right.
use Rattle.std.specs.Prelude.{◌==◌, ◌&&◌, ◌||◌, ◌<◌, ◌≤◌, is_some, nat_le, nat_lt, ℕ, List, length, take, drop, Bool, false, Option, Some, None, Result, Ok, Err, if◌then◌else◌}
use Rattle.std.specs.Int.{w32, from_be_bytes}
use Rattle.hex.specs.declared.error.FromHexError.{FromHexError}
use Rattle.hex.specs.Hex.{decode_sized}
use Rattle.sdv_text.specs.Fronts.{◌>>=◌, Read, after, is_end, is_word, is_digit, run, number_after}
use Rattle.sdv_frames.specs.declared.reply.Expect.{Expect}
use Rattle.sdv_frames.specs.declared.reply.Expect.TheVariants as expects
use Rattle.sdv_lines.specs.declared.words.TheConstants as words
use Rattle.sdv_lines.specs.declared.hearing.Request.{Request}
use Rattle.sdv_lines.specs.declared.hearing.Request.TheVariants as requests

-- the second reading where the first finds none
abbrev pub or_else : {A : Type 0} → Option (List ℕ) → (List ℕ → Option A) → Option A → Option A
or_else None f other = other
or_else (Some rest) f other = f rest

-- a number in decimal digits below 2^32
abbrev pub number_if : (digits rest : List ℕ) → Read ℕ
number_if digits rest =
    if nat_lt 0 (length digits) && nat_le (number_after 0 digits) 4294967295
    then Some (number_after 0 digits, rest) else None

unfoldable pub read_number : List ℕ → Read ℕ
read_number bs = number_if (take (run is_digit bs) bs) (drop (run is_digit bs) bs)

-- a word in eight hexadecimal digits
abbrev pub word_if : Result (List ℕ) FromHexError → List ℕ → Read ℕ
word_if (Ok bytes) rest = Some (from_be_bytes w32 bytes, rest)
word_if (Err fault) rest = None

unfoldable pub read_word : List ℕ → Read ℕ
read_word bs = if nat_le 8 (length bs) then word_if (decode_sized (take 8 bs) 4) (drop 8 bs) else None

-- how many blocks or bytes a phase has, with the words behind that number, and over how many data lines
abbrev pub phase_if : (count lines : ℕ) → List ℕ → Option (ℕ × ℕ)
phase_if count lines rest =
    if ((lines == 1) || (lines == 4) || (lines == 8)) && is_end rest then Some (count, lines) else None

unfoldable pub read_counted : (unit : List ℕ) → List ℕ → Option (ℕ × ℕ)
read_counted unit bs =
    read_number bs >>= λ count.
    after unit count.1 >>= λ rest.
    read_number rest >>= λ lines.
    phase_if count.0 lines.0 lines.1

-- the data phase that a command announces, or nothing
abbrev pub announces_in : Option (List ℕ) → Bool
announces_in None = false
announces_in (Some rest) = is_some (read_counted words.LINES.now rest) || is_some (read_counted words.BYTES.now rest)

abbrev pub announces_out : Option (List ℕ) → Bool
announces_out None = false
announces_out (Some rest) = is_some (read_counted words.LINES.now rest)

abbrev pub is_announcement : List ℕ → Bool
is_announcement bs =
    is_end bs || announces_in (after words.IN_FOLLOWS.now bs) || announces_out (after words.OUT_FOLLOWS.now bs)

-- the response that is waited for, to the command of this index; the phase that follows is announced or not
abbrev pub expect_if : Expect → List ℕ → Option Expect
expect_if expect rest = if is_announcement rest then Some expect else None

unfoldable pub read_expect : (index : ℕ) → List ℕ → Option Expect
read_expect index bs =
    or_else (after words.NOTHING.now bs) (expect_if expects.Nothing)
    (or_else (after words.R1.now bs) (expect_if (expects.R1 index))
    (or_else (after words.R2.now bs) (expect_if expects.R2)
    (or_else (after words.R3.now bs) (expect_if expects.R3)
    (or_else (after words.R6.now bs) (expect_if expects.R6)
    (or_else (after words.R7.now bs) (expect_if expects.R7) None)))))

-- a command, behind its word
abbrev pub command_if : (index argument : ℕ) → Option Expect → Option Request
command_if index argument None = None
command_if index argument (Some expect) =
    if nat_lt index 64 then Some (requests.Exchange (record { index = index; argument = argument }) expect) else None

unfoldable pub read_command : List ℕ → Option Request
read_command bs =
    read_number bs >>= λ index.
    after words.SPACE.now index.1 >>= λ rest.
    read_word rest >>= λ word.
    after words.SPACE.now word.1 >>= λ expect.
    command_if index.0 word.0 (read_expect index.0 expect)

-- how many blocks or bytes a phase has, and over how many data lines, behind its word
abbrev pub read_phase : List ℕ → Option (ℕ × ℕ)
read_phase bs = read_counted words.LINES.now bs

abbrev pub blocks_in : List ℕ → Option Request
blocks_in bs = read_phase bs >>= λ p. Some (requests.DataIn p.0 p.1)

abbrev pub blocks_out : List ℕ → Option Request
blocks_out bs = read_phase bs >>= λ p. Some (requests.DataOut p.0 p.1)

-- a register has 512 bytes at most
abbrev pub register_in : List ℕ → Option Request
register_in bs = read_phase bs >>= λ p. if nat_le p.0 512 then Some (requests.Register p.0 p.1) else None

unfoldable pub read_request : List ℕ → Option Request
read_request bs =
    or_else (after words.COMMAND.now bs) read_command
    (or_else (after words.DATA_IN.now bs) blocks_in
    (or_else (after words.DATA_OUT.now bs) blocks_out
    (or_else (after words.REGISTER.now bs) register_in (if is_word words.WAIT.now bs then Some requests.Wait else None))))

-- the last line of a host
abbrev pub is_last : List ℕ → Bool
is_last text = is_word words.DONE.now text || is_some (after words.FAULT.now text)

-- an index has 6 bits, and a register 512 bytes at most
abbrev pub IsInRange : Request → Type 0
IsInRange (requests.Exchange command expect) = command.index < 64
IsInRange (requests.Register count lines) = count ≤ 512
IsInRange request = Unit {0}

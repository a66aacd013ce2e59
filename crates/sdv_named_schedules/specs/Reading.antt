-- HOW A SCHEDULE BY NAME IS READ: line by line, each from left to right, or the first fault.
use Rattle.std.specs.Prelude.{ℕ, List, [], ◌∷◌, ◌++◌, length, take, drop, ◌+◌, ◌%◌, ◌==◌, ◌&&◌, ◌||◌, Bool, true, false, nat_lt, nat_le, codes, Option, Some, None, Result, Ok, Err, if◌then◌else◌}
use Rattle.sdv_behavior.specs.declared.behavior.Behavior.{Behavior}
use Rattle.sdv_behavior.specs.declared.mishap.Mishap.{Mishap}
use Rattle.sdv_behavior.specs.Schedules.{mishap_name, mishap_short_name}
use Rattle.sdv_behavior.specs.declared.mishap.TheConstants.{MISHAPS}
use Rattle.sdv_text.specs.Fronts.{Read, after, is_digit, run, number_after}
use Rattle.sdv_named_schedules.specs.declared.fault.ScheduleFault.{ScheduleFault}
use Rattle.sdv_named_schedules.specs.declared.fault.ScheduleFault.TheVariants.{Event, Mishap as NoMishap, Many}
use Rattle.sdv_named_schedules.specs.declared.naming.EventName.{EventName}
use Rattle.sdv_named_schedules.specs.declared.naming.EventName.TheVariants.{Line, Command, Application, Number}
use Rattle.sdv_named_schedules.specs.declared.naming.NamedMishap.{NamedMishap}

-- WHICH FILES are schedules by name: those with a letter

abbrev pub is_letter : ℕ → Bool
is_letter byte = (nat_le 65 byte && nat_le byte 90) || (nat_le 97 byte && nat_le byte 122)

-- STEPS

infixl 10 ◌>>=◌
abbrev pub ◌>>=◌ : {A B : Type 0} → Result A ScheduleFault → (A → Result B ScheduleFault) → Result B ScheduleFault
(Ok x) >>= f = f x
(Err fault) >>= f = Err fault

abbrev pub or_fault : {A : Type 0} → ScheduleFault → Option A → Result A ScheduleFault
or_fault fault None = Err fault
or_fault fault (Some x) = Ok x

abbrev pub or_else : {A : Type 0} → Option (List ℕ) → (List ℕ → A) → A → A
or_else None f other = other
or_else (Some rest) f other = f rest

abbrev pub and_then : {A B : Type 0} → Option A → (A → Option B) → Option B
and_then None f = None
and_then (Some x) f = f x

-- BLANKS and comments

abbrev pub is_blank : ℕ → Bool
is_blank byte = (byte == 32) || ((byte == 9) || (byte == 13))

abbrev pub skipped : List ℕ → List ℕ
skipped text = drop (run is_blank text) text

abbrev pub is_comment : List ℕ → Bool
is_comment [] = true
is_comment (byte ∷ bytes) = byte == 35

-- nothing follows but blanks and a comment
abbrev pub is_over : List ℕ → Bool
is_over text = is_comment (skipped text)

-- NUMBERS below 2 ^ 32, in one decimal digit or more

abbrev pub figure : (digits rest : List ℕ) → Read ℕ
figure digits rest =
    if nat_lt 0 (length digits) && nat_le (number_after 0 digits) 4294967295
    then Some (number_after 0 digits, rest) else None

unfoldable pub read_number : List ℕ → Read ℕ
read_number text = figure (take (run is_digit text) text) (drop (run is_digit text) text)

-- ORDINALS: a number with its suffix and a space; without one it is the first

abbrev pub last_suffix : (digit : ℕ) → List ℕ
last_suffix digit =
    if digit == 1 then codes "st "
    else (if digit == 2 then codes "nd " else (if digit == 3 then codes "rd " else codes "th "))

abbrev pub suffix_of : ℕ → List ℕ
suffix_of n = if nat_le 11 (n % 100) && nat_le (n % 100) 13 then codes "th " else last_suffix (n % 10)

abbrev pub ordinal_and : ℕ → List ℕ → Read ℕ
ordinal_and n rest = if n == 0 then None else or_else (after (suffix_of n) rest) (λ more. Some (n, more)) None

unfoldable pub read_ordinal : List ℕ → Read ℕ
read_ordinal text =
    if run is_digit text == 0 then Some (1, text)
    else and_then (read_number text) (λ n. ordinal_and n.0 n.1)

-- NAMES of events: the line of a statement, the index of a command, or the number of the event

abbrev pub small_index : ℕ × List ℕ → Read ℕ
small_index n = if nat_lt n.0 64 then Some n else None

unfoldable pub read_index : List ℕ → Read ℕ
read_index text = and_then (read_number text) small_index

unfoldable pub read_event : List ℕ → Read EventName
read_event text =
    or_else (after (codes "line ") text) (λ rest. and_then (read_number rest) (λ n. Some (Line n.0, n.1))) (
    or_else (after (codes "CMD") text) (λ rest. and_then (read_index rest) (λ n. Some (Command n.0, n.1))) (
    or_else (after (codes "ACMD") text) (λ rest. and_then (read_index rest) (λ n. Some (Application n.0, n.1))) (
    or_else (after (codes "event ") text) (λ rest. and_then (read_number rest) (λ n. Some (Number n.0, n.1))) None)))

-- MISHAPS: by the names of the table, each for the number of its row

-- a name, and nothing follows but blanks and a comment
abbrev pub is_said : (name text : List ℕ) → Bool
is_said name text = or_else (after name text) is_over false

abbrev pub is_named : Mishap → List ℕ → Bool
is_named mishap text = is_said (mishap_name mishap) text || is_said (mishap_short_name mishap) text

-- the number of the first row that the text names, where the first one has this number
abbrev pub value_named : (number : ℕ) → List (Mishap × Behavior) → List ℕ → Option ℕ
value_named number [] text = None
value_named number (row ∷ rows) text =
    if is_named row.0 text then Some number else value_named (number + 1) rows text

abbrev pub read_mishap : List ℕ → Option ℕ
read_mishap text = value_named 1 MISHAPS text

-- A LINE, which begins with no blank

unfoldable pub read_line : (number : ℕ) → List ℕ → Result NamedMishap ScheduleFault
read_line number text =
    or_fault (Event number) (read_ordinal text) >>= λ ordinal.
    or_fault (Event number) (read_event ordinal.1) >>= λ event.
    or_fault (Event number) (after (codes ":") event.1) >>= λ rest.
    or_fault (NoMishap number) (read_mishap (skipped rest)) >>= λ code.
    Ok (record { line = number; ordinal = ordinal.0; event = event.0; code = code })

-- A TEXT

-- mishaps before others
abbrev pub with_front : List NamedMishap → Result (List NamedMishap) ScheduleFault
    → Result (List NamedMishap) ScheduleFault
with_front front (Ok mishaps) = Ok (front ++ mishaps)
with_front front (Err fault) = Err fault

abbrev pub mishap_then : Result NamedMishap ScheduleFault → (more : Result (List NamedMishap) ScheduleFault)
    → Result (List NamedMishap) ScheduleFault
mishap_then (Ok mishap) more = with_front (mishap ∷ []) more
mishap_then (Err fault) more = Err fault

-- a line names a mishap, or nothing is on it; then what the lines behind it name
abbrev pub line_then : (number : ℕ) → (line : List ℕ) → (more : Result (List NamedMishap) ScheduleFault)
    → Result (List NamedMishap) ScheduleFault
line_then number line more =
    if is_over line then more else mishap_then (read_line number (skipped line)) more

-- The bytes from a place on, where `line` stands before them in the line with the number. A line ends at a line feed, the
-- last one also without.
abbrev pub read_from : (number : ℕ) → (line : List ℕ) → List ℕ → Result (List NamedMishap) ScheduleFault
read_from number line [] = line_then number line (Ok [])
read_from number line (byte ∷ bytes) =
    if byte == 10 then line_then number line (read_from (number + 1) [] bytes)
    else read_from number (line ++ byte ∷ []) bytes

-- at most 64 mishaps
abbrev pub limited : Result (List NamedMishap) ScheduleFault → Result (List NamedMishap) ScheduleFault
limited (Ok mishaps) = if nat_le (length mishaps) 64 then Ok mishaps else Err Many
limited (Err fault) = Err fault

abbrev pub reading : (bytes : List ℕ) → Result (List NamedMishap) ScheduleFault
reading bytes = limited (read_from 1 [] bytes)

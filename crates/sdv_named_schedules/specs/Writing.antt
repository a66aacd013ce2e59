-- HOW A SCHEDULE IS WRITTEN: as digits, where each value has one; or else by name, a line for each mishap.
use Rattle.std.specs.Prelude.{ℕ, suc, List, [], ◌∷◌, ◌++◌, ◌+◌, ◌==◌, ◌||◌, Bool, map, nat_le, codes, decimal, Option, Some, None, if◌then◌else◌}
use Rattle.std.specs.List.{list_all}
use Rattle.sdv_behavior.specs.declared.mishap.Mishap.{Mishap}
use Rattle.sdv_behavior.specs.Schedules.{mishap_name, mishap_of_code}

-- DIGITS: those from 0 to 7 have a value, and 9 has none

abbrev pub has_digits : (values : List ℕ) → Bool
has_digits values = list_all (λ value. nat_le value 7) values

abbrev pub digit_of : (value : ℕ) → ℕ
digit_of value = if nat_le value 7 then 48 + value else 57

-- NAMES: the number of the event, and the words of the mishap

-- none where no mishap has the value
abbrev pub name_in : Option Mishap → List ℕ
name_in None = []
name_in (Some mishap) = mishap_name mishap

abbrev pub words_of : (value : ℕ) → List ℕ
words_of value = name_in (mishap_of_code value)

abbrev pub event_line : (number value : ℕ) → List ℕ
event_line number value =
    if value == 0 then []
    else (codes "event " ++ (decimal number ++ codes ": ")) ++ (words_of value ++ codes "\n")

-- of the events from this number on
abbrev pub event_lines : (number : ℕ) → (values : List ℕ) → List ℕ
event_lines number [] = []
event_lines number (value ∷ values) = event_line number value ++ event_lines (number + 1) values

-- THE TEXT

abbrev pub schedule_text : (values : List ℕ) → List ℕ
schedule_text values = if has_digits values then map digit_of values else event_lines 1 values

-- how many of the values are mishaps
abbrev pub mishaps_in : (values : List ℕ) → ℕ
mishaps_in [] = 0
mishaps_in (value ∷ values) = if value == 0 then mishaps_in values else suc (mishaps_in values)

-- a file can have the text: one by name has at most 64 mishaps
abbrev pub fits_file : (values : List ℕ) → Bool
fits_file values = has_digits values || nat_le (mishaps_in values) 64

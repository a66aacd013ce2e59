-- What a number in words is: decimal digits, or 0x and hexadecimal digits of either case.
use Rattle.std.specs.Prelude.{ℕ, List, codes, drop, if◌then◌else◌, nat_eq}
use Rattle.std.specs.List.{starts_with}
use Rattle.std.specs.Str.Parse.{IsNumeral, digits_value}

-- the base that a text is written in, and its digits
abbrev pub base_of : List ℕ → ℕ
base_of text = if starts_with nat_eq text (codes "0x") then 16 else 10

abbrev pub digits_of : List ℕ → List ℕ
digits_of text = if starts_with nat_eq text (codes "0x") then drop 2 text else text

-- the text is one digit or more, and nothing else
abbrev pub IsNumber : List ℕ → Type 0
IsNumber text = IsNumeral (base_of text) (digits_of text)

-- the number that the text writes
abbrev pub value_of : List ℕ → ℕ
value_of text = digits_value (base_of text) (digits_of text)

-- THE LINES of a description, one after another: what each is to say, and what the one behind it is to say.
use Rattle.std.specs.Prelude.{ℕ, ◌==◌, Bool, ◌&&◌, nat_lt, nat_le, length, codes, Option, Some, None, option_map, if◌then◌else◌}
use Rattle.std.specs.List.{list_all}
use Rattle.sdv_text.specs.Fronts.{◌>>=◌, after, is_digit, is_word, number_after}
use Rattle.sdv_explain.specs.declared.describing.field.Field.{Field}
use Rattle.sdv_explain.specs.declared.describing.field.Field.TheVariants as field
use Rattle.sdv_telling.specs.Statements.{Text}

-- the number that a text is, if it is digits alone, and the number is within bounds
abbrev pub are_number : (least most : ℕ) → Text → Bool
are_number least most text =
    nat_lt 0 (length text) && list_all is_digit text && nat_le least (number_after 0 text) && nat_le (number_after 0 text) most

abbrev pub number_within : (least most : ℕ) → Text → Option ℕ
number_within least most text = if are_number least most text then Some (number_after 0 text) else None

-- the number of a line, behind its word and a space
abbrev pub number_on : (word : Text) → (least most : ℕ) → Text → Option ℕ
number_on word least most line = after word line >>= number_within least most

-- what follows a line with such a number
abbrev pub behind : (word : Text) → (least most : ℕ) → Field → Text → Option Field
behind word least most next line = option_map (λ n. next) (number_on word least most line)

-- what follows a line with the unit, by what the unit is
abbrev pub behind_unit : (bytes : Field) → (blocks : Option Field) → Text → Option Field
behind_unit bytes blocks line =
    if is_word (codes "unit byte") line then Some bytes
    else (if is_word (codes "unit block") line then blocks else None)

-- a card of version 1 has byte addresses
abbrev pub unit_of_version : ℕ → Field
unit_of_version version = if version == 1 then field.ByteUnit else field.Unit

abbrev pub behind_version : Text → Option Field
behind_version line = option_map unit_of_version (number_on (codes "version ") 1 2 line)

abbrev pub behind_card : Text → Option Field
behind_card line =
    if is_word (codes "card sd") line then Some field.Version
    else (if is_word (codes "card emmc") line then Some field.DeviceUnit else None)

-- what the line behind is to say, if a line says what it is to
abbrev pub next_field : Field → Text → Option Field
next_field field.Card line = behind_card line
next_field field.Version line = behind_version line
next_field field.ByteUnit line = behind_unit field.Size None line
next_field field.Unit line = behind_unit field.Size (Some field.BlockSize) line
next_field field.DeviceUnit line = behind_unit field.DeviceSize (Some field.Sectors) line
next_field field.Size line = behind (codes "csize ") 0 4095 field.Mult line
next_field field.DeviceSize line = behind (codes "csize ") 0 4095 field.DeviceMult line
next_field field.Mult line = behind (codes "cmult ") 0 7 field.Length line
next_field field.DeviceMult line = behind (codes "cmult ") 0 7 field.DeviceLength line
next_field field.Length line = behind (codes "rbl ") 9 11 field.Rca line
next_field field.DeviceLength line = behind (codes "rbl ") 9 11 field.Boot line
next_field field.BlockSize line = behind (codes "csize ") 0 4194303 field.Rca line
next_field field.Rca line = behind (codes "rca ") 1 65535 field.End line
next_field field.Sectors line = behind (codes "sectors ") 1 4294967295 field.Boot line
next_field field.Boot line = behind (codes "boot ") 0 255 field.End line
next_field field.End line = None

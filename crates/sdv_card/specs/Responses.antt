-- How each row is answered, and the index that an answer repeats.
-- SD Physical Layer Simplified Specification, sections 4.7.4 and 4.9; JESD84-B51, sections 6.10.4 and 6.12.
use Rattle.std.specs.Prelude.{ℕ}
use Rattle.sdv_card.specs.declared.command.Response.{Response}
use Rattle.sdv_card.specs.declared.command.Response.TheVariants.{Absent, NotAddressed, CardStatus, NewAddress, Contents, Conditions}
use Rattle.sdv_card.specs.declared.command.Row.{Row}
use Rattle.sdv_card.specs.declared.command.Row.TheVariants.{Cmd0, Cmd1, Cmd2, Cmd3Sd, Cmd3Emmc, Cmd6, Cmd7Addressed, Cmd7NotAddressed, Cmd8Sd, Cmd8Emmc, Cmd9, Cmd10, Cmd12, Cmd13, Cmd16, Cmd17, Cmd18, Cmd23, Cmd24, Cmd25, Cmd32, Cmd33, Cmd35, Cmd36, Cmd38, Cmd55, Acmd6, Acmd13, Acmd41, Acmd51}

abbrev pub response_of : Row → Response
response_of Cmd0 = Absent
response_of Cmd1 = Conditions
response_of Cmd2 = Contents
response_of Cmd3Sd = NewAddress
response_of Cmd7NotAddressed = NotAddressed
response_of Cmd8Sd = Contents
response_of Cmd9 = Contents
response_of Cmd10 = Contents
response_of (Acmd41 high) = Conditions
response_of row = CardStatus

-- the index of the command in a row
abbrev pub row_index : Row → ℕ
row_index Cmd0 = 0
row_index Cmd1 = 1
row_index Cmd2 = 2
row_index Cmd3Sd = 3
row_index Cmd3Emmc = 3
row_index (Cmd6 setting) = 6
row_index Cmd7Addressed = 7
row_index Cmd7NotAddressed = 7
row_index Cmd8Sd = 8
row_index Cmd8Emmc = 8
row_index Cmd9 = 9
row_index Cmd10 = 10
row_index Cmd12 = 12
row_index Cmd13 = 13
row_index Cmd16 = 16
row_index Cmd17 = 17
row_index (Cmd18 n) = 18
row_index (Cmd23 n) = 23
row_index Cmd24 = 24
row_index (Cmd25 n) = 25
row_index Cmd32 = 32
row_index Cmd33 = 33
row_index Cmd35 = 35
row_index Cmd36 = 36
row_index Cmd38 = 38
row_index Cmd55 = 55
row_index (Acmd6 width) = 6
row_index Acmd13 = 13
row_index (Acmd41 high) = 41
row_index Acmd51 = 51

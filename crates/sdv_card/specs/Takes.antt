-- How a card takes a command: by its application flag, and by whether the command has its relative card address.
-- SD Physical Layer Simplified Specification, sections 4.3.9 (application-specific commands) and 4.7.4;
-- JESD84-B51, section 6.10.4. That an e.MMC device has no application flag is a rule of its cards.
use Rattle.std.specs.Prelude.{◌==◌, Bool, true, false, ℕ, Option, Some, None}
use Rattle.sdv_card.specs.declared.command.Order.{Order}
use Rattle.sdv_card.specs.declared.command.Order.TheVariants.{GoIdleState, SendOpCond, AllSendCid, SendRelativeAddress, SetRelativeAddress, SetBusWidth, Switch, SelectCard, DeselectCards, SendIfCond, SendExtCsd, SendCsd, SendCid, StopTransmission, SendStatus, SetBlockLength, ReadSingleBlock, ReadMultipleBlock, SetBlockCount, WriteBlock, WriteMultipleBlock, EraseBlockStart, EraseBlockEnd, EraseGroupStart, EraseGroupEnd, Erase, SdSendOpCond, SendScr, AppCommand}
use Rattle.sdv_card.specs.declared.command.Row.TheVariants.{Cmd0, Cmd1, Cmd2, Cmd3Sd, Cmd3Emmc, Cmd6, Cmd7Addressed, Cmd7NotAddressed, Cmd8Sd, Cmd8Emmc, Cmd9, Cmd10, Cmd12, Cmd13, Cmd16, Cmd17, Cmd18, Cmd23, Cmd24, Cmd25, Cmd32, Cmd33, Cmd35, Cmd36, Cmd38, Cmd55, Acmd6, Acmd13, Acmd41, Acmd51}
use Rattle.sdv_card.specs.declared.command.TakenAs.{TakenAs}
use Rattle.sdv_card.specs.declared.command.TakenAs.TheVariants.{Forbidden, Ignored, By}

-- The rule of the application flag is tried before that of the address.
abbrev pub taken_as_of : Order → Bool → Bool → TakenAs
--          command                 flag  address
taken_as_of GoIdleState app matched = By Cmd0
taken_as_of AppCommand app true = By Cmd55
taken_as_of AppCommand app false = Ignored
taken_as_of SendStatus true matched = By Acmd13
taken_as_of (SdSendOpCond high) true matched = By (Acmd41 high)
taken_as_of SendScr true matched = By Acmd51
taken_as_of (SetBusWidth width) true matched = By (Acmd6 width)
taken_as_of order true matched = Forbidden
taken_as_of (SdSendOpCond high) false matched = Forbidden
taken_as_of SendScr false matched = Forbidden
taken_as_of (SetBusWidth width) false matched = Forbidden
taken_as_of SendOpCond false matched = By Cmd1
taken_as_of AllSendCid false matched = By Cmd2
taken_as_of SendRelativeAddress false matched = By Cmd3Sd
taken_as_of SetRelativeAddress false matched = By Cmd3Emmc
taken_as_of (Switch setting) false matched = By (Cmd6 setting)
taken_as_of SelectCard false true = By Cmd7Addressed
taken_as_of SelectCard false false = By Cmd7NotAddressed
taken_as_of DeselectCards false matched = By Cmd7NotAddressed
taken_as_of SendIfCond false matched = By Cmd8Sd
taken_as_of SendExtCsd false matched = By Cmd8Emmc
taken_as_of SendCsd false true = By Cmd9
taken_as_of SendCsd false false = Ignored
taken_as_of SendCid false true = By Cmd10
taken_as_of SendCid false false = Ignored
taken_as_of StopTransmission false matched = By Cmd12
taken_as_of SendStatus false true = By Cmd13
taken_as_of SendStatus false false = Ignored
taken_as_of SetBlockLength false matched = By Cmd16
taken_as_of ReadSingleBlock false matched = By Cmd17
taken_as_of (ReadMultipleBlock n) false matched = By (Cmd18 n)
taken_as_of (SetBlockCount n) false matched = By (Cmd23 n)
taken_as_of WriteBlock false matched = By Cmd24
taken_as_of (WriteMultipleBlock n) false matched = By (Cmd25 n)
taken_as_of EraseBlockStart false matched = By Cmd32
taken_as_of EraseBlockEnd false matched = By Cmd33
taken_as_of EraseGroupStart false matched = By Cmd35
taken_as_of EraseGroupEnd false matched = By Cmd36
taken_as_of Erase false matched = By Cmd38

-- the card has no relative card address, or this one
abbrev pub matches : Option ℕ → ℕ → Bool
matches None address = true
matches (Some rca) address = rca == address

-- What a row leaves of each part of a card, one rule a part, and the conditions under which a row is legal.
-- SD Physical Layer Simplified Specification, sections 4.2.3, 4.3.3 to 4.3.5 and 4.3.9; JESD84-B51, sections 6.4,
-- 6.6 and 6.10.4. All rules of the preset count, and what follows a loss, are this project's profile.
-- Each rule gives the list of all that may stand there afterwards, or the one value.
use Rattle.std.specs.Prelude.{◌==◌, ◌||◌, Bool, true, false, ℕ, List, [], ◌∷◌, filter, if◌then◌else◌}
use Rattle.sdv_registers.specs.declared.kind.Kind.{Kind}
use Rattle.sdv_registers.specs.declared.kind.Kind.TheVariants.{Sd, Emmc}
use Rattle.sdv_card.specs.declared.state.State.{State}
use Rattle.sdv_card.specs.declared.state.State.TheVariants.{Ready, Ident}
use Rattle.sdv_card.specs.declared.state.Transfer.{Transfer}
use Rattle.sdv_card.specs.declared.state.Transfer.TheVariants.{Nothing, ReadDue, OpenReadDue, ScrDue, SdStatusDue, ExtCsdDue, WriteDue, OpenWriteDue}
use Rattle.sdv_card.specs.declared.state.EraseStage.{EraseStage}
use Rattle.sdv_card.specs.declared.state.EraseStage.TheVariants.{Outside, Begun, Both}
use Rattle.sdv_card.specs.declared.state.Mode.{Mode}
use Rattle.sdv_card.specs.declared.command.Setting.TheVariants.{Lines, Access}
use Rattle.sdv_card.specs.declared.command.Row.{Row}
use Rattle.sdv_card.specs.declared.command.Row.TheVariants.{Cmd0, Cmd3Sd, Cmd3Emmc, Cmd6, Cmd8Emmc, Cmd12, Cmd13, Cmd16, Cmd17, Cmd18, Cmd23, Cmd24, Cmd25, Cmd32, Cmd33, Cmd35, Cmd36, Cmd38, Cmd55, Acmd6, Acmd13, Acmd41, Acmd51}
use Rattle.sdv_card.specs.Modes.{first_mode, calm, failed, set, mode_told, has_partition}
use Rattle.sdv_card.specs.StateTable.{rows, targets}

-- STATE. A block-addressed SD card does not go to ready for a host that cannot work with block addresses.
abbrev pub may_reach : Row → Bool → State → Bool
may_reach (Acmd41 false) true Ready = false
may_reach row block_unit target = true

-- the states after a row, by the card's unit and its state
abbrev pub states_after : Kind → Row → Bool → State → List State
states_after k row block_unit from = filter (may_reach row block_unit) (targets (rows k row) from)

-- APPLICATION FLAG. CMD55 may set it; every command that arrives clears it.
abbrev pub app_after : Row → List Bool
app_after Cmd55 = false ∷ true ∷ []
app_after row = false ∷ []

-- ERASE STAGE. The first command begins the sequence, the second completes it, and every command but index 13 ends it.
abbrev pub erase_after : Row → EraseStage → EraseStage
erase_after Cmd13 erase = erase
erase_after Acmd13 erase = erase
erase_after Cmd32 erase = Begun
erase_after Cmd35 erase = Begun
erase_after Cmd33 erase = Both
erase_after Cmd36 erase = Both
erase_after row erase = Outside

-- of a card that stayed: as it was, or ended, unless the index is 13
abbrev pub erase_stayed : Row → EraseStage → List EraseStage
erase_stayed Cmd13 erase = erase ∷ []
erase_stayed Acmd13 erase = erase ∷ []
erase_stayed row erase = erase ∷ Outside ∷ []

-- PRESET COUNT. An SD card has none; an e.MMC device keeps or forgets it.
abbrev pub preset_kept : Kind → ℕ → List ℕ
preset_kept Sd preset = preset ∷ []
preset_kept Emmc preset = preset ∷ 0 ∷ []

-- CMD23 sets it; CMD0, CMD18 and CMD25 end it; any other command keeps or forgets it
abbrev pub preset_after : Kind → Row → ℕ → List ℕ
preset_after k Cmd0 preset = 0 ∷ []
preset_after k (Cmd18 n) preset = 0 ∷ []
preset_after k (Cmd23 n) preset = n ∷ []
preset_after k (Cmd25 n) preset = 0 ∷ []
preset_after k row preset = preset_kept k preset

-- BLOCK LENGTH, whether it is 512: CMD0 leaves a byte-addressed card any length, a block-addressed card has 512
abbrev pub length_after : Row → (block_unit length_512 : Bool) → List Bool
length_after Cmd0 true length_512 = true ∷ []
length_after Cmd0 false length_512 = false ∷ true ∷ []
length_after Cmd16 block_unit length_512 = true ∷ []
length_after row block_unit length_512 = length_512 ∷ []

-- MATCH of the card's relative address and the host's; a host that heard the answer saw the address that an SD card
-- chose
abbrev pub matched_after : Row → (heard matched : Bool) → List Bool
matched_after Cmd0 heard matched = true ∷ []
matched_after Cmd3Sd true matched = true ∷ []
matched_after Cmd3Sd false matched = false ∷ true ∷ []
matched_after Cmd3Emmc heard matched = true ∷ []
matched_after row heard matched = matched ∷ []

-- of a card that stayed, where the host took the number that it was shown for the card's address
abbrev pub matched_stayed : State → List Bool
matched_stayed Ident = true ∷ []
matched_stayed state = false ∷ true ∷ []

-- MODE. CMD0 begins anew; ACMD6 sets the width; CMD6 sets its value, or leaves an error pending; CMD13 tells the error;
-- every other command ends it. heard: the host heard the answer.
abbrev pub mode_after : Row → (heard : Bool) → State → Mode → List Mode
mode_after Cmd0 heard from mode = first_mode ∷ []
mode_after (Acmd6 width) heard from mode = calm (set (Lines width) mode) ∷ []
mode_after (Cmd6 setting) heard from mode = calm (set setting mode) ∷ failed mode ∷ []
mode_after Cmd13 heard from mode = mode_told heard from mode
mode_after row heard from mode = calm mode ∷ []

-- of a card that stayed
abbrev pub mode_stayed : Row → (heard : Bool) → State → Mode → List Mode
mode_stayed Cmd13 heard from mode = mode_told heard from mode
mode_stayed row heard from mode = calm mode ∷ []

-- access to a boot partition that has no blocks always fails
abbrev pub may_switch : Row → (boot_capacity : ℕ) → (fails : Bool) → Bool
may_switch (Cmd6 (Access partition)) boot_capacity fails = fails || has_partition partition boot_capacity
may_switch row boot_capacity fails = true

-- TRANSFER. A preset count bounds what would be open.
abbrev pub counted : ℕ → Transfer → Transfer → Transfer
counted preset with_count without = if preset == 0 then without else with_count

abbrev pub transfer_after : Row → ℕ → Transfer → Transfer
transfer_after Cmd0 preset transfer = Nothing
transfer_after Cmd8Emmc preset transfer = ExtCsdDue
transfer_after Cmd12 preset transfer = Nothing
transfer_after Cmd17 preset transfer = ReadDue
transfer_after (Cmd18 n) preset transfer = counted preset ReadDue OpenReadDue
transfer_after Cmd24 preset transfer = WriteDue
transfer_after (Cmd25 n) preset transfer = counted preset WriteDue OpenWriteDue
transfer_after Acmd13 preset transfer = SdStatusDue
transfer_after Acmd51 preset transfer = ScrDue
transfer_after row preset transfer = transfer

-- CONDITIONS. Block commands need block length 512.
abbrev pub length_allows : Row → Bool → Bool
length_allows Cmd17 length_512 = length_512
length_allows (Cmd18 n) length_512 = length_512
length_allows Cmd24 length_512 = length_512
length_allows (Cmd25 n) length_512 = length_512
length_allows row length_512 = true

-- the last block of an erase is set right after the first, and the erase follows right after both
abbrev pub erase_allows : Row → EraseStage → Bool
erase_allows Cmd33 Begun = true
erase_allows Cmd33 erase = false
erase_allows Cmd36 Begun = true
erase_allows Cmd36 erase = false
erase_allows Cmd38 Both = true
erase_allows Cmd38 erase = false
erase_allows row erase = true

-- after a preset count only that count may be announced
abbrev pub preset_allows : Row → ℕ → Bool
preset_allows (Cmd18 n) preset = (preset == 0) || (preset == n)
preset_allows (Cmd25 n) preset = (preset == 0) || (preset == n)
preset_allows row preset = true

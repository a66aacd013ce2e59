-- How a simulated card answers a row.
-- SD Physical Layer Simplified Specification, section 4.9 (responses); JESD84-B51, section 6.12.
use Rattle.std.specs.Prelude.{Bool, true, false, not, ◌==◌, Option, Some, None, if◌then◌else◌, ◌&&◌}
use Rattle.sdv_registers.specs.declared.kind.Kind.TheVariants.{Sd, Emmc}
use Rattle.sdv_frames.specs.declared.reply.Reply.{Reply}
use Rattle.sdv_frames.specs.declared.reply.Reply.TheVariants.{R1, R2, R3, R6, R7}
use Rattle.sdv_card.specs.declared.command.Row.{Row}
use Rattle.sdv_card.specs.declared.command.Row.TheVariants.{Cmd0, Cmd1, Cmd2, Cmd3Sd, Cmd7NotAddressed, Cmd8Sd, Cmd9, Cmd10, Cmd13, Cmd55, Acmd6, Acmd13, Acmd41, Acmd51}
use Rattle.sdv_card.specs.Responses.{row_index}
use Rattle.sdv_behavior.specs.declared.card_desc.CardDesc.{CardDesc}
use Rattle.sdv_behavior.specs.Registers.{cid_of}
use Rattle.sdv_behavior.specs.declared.card_state.CardState.{CardState}
use Rattle.sdv_behavior.specs.declared.choice.Choice.{Choice}
use Rattle.sdv_behavior.specs.declared.behavior.StatusError.{StatusError}
use Rattle.sdv_behavior.specs.Words.{leaves_doubt, doubt_of, status_word, address_word, conditions_word}

-- the rows whose answer shows bit 5, where they were taken, and CMD55 not as an ordinary command
abbrev pub shows_app : Row → Bool
shows_app Cmd55 = true
shows_app (Acmd6 width) = true
shows_app Acmd13 = true
shows_app Acmd51 = true
shows_app row = false

-- the rows whose answer shows a pending switch error in bit 7
abbrev pub shows_switch : Row → Bool
shows_switch Cmd13 = true
shows_switch row = false

-- the error in a status: where one of an earlier write is pending, one that leaves a doubt
abbrev pub error_shown : StatusError → (pending : Bool) → StatusError
error_shown error pending = if pending then doubt_of error else error

-- the answer of a card that took the row at t, or stayed; none where it does not answer. app: bit 5 is set where the row
-- shows it
abbrev pub reply_of : CardDesc → Row → CardState → (app : Bool) → StatusError → Choice → Option Reply
reply_of d Cmd0 t app error choice = None
reply_of d Cmd1 t app error choice = Some (R3 (conditions_word Emmc d.block_unit choice.ready))
reply_of d Cmd2 t app error choice = Some (R2 (cid_of d.kind))
reply_of d Cmd3Sd t app error choice = Some (R6 (address_word choice.address t.state (leaves_doubt error)))
reply_of d Cmd7NotAddressed t app error choice = None
reply_of d Cmd8Sd t app error choice = if d.version == 2 then Some (R7 0x1aa) else None
reply_of d Cmd9 t app error choice = Some (R2 d.csd)
reply_of d Cmd10 t app error choice = Some (R2 (cid_of d.kind))
reply_of d (Acmd41 high) t app error choice = Some (R3 (conditions_word Sd d.block_unit choice.ready))
reply_of d row t app error choice =
    Some (R1 (row_index row) (status_word t.state (shows_app row && app)
    (shows_switch row && (t.mode.error && not choice.keeps_switch_error))
    (error_shown error t.unshown_error)))

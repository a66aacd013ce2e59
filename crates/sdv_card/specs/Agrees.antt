-- Which responses a card gives, by the settled card t before the row and the card u after it.
-- SD Physical Layer Simplified Specification, sections 4.9 (responses), 4.10.1 (card status), 4.2.3.1 (ACMD41) and 5.1
-- (OCR); JESD84-B51, sections 6.12, 6.13, 6.4 and 7.1. What a doubt leaves open is this project's profile. All bits of
-- which nothing is said here are free.
use Rattle.std.specs.Prelude.{◌≡◌, ◌<◌, ◌⊎◌, ◌%◌, ◌^◌, ◌&&◌, not, Bool, true, IsTrue, ℕ, Some, if◌then◌else◌}
use Rattle.sdv_registers.specs.Status.{state as state_field, is_switch_error, is_app_cmd, rca as published_rca}
use Rattle.sdv_registers.specs.Ocr.{is_powered_up, ccs, access_mode, voltage_windows}
use Rattle.sdv_frames.specs.declared.reply.Reply.{Reply}
use Rattle.sdv_frames.specs.declared.reply.Reply.TheVariants.{R1, R2, R3, R6, R7}
use Rattle.sdv_card.specs.declared.state.State.TheVariants.{Tran}
use Rattle.sdv_card.specs.declared.command.Row.{Row}
use Rattle.sdv_card.specs.declared.command.Row.TheVariants.{Cmd1, Cmd2, Cmd8Sd, Cmd9, Cmd10, Cmd13, Cmd55}
use Rattle.sdv_card.specs.declared.command.Response.{Response}
use Rattle.sdv_card.specs.declared.command.Response.TheVariants.{CardStatus, NewAddress, Contents, Conditions}
use Rattle.sdv_card.specs.States.{state_number, is_ready}
use Rattle.sdv_card.specs.Responses.{row_index}
use Rattle.sdv_card.specs.ResponseStatus.{in_doubt}
use Rattle.sdv_card.specs.Card.{Card}
use Rattle.sdv_card.specs.Taken.{Taken, Stayed}

abbrev pub IsWord : ℕ → Type 0
IsWord word = word < 2 ^ 32

-- an error of an earlier write is shown, which ends it, or not yet; in transfer state it is shown
pub record ErrorShown (t : Card) (shown : Bool) (u : Card) : Type 0 where
  pub ends : u.unshown_error ≡ (t.unshown_error && not shown)
  pub must : t.state ≡ Tran → IsTrue t.unshown_error → IsTrue shown

-- the card took the row; or, if the response leaves a doubt, it stayed
abbrev pub TakenOrStayed : Row → ℕ → Card → Bool → Card → Type 0
TakenOrStayed row argument t doubt u = Taken row true argument t u ⊎ ((doubt ≡ true) × Stayed row true t u)

-- bit 5 of a response to CMD55 is the application flag of u
abbrev pub AppShown : Row → ℕ → Card → Type 0
AppShown Cmd55 word u = is_app_cmd word ≡ u.app
AppShown row word u = Unit {0}

-- bit 7 of a response to CMD13 tells whether a pending switch error ends
abbrev pub SwitchShown : Row → Card → ℕ → Card → Type 0
SwitchShown Cmd13 t word u = IsTrue t.mode.error → is_switch_error word ≡ not u.mode.error
SwitchShown row t word u = Unit {0}

-- R1: the index of the command, and the state in which it was received
pub record StatusAgrees (row : Row) (argument : ℕ) (t : Card) (index word : ℕ) (u : Card) : Type 0 where
  pub is_word : IsWord word
  pub same_index : index ≡ row_index row
  pub state : state_field word ≡ state_number t.state
  pub card : TakenOrStayed row argument t (in_doubt (R1 index word)) u
  pub app : AppShown row word u
  pub switch : SwitchShown row t word u
  pub error : ErrorShown t (in_doubt (R1 index word)) u

-- an SD card that took CMD3 shows its new relative address in bits 31..16
pub record Published (row : Row) (argument : ℕ) (t : Card) (word : ℕ) (u : Card) : Type 0 where
  pub card : Taken row true argument t u
  pub rca : Some (published_rca word) ≡ u.rca

-- R6: a card that stayed shows any number there
pub record AddressAgrees (row : Row) (argument : ℕ) (t : Card) (word : ℕ) (u : Card) : Type 0 where
  pub is_word : IsWord word
  pub state : state_field word ≡ state_number t.state
  pub card : Published row argument t word u ⊎ ((in_doubt (R6 word) ≡ true) × Stayed row true t u)
  pub error : t.unshown_error ≡ u.unshown_error

-- the unit in an OCR: bit 30 of an SD card; bits 30..29 of an e.MMC device, 10 for block and 00 for byte addresses
abbrev pub UnitShown : Row → ℕ → Bool → Type 0
UnitShown Cmd1 word block_unit = access_mode word ≡ (if block_unit then 2 else 0)
UnitShown row word block_unit = ccs word ≡ block_unit

-- R3: all voltage windows; ready exactly where the card goes to ready, and then with the unit
pub record ConditionsAgree (row : Row) (argument : ℕ) (t : Card) (word : ℕ) (u : Card) : Type 0 where
  pub is_word : IsWord word
  pub windows : voltage_windows word ≡ 511
  pub ready : is_powered_up word ≡ is_ready u.state
  pub unit : IsTrue (is_ready u.state) → UnitShown row word u.block_unit
  pub card : Taken row true argument t u
  pub error : t.unshown_error ≡ u.unshown_error

-- R7: bits 11..0 are those that the host sent; a card of version 1 has no response
pub record ConditionEchoed (t : Card) (word : ℕ) : Type 0 where
  pub is_word : IsWord word
  pub echo : word % 2 ^ 12 ≡ 0x1aa
  pub version : t.version ≡ 2

-- R2 holds the register that was asked for
abbrev pub ContentsShown : Row → Card → Reply → Type 0
ContentsShown Cmd2 t (R2 bytes) = bytes ≡ t.cid
ContentsShown Cmd8Sd t (R7 word) = ConditionEchoed t word
ContentsShown Cmd9 t (R2 bytes) = bytes ≡ t.csd
ContentsShown Cmd10 t (R2 bytes) = bytes ≡ t.cid
ContentsShown row t reply = ⊥

pub record ContentsAgree (row : Row) (argument : ℕ) (t : Card) (reply : Reply) (u : Card) : Type 0 where
  pub shown : ContentsShown row t reply
  pub card : Taken row true argument t u
  pub error : t.unshown_error ≡ u.unshown_error

-- the response is of the row's format, and fits it from t to u
abbrev pub Agrees : Response → Row → ℕ → Card → Reply → Card → Type 0
Agrees CardStatus row argument t (R1 index word) u = StatusAgrees row argument t index word u
Agrees NewAddress row argument t (R6 word) u = AddressAgrees row argument t word u
Agrees Conditions row argument t (R3 word) u = ConditionsAgree row argument t word u
Agrees Contents row argument t reply u = ContentsAgree row argument t reply u
Agrees response row argument t reply u = ⊥

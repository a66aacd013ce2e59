-- What becomes of a settled card that takes a row, and of one that was reached by the command and stayed.
-- SD Physical Layer Simplified Specification, sections 4.2.3, 4.3 and 4.8; JESD84-B51, sections 6.4, 6.6 and 6.11.
use Rattle.std.specs.Prelude.{◌≡◌, ◌<◌, ◌/◌, Bool, true, false, IsTrue, ℕ, Option, Some, None}
use Rattle.sdv_card.specs.declared.command.Row.{Row}
use Rattle.sdv_card.specs.declared.command.Row.TheVariants.{Cmd0, Cmd3Sd, Cmd3Emmc, Cmd16, Cmd17, Cmd18, Cmd24, Cmd25, Cmd38}
use Rattle.sdv_card.specs.Lists.{May}
use Rattle.sdv_card.specs.StateTable.{◌to◌, rows}
use Rattle.sdv_card.specs.RowRules.{may_reach, app_after, erase_after, erase_stayed, preset_after, preset_kept, transfer_after, mode_after, mode_stayed, may_switch}
use Rattle.sdv_card.specs.Card.{Card, AreBlocks, accessed_capacity, accessed_blocks, put_accessed}

-- what no step changes
pub record SameCard (t u : Card) : Type 0 where
  pub kind : t.kind ≡ u.kind
  pub version : t.version ≡ u.version
  pub block_unit : t.block_unit ≡ u.block_unit
  pub capacity : t.capacity ≡ u.capacity
  pub boot_capacity : t.boot_capacity ≡ u.boot_capacity
  pub csd : t.csd ≡ u.csd
  pub cid : t.cid ≡ u.cid
  pub ext_csd : t.ext_csd ≡ u.ext_csd
  pub scr : t.scr ≡ u.scr
  pub sd_status : t.sd_status ≡ u.sd_status

-- the block length: CMD0 leaves a byte-addressed card any, CMD16 sets 512
abbrev pub LengthAfter : Row → Bool → ℕ → ℕ → Type 0
LengthAfter Cmd0 true length after = after ≡ 512
LengthAfter Cmd0 false length after = Unit {0}
LengthAfter Cmd16 block_unit length after = after ≡ 512
LengthAfter row block_unit length after = length ≡ after

-- the relative address: an SD card chooses one that isn't 0, an e.MMC device is given 1
abbrev pub RcaAfter : Row → Option ℕ → Option ℕ → Type 0
RcaAfter Cmd0 rca after = None ≡ after
RcaAfter Cmd3Sd rca after = (n : ℕ) × (Some n ≡ after) × (0 < n) × (n < 65536)
RcaAfter Cmd3Emmc rca after = Some 1 ≡ after
RcaAfter row rca after = rca ≡ after

-- the block that an argument names, in the card's unit
abbrev pub block_of : Bool → ℕ → ℕ
block_of true argument = argument
block_of false argument = argument / 512

-- the transfer begins at the block that the argument names, with so many blocks announced
pub record Begins (argument count : ℕ) (u : Card) : Type 0 where
  pub block : block_of u.block_unit argument ≡ u.next_block
  pub count_is : count ≡ u.announced

pub record SameBlocks (t u : Card) : Type 0 where
  pub block : t.next_block ≡ u.next_block
  pub count_is : t.announced ≡ u.announced

abbrev pub BlocksAfter : Row → ℕ → Card → Card → Type 0
BlocksAfter Cmd17 argument t u = Begins argument 1 u
BlocksAfter (Cmd18 n) argument t u = Begins argument n u
BlocksAfter Cmd24 argument t u = Begins argument 1 u
BlocksAfter (Cmd25 n) argument t u = Begins argument n u
BlocksAfter row argument t u = SameBlocks t u

-- an erase may leave anything in any block in access, and changes no other
pub record Erased (t u : Card) : Type 0 where
  pub others : put_accessed t (accessed_blocks t u.contents) t.contents ≡ u.contents
  pub blocks : AreBlocks (accessed_capacity t) (accessed_blocks t u.contents)

-- the contents: an erase alone changes them
abbrev pub ContentsAfter : Row → Card → Card → Type 0
ContentsAfter Cmd38 t u = Erased t u
ContentsAfter row t u = t.contents ≡ u.contents

-- u is t after the row; heard: the host heard the answer, or there is none. Whether an error of a write is still to be
-- shown depends on the answer, and is said there.
pub record Taken (row : Row) (heard : Bool) (argument : ℕ) (t u : Card) : Type 0 where
  pub same : SameCard t u
  pub state : May (rows t.kind row) (t.state to u.state)
  pub reached : IsTrue (may_reach row t.block_unit u.state)
  pub app : May (app_after row) u.app
  pub erase : erase_after row t.erase ≡ u.erase
  pub block_length : LengthAfter row t.block_unit t.block_length u.block_length
  pub preset : May (preset_after t.kind row t.preset) u.preset
  pub rca : RcaAfter row t.rca u.rca
  pub transfer : transfer_after row t.preset t.transfer ≡ u.transfer
  pub mode : May (mode_after row heard t.state t.mode) u.mode
  pub switched : IsTrue (may_switch row t.boot_capacity u.mode.error)
  pub blocks : BlocksAfter row argument t u
  pub contents : ContentsAfter row t u

-- u is t, which did not take the row: it lost the application flag, and perhaps its erase stage and preset count
pub record Stayed (row : Row) (heard : Bool) (t u : Card) : Type 0 where
  pub same : SameCard t u
  pub state : t.state ≡ u.state
  pub app : false ≡ u.app
  pub erase : May (erase_stayed row t.erase) u.erase
  pub block_length : t.block_length ≡ u.block_length
  pub preset : May (preset_kept t.kind t.preset) u.preset
  pub rca : t.rca ≡ u.rca
  pub transfer : t.transfer ≡ u.transfer
  pub mode : May (mode_stayed row heard t.state t.mode) u.mode
  pub blocks : SameBlocks t u
  pub contents : t.contents ≡ u.contents

-- Data phases and waits: what a card sends and stores, and where it is afterwards.
-- SD Physical Layer Simplified Specification, sections 4.3.3 (data read), 4.3.4 (data write) and 4.10.2 (SD status);
-- JESD84-B51, sections 6.6 and 7.4. What a cut phase and a wait leave is this project's profile.
use Rattle.std.specs.Prelude.{◌≡◌, ◌⊎◌, ◌+◌, Bool, true, false, ℕ, List, [], ◌∷◌, length, take, drop}
use Rattle.sdv_card.specs.declared.state.State.{State}
use Rattle.sdv_card.specs.declared.state.Place.{Place}
use Rattle.sdv_card.specs.declared.state.State.TheVariants.{Tran, Data, Rcv, Prg}
use Rattle.sdv_card.specs.declared.state.Transfer.{Transfer}
use Rattle.sdv_card.specs.declared.state.Transfer.TheVariants.{Nothing, ReadDue, OpenReadDue, ScrDue, SdStatusDue, ExtCsdDue, ReadOver, OpenReadOver, WriteDue, OpenWriteDue, WriteOver, OpenWriteOver}
use Rattle.sdv_card.specs.declared.answer.DataEnd.{DataEnd}
use Rattle.sdv_card.specs.declared.answer.DataEnd.TheVariants.{Ok, Cut}
use Rattle.sdv_card.specs.declared.answer.WaitEnd.{WaitEnd}
use Rattle.sdv_card.specs.declared.answer.WaitEnd.TheVariants.{Ok as Over, Late}
use Rattle.sdv_card.specs.Lists.{May}
use Rattle.sdv_card.specs.Card.{Card, Block, Partitions, AreBlocks, accessed_capacity, accessed_blocks, put_accessed}

-- WHERE A CARD IS AFTERWARDS

infixl 40 ◌with◌
abbrev pub ◌with◌ : State → Transfer → Place
s with t = record { state = s; transfer = t }

-- the places after a phase, by the transfer that is due
abbrev pub after_phase : Transfer → DataEnd → List Place
after_phase ReadDue Ok = (Tran with Nothing) ∷ []
after_phase ReadDue Cut = (Data with ReadOver) ∷ (Tran with Nothing) ∷ []
after_phase OpenReadDue end = (Data with OpenReadOver) ∷ []
after_phase ScrDue Ok = (Tran with Nothing) ∷ []
after_phase ScrDue Cut = (Data with ReadOver) ∷ (Tran with Nothing) ∷ []
after_phase SdStatusDue Ok = (Tran with Nothing) ∷ []
after_phase SdStatusDue Cut = (Data with ReadOver) ∷ (Tran with Nothing) ∷ []
after_phase ExtCsdDue Ok = (Tran with Nothing) ∷ []
after_phase ExtCsdDue Cut = (Data with ReadOver) ∷ (Tran with Nothing) ∷ []
after_phase WriteDue Ok = (Prg with Nothing) ∷ []
after_phase WriteDue Cut = (Rcv with WriteOver) ∷ (Prg with Nothing) ∷ []
after_phase OpenWriteDue end = (Rcv with OpenWriteOver) ∷ []
after_phase transfer end = []

-- the states after a wait
abbrev pub after_wait : State → WaitEnd → List State
after_wait Tran end = Tran ∷ []
after_wait Prg Over = Tran ∷ []
after_wait Prg Late = Prg ∷ Tran ∷ []
after_wait state end = []

-- WHICH PHASE IS DUE

abbrev pub read_due : Transfer → Bool
read_due ReadDue = true
read_due OpenReadDue = true
read_due transfer = false

abbrev pub register_due : Transfer → Bool
register_due ScrDue = true
register_due SdStatusDue = true
register_due ExtCsdDue = true
register_due transfer = false

abbrev pub write_due : Transfer → Bool
write_due WriteDue = true
write_due OpenWriteDue = true
write_due transfer = false

-- a block phase is due, in either direction
abbrev pub blocks_due : Transfer → Bool
blocks_due ReadDue = true
blocks_due OpenReadDue = true
blocks_due WriteDue = true
blocks_due OpenWriteDue = true
blocks_due transfer = false

-- THE PHASES

-- u is c at another place
abbrev pub MovedTo : Card → Place → Card → Type 0
MovedTo c place u = record c { state = place.state; transfer = place.transfer } ≡ u

-- u is c at one of the places after a phase
pub record Moved (end : DataEnd) (c u : Card) : Type 0 where
  pub place : Place
  pub may : May (after_phase c.transfer end) place
  pub card : MovedTo c place u

-- the blocks that a transfer addresses
abbrev pub addressed : Card → Partitions → List Block
addressed c contents = take c.announced (drop c.next_block (accessed_blocks c contents))

-- a phase that ended well gives the contents, from the addressed block on
abbrev pub BlocksTrue : DataEnd → Card → List Block → Type 0
BlocksTrue Ok c blocks = blocks ≡ addressed c c.contents
BlocksTrue Cut c blocks = Unit {0}

pub record PhaseIn (count : ℕ) (end : DataEnd) (blocks : List Block) (c u : Card) : Type 0 where
  pub due : read_due c.transfer ≡ true
  pub size : length blocks ≡ count
  pub truth : BlocksTrue end c blocks
  pub moved : Moved end c u

-- the register that is due
abbrev pub due_register : Transfer → Card → List ℕ
due_register ScrDue c = c.scr
due_register SdStatusDue c = c.sd_status
due_register transfer c = c.ext_csd

-- the parts of a register that no switch changes: of an EXT_CSD all but PARTITION_CONFIG (179) and BUS_WIDTH (183)
abbrev pub fixed : Transfer → List ℕ → List (List ℕ)
fixed ExtCsdDue bytes = take 179 bytes ∷ take 3 (drop 180 bytes) ∷ drop 184 bytes ∷ []
fixed transfer bytes = bytes ∷ []

-- a phase that ended well gives the register's first bytes, as far as it reaches, and any bytes after it; those that a
-- switch changes are free
abbrev pub RegisterTrue : DataEnd → Transfer → List ℕ → List ℕ → Type 0
RegisterTrue Ok transfer register bytes =
    fixed transfer (take (length register) bytes) ≡ fixed transfer (take (length bytes) register)
RegisterTrue Cut transfer register bytes = Unit {0}

pub record PhaseInRegister (count : ℕ) (end : DataEnd) (bytes : List ℕ) (c u : Card) : Type 0 where
  pub due : register_due c.transfer ≡ true
  pub size : length bytes ≡ count
  pub truth : RegisterTrue end c.transfer (due_register c.transfer c) bytes
  pub moved : Moved end c u

-- of u's blocks, only those that c's transfer addresses are others than c's
pub record OnlyAddressed (c u : Card) : Type 0 where
  pub blocks : AreBlocks (accessed_capacity c) (accessed_blocks c u.contents)
  pub others : put_accessed c (accessed_blocks c u.contents) c.contents ≡ u.contents
  pub below : take c.next_block (accessed_blocks c c.contents) ≡ take c.next_block (accessed_blocks c u.contents)
  pub above : drop (c.next_block + c.announced) (accessed_blocks c c.contents)
      ≡ drop (c.next_block + c.announced) (accessed_blocks c u.contents)

pub record Stored (c : Card) (blocks : List Block) (u : Card) : Type 0 where
  pub stored : addressed c u.contents ≡ blocks
  pub error : c.unshown_error ≡ u.unshown_error

-- a phase that ended well stores the blocks, or leaves anything in them and an error that is still to be shown
abbrev pub StoredOrNot : DataEnd → Card → List Block → Card → Type 0
StoredOrNot Ok c blocks u = Stored c blocks u ⊎ (true ≡ u.unshown_error)
StoredOrNot Cut c blocks u = c.unshown_error ≡ u.unshown_error

-- u is c at one of the places after a phase, with contents and an error of its own
pub record MovedWriting (end : DataEnd) (c u : Card) : Type 0 where
  pub place : Place
  pub may : May (after_phase c.transfer end) place
  pub card : MovedTo (record c { contents = u.contents; unshown_error = u.unshown_error }) place u

pub record PhaseOut (blocks : List Block) (end : DataEnd) (c u : Card) : Type 0 where
  pub due : write_due c.transfer ≡ true
  pub others : OnlyAddressed c u
  pub stored : StoredOrNot end c blocks u
  pub moved : MovedWriting end c u

-- u is c after a wait
pub record WaitEnds (end : WaitEnd) (c u : Card) : Type 0 where
  pub state : State
  pub may : May (after_wait c.state end) state
  pub card : record c { state = state } ≡ u

-- `try --each SCRIPT CARD IMAGE [--card CARD].. [--in FILE] [--only wrong] [--json]`: how each run with one mishap ends, of the
-- script of a file.
use Rattle.std.specs.Prelude.{◌≡◌, ◌⊎◌, ◌*◌, ◌||◌, Bool, ℕ, zero, suc, List, [], Option, Some, None, length, replicate, slice_get}
use Rattle.std.specs.Borrow.{Bor}
use Rattle.std.specs.Io.KnownBytes.{Keeps}
use Rattle.clap.specs.Words.{Text}
use Rattle.sdv_card.specs.Card.{Block}
use Rattle.sdv_image.specs.declared.fault.SimFault.{SimFault}
use Rattle.sdv_behavior.specs.declared.card_desc.CardDesc.{CardDesc}
use Rattle.sdv_behavior.specs.Gives.{Describes, Refuses}
use Rattle.sdv_behavior.specs.Layout.{image_size}
use Rattle.sdv_refute.specs.declared.simulated.TryFault.{TryFault}
use Rattle.sdv_search.specs.Swept.{IsSweep, NotSwept}
use Rattle.sdv_search.specs.Table.{fails}
use Rattle.sdv_search.specs.declared.sweeping.SweepTable.{SweepTable}
use Rattle.sdv_program.specs.Requests.{SweepNames}
use Rattle.sdv_program.specs.Fault.{fault_of_try}
use Rattle.sdv_program.specs.declared.fault.Fault.{Fault}
use Rattle.sdv_program.specs.declared.fault.Fault.TheVariants.{File, Memory}
use Rattle.sdv_program.specs.Files.{Files}
use Rattle.sdv_program.specs.Outcomes.{Ending, NoText, OverText, Reports}
use Rattle.sdv_commands.specs.Report.{found_if}
use Rattle.sdv_commands.specs.Run.{GivesInput, GivesNoInput, IsNew, IsOfFile, blocks_of}

-- THE FILES

-- the bytes of an image: those of a file, or zeros where a new one is asked for
abbrev pub GivesBytes : Files → (name : Text) → (bytes : List ℕ) → Type 0
GivesBytes files name bytes =
    ((blocks : ℕ) × IsNew name blocks × (bytes ≡ replicate (blocks * 512) 0)) ⊎ (IsOfFile name × files.gives name bytes)

-- the file of an image was not read, or memory ran out
abbrev pub HasNoBytes : Files → (name : Bor Text) → Fault → Type 0
HasNoBytes files name fault = ((fault ≡ File name) × files.unread name.now) ⊎ (fault ≡ Memory)

abbrev pub NoImage : Files → (name : Text) → Option Fault → Type 0
NoImage files name None = ⊥
NoImage files name (Some fault) = (file : Bor Text) × (file.now ≡ name) × HasNoBytes files file fault

-- the blocks that the script gives were not read, or are no whole ones, or memory ran out
abbrev pub NoInput : Files → (input : Option Text) → Option Fault → Type 0
NoInput files input None = ⊥
NoInput files input (Some fault) =
    ((file : Bor Text) × (input ≡ Some file.now) × (fault ≡ File file) × GivesNoInput files file.now) ⊎ (fault ≡ Memory)

-- a command over bytes that may not be given: then nothing was printed
abbrev pub Over : (Missing : Option Fault → Type 0) (Gives : List ℕ → Type 0) (Ends : List ℕ → Ending) → Ending
Over Missing Gives Ends outcome before after =
    (Missing outcome × Keeps before after) ⊎ ((bytes : List ℕ) × Gives bytes × Ends bytes outcome before after)

-- zeros for all blocks of the card of a description; none where it gives no card
abbrev pub IsZerosFor : (card : Text) → (bytes : List ℕ) → Type 0
IsZerosFor card bytes =
    ((desc : CardDesc) × Describes card desc × (bytes ≡ replicate (image_size desc * 512) 0))
    ⊎ ((fault : SimFault) × Refuses card fault × (bytes ≡ []))

-- THE TABLES

-- why no run was made beside a card
abbrev pub IsUnswept : (script card image : Text) → Fault → Type 0
IsUnswept script card image fault = (why : TryFault) × NotSwept script card image why × (fault ≡ fault_of_try why)

-- All runs with one mishap were made beside the card of a file, over zeros.
abbrev pub IsSweptBeside : Files → (script : Text) → (input : List Block) → (file : Text) → SweepTable → Type 0
IsSweptBeside files script input file table =
    (card : Text) × files.gives file card × (image : List ℕ) × IsZerosFor card image × IsSweep script card image input table

-- why none was made
abbrev pub IsUnsweptBeside : Files → (script file : Text) → Fault → Type 0
IsUnsweptBeside files script file fault =
    NoText files file (Some fault)
    ⊎ ((card : Text) × files.gives file card × (image : List ℕ) × IsZerosFor card image × IsUnswept script card image fault)

-- of the further cards the one with this number: whether something was found up to it, and beside it
pub record IsNextSwept (files : Files) (script : Text) (input : List Block) (names : List Text) (n : ℕ) (before after : Bool)
    : Type 0 where
  pub file : Text
  pub named : slice_get names n ≡ Some file
  pub table : SweepTable
  pub swept : IsSweptBeside files script input file table
  pub found : after ≡ (before || fails table)

-- all runs were made beside the first n further cards, and whether something was found before, or beside one of them
abbrev pub SweptUpTo : Files → (script : Text) → (input : List Block) → (names : List Text) → (n : ℕ) → (before after : Bool)
    → Type 0
SweptUpTo files script input names zero before after = after ≡ before
SweptUpTo files script input names (suc n) before after =
    (found : Bool) × SweptUpTo files script input names n before found × IsNextSwept files script input names n found after

-- All runs with one mishap were made, beside the card over the image and beside each further one; the text tells of them, in
-- whichever words. It is reported where one of them, or a run without a mishap, comes to what is not allowed at its card, or
-- where a run without a mishap is stopped.
abbrev pub AreSwept : Files → (more_cards : List Text) → (script card image : Text) → (input : List Block)
    → (told : Option Fault) → (text : Text) → Type 0
AreSwept files more_cards script card image input told text =
    (first : SweepTable) × IsSweep script card image input first × (found : Bool)
    × SweptUpTo files script input more_cards (length more_cards) (fails first) found × (told ≡ found_if found)

-- why no table is printed: of the card, or of a further one
abbrev pub AreUnswept : Files → (more_cards : List Text) → (script card image : Text) → Fault → Type 0
AreUnswept files more_cards script card image fault =
    IsUnswept script card image fault
    ⊎ ((n : ℕ) × (file : Text) × (slice_get more_cards n ≡ Some file) × IsUnsweptBeside files script file fault)

-- THE COMMAND, over what the files gave
abbrev pub SweptEnds : Files → SweepNames → (script card image input : Text) → Ending
SweptEnds files names script card image input =
    Reports (AreSwept files names.more_cards script card image (blocks_of input))
    (AreUnswept files names.more_cards script card image)

abbrev pub InputEnds : Files → SweepNames → (script card image : Text) → Ending
InputEnds files names script card image =
    Over (NoInput files names.input) (GivesInput files names.input) (SweptEnds files names script card image)

abbrev pub ImageEnds : Files → SweepNames → (script card : Text) → Ending
ImageEnds files names script card =
    Over (NoImage files names.image) (GivesBytes files names.image) (InputEnds files names script card)

abbrev pub SweepEnds : Files → SweepNames → Ending
SweepEnds files names = OverText files names.script (λ script. OverText files names.card (λ card.
    ImageEnds files names script card))

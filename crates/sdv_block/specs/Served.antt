-- What a run of a batch did, beside what a plain disk does.
use Rattle.std.specs.Prelude.{◌≡◌, ◌⊎◌, ◌<◌, List, [], ◌∷◌, ◌++◌, codes, false}
use Rattle.std.specs.Str.{bytes_eq}
use Rattle.sdv_card.specs.declared.answer.DataEnd.TheVariants as ends
use Rattle.sdv_card.specs.Card.{Card, Block}
use Rattle.sdv_card.specs.ScriptEvent.{Return, BlocksIn}
use Rattle.sdv_card.specs.Step.{Step}
use Rattle.sdv_graph.specs.Walk.{Pair, Ending, Finished, Failed, Open, given}
use Rattle.sdv_facts.specs.Beside.{IsAllowed}
use Rattle.sdv_block.specs.Disk.{Disk, after_batch, AllServed, SameOutside, HasRead, greatest_end}
use Rattle.sdv_block.specs.declared.request.Request.{Request}

-- the events with what they returned are, in order, legal steps of one card in bounds
abbrev pub AllowedSteps : Card → List Pair → (last : Card) → Type 0
AllowedSteps c [] last = c ≡ last
AllowedSteps c (p ∷ es) last = (u : Card) × IsAllowed p.0 c × Step p.0 c p.1 u × AllowedSteps u es last

-- the blocks of the phases that ended well
abbrev pub blocks_in : Return → List Block
blocks_in (BlocksIn ends.Ok blocks) = blocks
blocks_in returned = []

abbrev pub blocks_read : List Pair → List Block
blocks_read [] = []
blocks_read (p ∷ es) = blocks_in p.1 ++ blocks_read es

-- not yet, or in a fault other than that of a disk that is too small
abbrev pub IsEarly : Ending → Type 0
IsEarly Open = Unit {0}
IsEarly (Failed name) = bytes_eq name (codes "beyond") ≡ false
IsEarly e = ⊥

-- the blocks of the disk that a card is: those of its user area
abbrev pub disk_blocks : Card → List Block
disk_blocks c = c.contents.user

-- the boot partitions, which no batch reaches, hold what they held
pub record SameBoot (c last : Card) : Type 0 where
  pub boot_1 : c.contents.boot_1 ≡ last.contents.boot_1
  pub boot_2 : c.contents.boot_2 ≡ last.contents.boot_2

-- that disk, with what is left of an input
abbrev pub disk_of : Card → (input output : List Block) → Disk
disk_of c input output = record { blocks = disk_blocks c; input = input; output = output }

-- The walk ended in `done`, and reached what the plain disk reaches; or it ended earlier, and read
-- no more than that disk.
abbrev pub EndsAs : Ending → (reached served : Disk) → Type 0
EndsAs Finished reached served = served ≡ reached
EndsAs e reached served = HasRead reached.output served

-- A walk of a batch from one card to another.
pub record Served (rs : List Request) (e : Ending) (es : List Pair) (c last : Card) : Type 0 where
  -- whatever was read before, and whatever is left of the input
  pub ends : (left output : List Block) →
      EndsAs e (disk_of last left (output ++ blocks_read es)) (after_batch rs (disk_of c (given es ++ left) output))
  -- it never finds the disk too small
  pub over : (e ≡ Finished) ⊎ IsEarly e
  -- in `done` each request was served
  pub all : e ≡ Finished → (left output : List Block) → AllServed rs (disk_of c (given es ++ left) output)
  -- no block changed that the batch does not write
  pub outside : SameOutside rs (disk_blocks c) (disk_blocks last)
  pub boot : SameBoot c last

-- A walk of a whole batch, from a card in any state to another.
pub record ServedBatch (rs : List Request) (e : Ending) (es : List Pair) (c last : Card) : Type 0 where
  -- whatever is left of the input
  pub ends : (left : List Block) →
      EndsAs e (disk_of last left (blocks_read es)) (after_batch rs (disk_of c (given es ++ left) []))
  pub outside : SameOutside rs (disk_blocks c) (disk_blocks last)
  pub boot : SameBoot c last
  -- in the fault `beyond` only where a request passes the end of the disk
  pub beyond : e ≡ Failed (codes "beyond") → c.capacity < greatest_end rs

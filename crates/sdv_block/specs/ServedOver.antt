-- A run of a batch OVER A PORT that shows a card, beside what a plain disk does.
use Rattle.std.specs.Prelude.{◌≡◌, ◌<◌, List, [], Option, codes}
use Rattle.std.specs.List.{concat}
use Rattle.std.specs.Io.KnownBytes.{Appends}
use Rattle.sdv_card.specs.Card.{Card, Block}
use Rattle.sdv_card.specs.Port.{Shows}
use Rattle.sdv_graph.specs.Walk.{Ending, Failed}
use Rattle.sdv_run.specs.Step.{World}
use Rattle.sdv_block.specs.declared.request.Request.{Request}
use Rattle.sdv_block.specs.Disk.{after_batch, SameOutside, greatest_end}
use Rattle.sdv_block.specs.Served.{disk_blocks, disk_of, EndsAs, SameBoot}

pub record ServedOver {S : Type 0} (card : S → Option Card) (rs : List Request) (e : Ending) (c : Card)
    (w w' : World S) : Type 0 where
  -- the card that the port shows in the end
  pub last : Card
  pub shown : Shows card w'.port last
  -- the blocks that were written to the output
  pub read : List Block
  pub output : Appends w.out w'.out (concat read)
  -- in `done` the card, the input that is left and the output are those of the plain disk; else no more was read
  pub ends : EndsAs e (disk_of last w'.input read) (after_batch rs (disk_of c w.input []))
  pub outside : SameOutside rs (disk_blocks c) (disk_blocks last)
  pub boot : SameBoot c last
  pub beyond : e ≡ Failed (codes "beyond") → c.capacity < greatest_end rs

-- A run that stopped before its end, at want of input or memory, say: no block changed that the batch does not write.
pub record KeptOver {S : Type 0} (card : S → Option Card) (rs : List Request) (c : Card) (w' : World S) : Type 0 where
  pub last : Card
  pub shown : Shows card w'.port last
  pub outside : SameOutside rs (disk_blocks c) (disk_blocks last)
  pub boot : SameBoot c last

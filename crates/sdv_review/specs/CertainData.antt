-- THAT THE DATA IS THERE where a run is done: each block of a write command, CMD24 or CMD25, stands on the card as a write
-- phase gave it, in the place that the script asked for, unless a later write phase reaches this block or an erase follows
-- in its partition. Where a command is sent again to the same place, that is the phase of the later one.
use Rattle.std.specs.Prelude.{◌≡◌, ◌⊎◌, ◌+◌, ◌<◌, ℕ, Bool, true, List, [], ◌∷◌, length, take, drop, slice_get, Some, if◌then◌else◌}
use Rattle.sdv_card.specs.declared.answer.DataEnd.TheVariants.{Ok}
use Rattle.sdv_card.specs.declared.event.Ask.{Ask}
use Rattle.sdv_card.specs.declared.state.Partition.{Partition}
use Rattle.sdv_card.specs.declared.state.Partition.TheVariants.{User}
use Rattle.sdv_card.specs.declared.command.Row.TheVariants.{Cmd38}
use Rattle.sdv_card.specs.Card.{Card, Block, Partitions, blocks_of}
use Rattle.sdv_card.specs.Profile.{IsAtStart}
use Rattle.sdv_card.specs.ScriptEvent.{ScriptEvent, SendCommand, GiveBlocks, Return, BlocksOut}
use Rattle.sdv_card.specs.Settled.{Settled}
use Rattle.sdv_card.specs.Taken.{Taken}
use Rattle.sdv_facts.specs.Beside.{StepsOf}
use Rattle.sdv_graph.specs.Graph.{Graph, begin}
use Rattle.sdv_graph.specs.Path.{Path}
use Rattle.sdv_graph.specs.Walk.{Pair, Finished}
use Rattle.sdv_review.specs.Moves.{asked_by}
use Rattle.sdv_review.specs.Statuses.{is_erase, is_write}

-- blocks that were given, from a first block of a partition on
pub record Given : Type 0 where
  pub partition : Partition
  pub first : ℕ
  pub blocks : List Block

-- these stand there
abbrev pub StandIn : Partitions → Given → Type 0
StandIn contents g = take (length g.blocks) (drop g.first (blocks_of g.partition contents)) ≡ g.blocks

-- a transfer of so many blocks, which begins at another one, reaches one of them
pub record Overlaps (g : Given) (partition : Partition) (first count : ℕ) : Type 0 where
  pub same : g.partition ≡ partition
  pub below : first < g.first + length g.blocks
  pub above : g.first < first + count

-- the card took a CMD38, which may leave anything in any block of the partition in access, whichever blocks it names
pub record Erases (g : Given) (ask : Ask) (c u : Card) : Type 0 where
  pub asks : is_erase ask ≡ true
  pub settled_card : Card
  pub settled : Settled c settled_card
  pub argument : ℕ
  pub heard : Bool
  pub taken : Taken Cmd38 heard argument settled_card u
  pub same : g.partition ≡ c.mode.partition

-- what an event does to a card reaches one of the blocks
abbrev pub Reaches : Given → ScriptEvent → (c u : Card) → Type 0
Reaches g (GiveBlocks lines blocks) c u = Overlaps g c.mode.partition c.next_block c.announced
Reaches g (SendCommand ask position argument) c u = Erases g ask c u
Reaches g event c u = ⊥

-- some event of a run does
abbrev pub IsReached : Given → (c : Card) (es : List Pair) (last : Card) → StepsOf c es last → Type 0
IsReached g c [] last steps = ⊥
IsReached g c (p ∷ es) last steps = Reaches g p.0 c steps.0 ⊎ IsReached g steps.0 es last steps.2

-- they stand on the last card, or were reached on the way there
abbrev pub IsKept : Given → (c : Card) (es : List Pair) (last : Card) → StepsOf c es last → Type 0
IsKept g c es last steps = StandIn last.contents g ⊎ IsReached g c es last steps

-- what a phase of a card gives
abbrev pub given_at : Card → List Block → Given
given_at c blocks = record { partition = c.mode.partition; first = c.next_block; blocks = blocks }

-- where a script means its writes to go
pub record Aim : Type 0 where
  pub partition : Partition
  pub first : ℕ

-- into the partition that it asked for last, from the block on that its last CMD24 or CMD25 names
abbrev pub aim_after : ScriptEvent → Aim → Aim
aim_after (SendCommand ask position argument) a = record {
  partition = asked_by ask a.partition;
  first = if is_write ask then position else a.first;
}
aim_after event a = a

-- before the first command
abbrev pub no_aim : Aim
no_aim = record { partition = User; first = 0 }

-- one of the blocks that are given to it
abbrev pub block_to : Aim → (place : ℕ) → Block → Given
block_to a place block = record { partition = a.partition; first = a.first + place; blocks = block ∷ [] }

-- each of them is kept, whatever becomes of the others
abbrev pub EachIsKept : Aim → List Block → (u : Card) (es : List Pair) (last : Card) → StepsOf u es last → Type 0
EachIsKept a blocks u es last steps =
    (place : ℕ) (block : Block) → slice_get blocks place ≡ Some block → IsKept (block_to a place block) u es last steps

-- a write phase that ended well gave so many blocks, and they are kept from there on
abbrev pub GaveWell : Aim → (count : ℕ) → ScriptEvent → Return → (u : Card) (es : List Pair) (last : Card) → StepsOf u es last
    → Type 0
GaveWell a count (GiveBlocks lines blocks) (BlocksOut Ok) u es last steps =
    (length blocks ≡ count) × EachIsKept a blocks u es last steps
GaveWell a count event returned u es last steps = ⊥

-- some write phase of the run did
abbrev pub IsWritten : Aim → (count : ℕ) → (c : Card) (es : List Pair) (last : Card) → StepsOf c es last → Type 0
IsWritten a count c [] last steps = ⊥
IsWritten a count c (p ∷ es) last steps =
    GaveWell a count p.0 p.1 steps.0 es last steps.2 ⊎ IsWritten a count steps.0 es last steps.2

-- the blocks of a write command are written after it, and those of a write phase are kept
abbrev pub KeptAfter : Aim → ScriptEvent → (u : Card) (es : List Pair) (last : Card) → StepsOf u es last → Type 0
KeptAfter a (GiveBlocks lines blocks) u es last steps = EachIsKept a blocks u es last steps
KeptAfter a (SendCommand ask position argument) u es last steps =
    is_write ask ≡ true → IsWritten (aim_after (SendCommand ask position argument) a) ask.count u es last steps
KeptAfter a event u es last steps = Unit {0}

-- so it is of each write command and each write phase of a run
abbrev pub AreKept : Aim → (c : Card) (es : List Pair) (last : Card) → StepsOf c es last → Type 0
AreKept a c [] last steps = Unit {0}
AreKept a c (p ∷ es) last steps =
    KeptAfter a p.0 steps.0 es last steps.2 × AreKept (aim_after p.0 a) steps.0 es last steps.2

-- and of each run of a graph that ends in `done`, beside any card of the profile
abbrev pub CertainData : Graph → Type 0
CertainData g = (c : Card) (es : List Pair) (last : Card) (steps : StepsOf c es last) → g.kind ≡ c.kind → IsAtStart c
    → Path g.kind g.points Finished (begin g) es → AreKept no_aim c es last steps

-- What calls of an image leave of its blocks, and when they may fail.
use Rattle.std.specs.Prelude.{◌≡◌, ◌<◌, ◌≤◌, ◌⊎◌, ◌+◌, ◌-◌, ◌^◌, ℕ, List, length, take, drop, replicate, Option, Some, None, IfSome}
use Rattle.sdv_card.specs.Card.{Block, AreBlocks}

-- a call failed: the count of failures rose, or it stands at its greatest
abbrev pub HasFailed : (before after : ℕ) → Type 0
HasFailed before after = (before < after) ⊎ ((before ≡ 2 ^ 64 - 1) × (after ≡ 2 ^ 64 - 1))

-- the blocks from the first on are these, where an image shows its blocks
abbrev pub Shown : (first : ℕ) → (blocks : List Block) → Option (List Block) → Type 0
Shown first blocks shown = IfSome shown (λ all. blocks ≡ take (length blocks) (drop first all))

-- so many blocks from the first on may be others, and no block beside them
pub record OnlyThese (first count : ℕ) (old new : List Block) : Type 0 where
  pub size : length old ≡ length new
  pub below : take first old ≡ take first new
  pub above : drop (first + count) old ≡ drop (first + count) new

-- the same of an image, which goes on to show its blocks
abbrev pub OnlyAt : (first count : ℕ) → (old new : Option (List Block)) → Type 0
OnlyAt first count None new = None ≡ new
OnlyAt first count (Some old) new = (left : List Block) × (Some left ≡ new) × OnlyThese first count old left

-- the blocks are so many, of 512 bytes
abbrev pub AreSized : ℕ → Option (List Block) → Type 0
AreSized size shown = IfSome shown (AreBlocks size)

-- so many blocks of zeros
unfoldable pub zeros : ℕ → List Block
zeros count = replicate count (replicate 512 0)

-- an erase that a failure ended at a block: zeros before it, anything in it, and every other block as it was
pub record ErasedUpTo (first end : ℕ) (old new : Option (List Block)) : Type 0 where
  pub place : ℕ
  pub from : first ≤ place
  pub below : place < end
  pub zeroed : Shown first (zeros (place - first)) new
  pub others : OnlyAt first (place - first + 1) old new

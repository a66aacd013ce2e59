-- What buffers have of a file's blocks, and what an image over the file shows.
use Rattle.std.specs.Prelude.{◌≡◌, ◌==◌, ◌<◌, ◌+◌, ℕ, Bool, false, if◌then◌else◌, Option, Some, None, List, [], ◌∷◌, length, slice_index_or, replicate, All}
use Rattle.sdv_card.specs.Card.{Block, IsRegister}
use Rattle.sdv_image.specs.declared.buffer.Held.{Held}
use Rattle.sdv_image.specs.declared.buffer.Held.TheVariants.{Nothing, Unchanged, Changed}
use Rattle.sdv_image.specs.declared.buffer.Buffer.{Buffer}

-- the place of the block that a buffer has
abbrev pub place_of : Held → Option ℕ
place_of Nothing = None
place_of (Unchanged place) = Some place
place_of (Changed place) = Some place

abbrev pub is_place : ℕ → Option ℕ → Bool
is_place place None = false
is_place place (Some held) = held == place

-- a buffer has the block at a place
abbrev pub has_place : ℕ → Buffer → Bool
has_place place buffer = is_place place (place_of buffer.held)

-- WHAT AN IMAGE SHOWS

-- the block at a place: that of the buffer that has it, else that of the file
abbrev pub block_shown : List Buffer → (place : ℕ) → Block → Block
block_shown [] place block = block
block_shown (buffer ∷ buffers) place block =
    if has_place place buffer then buffer.block else block_shown buffers place block

-- the blocks of the file from a place on, so shown
abbrev pub blocks_from : List Buffer → (place : ℕ) → List Block → List Block
blocks_from buffers place [] = []
blocks_from buffers place (block ∷ blocks) = block_shown buffers place block ∷ blocks_from buffers (place + 1) blocks

-- all blocks, where the file shows its own
abbrev pub shown_over : List Buffer → Option (List Block) → Option (List Block)
shown_over buffers None = None
shown_over buffers (Some blocks) = Some (blocks_from buffers 0 blocks)

-- BUFFERS OF A FILE

-- a buffer without a block
abbrev pub no_buffer : Buffer
no_buffer = record { held = Nothing; block = replicate 512 0 }

-- the buffer at an index, or an empty one behind the last
abbrev pub buffer_at : List Buffer → (index : ℕ) → Buffer
buffer_at buffers index = slice_index_or buffers index no_buffer

-- the buffer at an index has the block at a place
abbrev pub HasPlace : List Buffer → (index place : ℕ) → Type 0
HasPlace buffers index place = place_of (buffer_at buffers index).held ≡ Some place

-- 16 buffers: each has another block of the file or none, and the unchanged ones have it as the file does
pub record AreSound (buffers : List Buffer) (size : ℕ) (file : Option (List Block)) : Type 0 where
  pub count : length buffers ≡ 16
  pub sized : (blocks : List Block) → file ≡ Some blocks → length blocks ≡ size
  pub fit : All (λ buffer. IsRegister 512 buffer.block) buffers
  pub within : (index place : ℕ) → HasPlace buffers index place → place < size
  pub distinct : (i j place : ℕ) → HasPlace buffers i place → HasPlace buffers j place → i ≡ j
  pub same : (blocks : List Block) → file ≡ Some blocks →
      (index place : ℕ) → (buffer_at buffers index).held ≡ Unchanged place →
      (buffer_at buffers index).block ≡ slice_index_or blocks place []

-- what a buffer has, once it is written back
abbrev pub unchanged : Held → Held
unchanged (Changed place) = Unchanged place
unchanged held = held

abbrev pub written_back : Buffer → Buffer
written_back buffer = record { held = unchanged buffer.held; block = buffer.block }

-- no buffer has a block that none had before
abbrev pub NoMorePlaces : (old new : List Buffer) → Type 0
NoMorePlaces old new = (index place : ℕ) → HasPlace new index place → HasPlace old index place

-- the block at a place changed, and the file has not got it yet
abbrev pub IsUnwritten : List Buffer → (place : ℕ) → Type 0
IsUnwritten buffers place = (index : ℕ) × ((buffer_at buffers index).held ≡ Changed place)

-- a buffer is empty or has the block at a place, and no other buffer has that block
pub record IsFreeFor (buffers : List Buffer) (index place : ℕ) : Type 0 where
  pub own : (held : ℕ) → HasPlace buffers index held → held ≡ place
  pub alone : (other : ℕ) → HasPlace buffers other place → other ≡ index

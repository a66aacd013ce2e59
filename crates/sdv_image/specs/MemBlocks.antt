-- The blocks of an image in memory: those that its bytes hold, one after another.
use Rattle.std.specs.Prelude.{ℕ, zero, suc, ◌/◌, List, [], ◌∷◌, length, take, drop}
use Rattle.sdv_card.specs.Card.{Block}
use Rattle.sdv_image.specs.declared.mem_image.MemImage.{MemImage}

-- the first n blocks that bytes hold
abbrev pub blocks_in : ℕ → List ℕ → List Block
blocks_in zero bytes = []
blocks_in (suc n) bytes = take 512 bytes ∷ blocks_in n (drop 512 bytes)

-- the bytes of an image
abbrev pub bytes_of : MemImage → List ℕ
bytes_of image = image.bytes.items

-- how many blocks it has, and which
abbrev pub size_of : MemImage → ℕ
size_of image = length image.bytes.items / 512

abbrev pub shown_of : MemImage → List Block
shown_of image = blocks_in (length image.bytes.items / 512) image.bytes.items

-- What an image over a file is to contracts.
use Rattle.std.specs.Prelude.{◌≡◌, ◌⊎◌, ℕ, ◌/◌, Option, List}
use Rattle.sdv_card.specs.Card.{Block}
use Rattle.sdv_image.specs.declared.block_file.BlockFile.{Ghosts}
use Rattle.sdv_image.specs.declared.buffer.Buffer.{Buffer}
use Rattle.sdv_image.specs.declared.file_image.FileImage.{FileImage}
use Rattle.sdv_image.specs.Buffers.{shown_over, IsUnwritten}

module _ {F : Type 0} {file : Ghosts F} where
  abbrev pub file_of : FileImage F file → F
  file_of image = image.file

  abbrev pub buffers_of : FileImage F file → List Buffer
  buffers_of image = image.buffers.items

  -- its buffers' indexes, from the one that was used least recently on
  abbrev pub order_of : FileImage F file → List ℕ
  order_of image = image.order

  -- how many bytes its file has
  abbrev pub bytes_of : FileImage F file → ℕ
  bytes_of image = file.byte_count image.file

  -- how many blocks it has: the whole ones of the file
  abbrev pub size_of : FileImage F file → ℕ
  size_of image = file.byte_count image.file / 512

  -- its blocks: a buffered one as its buffer has it, the others as the file has them
  abbrev pub shown_of : FileImage F file → Option (List Block)
  shown_of image = shown_over image.buffers.items (file.blocks image.file)

  -- no block changed that is still to be written back
  abbrev pub IsWritten : FileImage F file → Type 0
  IsWritten image = (place : ℕ) → ¬ IsUnwritten image.buffers.items place

  -- each block that is to be written back was so before
  abbrev pub NoMoreUnwritten : (old new : FileImage F file) → Type 0
  NoMoreUnwritten old new =
      (place : ℕ) → IsUnwritten new.buffers.items place → IsUnwritten old.buffers.items place

  -- or it is the one at this place
  abbrev pub OneMoreUnwritten : (at : ℕ) → (old new : FileImage F file) → Type 0
  OneMoreUnwritten at old new =
      (place : ℕ) → IsUnwritten new.buffers.items place → (place ≡ at) ⊎ IsUnwritten old.buffers.items place

  -- how many calls of the file failed
  abbrev pub failed_of : FileImage F file → ℕ
  failed_of image = file.failed image.file

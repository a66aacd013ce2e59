-- What a new image is to contracts.
use Rattle.std.specs.Prelude.{ℕ, ◌*◌, List, Option, Some}
use Rattle.sdv_card.specs.Card.{Block}
use Rattle.sdv_image.specs.MemBlocks.{shown_of, size_of}
use Rattle.sdv_commands.specs.declared.new_image.NewImage.{NewImage}

abbrev pub bytes_of_new : NewImage → ℕ
bytes_of_new image = size_of image.blocks * 512

abbrev pub blocks_of_new : NewImage → Option (List Block)
blocks_of_new image = Some (shown_of image.blocks)

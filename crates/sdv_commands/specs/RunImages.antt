-- The image that a run is given, as code has it: a new one, or a file that was opened.
use Rattle.std.specs.Prelude.{ℕ, List, Option}
use Rattle.clap.specs.Words.{Text}
use Rattle.sdv_card.specs.Card.{Block}
use Rattle.sdv_image.specs.Images.{HasFailed}
use Rattle.sdv_program.specs.Files.{CardImage, Files, SomeCallFailed, image_of}
use Rattle.sdv_commands.specs.NewImages.{blocks_of_new, bytes_of_new}
use Rattle.sdv_commands.specs.Run.{IsNew, IsOfFile}
use Rattle.sdv_commands.specs.declared.given.GivenImage.{GivenImage}
use Rattle.sdv_commands.specs.declared.given.GivenImage.TheVariants.{New, File}

module _ {I : Type 0} (bytes_of : I → ℕ) (blocks_of : I → Option (List Block)) where
  abbrev pub image_given : GivenImage I → CardImage
  image_given (New image) = image_of (bytes_of_new image) (blocks_of_new image)
  image_given (File image) = image_of (bytes_of image) (blocks_of image)

-- some file of its type counts a failure more: all that is known of a file that is gone, of which a call failed
abbrev pub MayHaveFailed : {I : Type 0} → (failed : I → ℕ) → I → Type 0
MayHaveFailed {I} failed file = (after : I) × HasFailed (failed file) (failed after)

-- it is new exactly where the name asks for that, and else a file whose calls fail only where the store says so
abbrev pub IsOfName : {I : Type 0} → (failed : I → ℕ) → Files → (name : Text) → GivenImage I → Type 0
IsOfName failed files name (New image) = (blocks : ℕ) × IsNew name blocks
IsOfName failed files name (File image) = IsOfFile name × (SomeCallFailed failed → files.images.failed name)

-- What is known of the files that the program reads and writes, by their names.
use Rattle.std.specs.Prelude.{◌≡◌, ◌⊎◌, ℕ, List, Option, IsUtf8}
use Rattle.clap.specs.Words.{Text}
use Rattle.sdv_card.specs.Card.{Block}
use Rattle.sdv_image.specs.Images.{HasFailed}

-- an image: how many bytes it has, and its blocks, or none where nothing is claimed of them
pub record CardImage : Type 0 where
  pub bytes : ℕ
  pub blocks : Option (List Block)

abbrev pub image_of : (bytes : ℕ) (blocks : Option (List Block)) → CardImage
image_of bytes blocks = record { bytes = bytes; blocks = blocks }

-- a call of an image of this type failed
abbrev pub SomeCallFailed : {I : Type 0} → (failed : I → ℕ) → Type 0
SomeCallFailed {I} failed = (before : I) × (after : I) × HasFailed (failed before) (failed after)

-- files that hold images
pub record ImageFiles : Type 1 where
  -- the file was opened, and was this image then
  pub opened : (file : Text) → CardImage → Type 0
  -- it could not be opened
  pub unopened : (file : Text) → Type 0
  -- its blocks may have been read or written in vain since it was opened
  pub failed : (file : Text) → Type 0
  -- the file was closed with these blocks
  pub closed : (file : Text) (blocks : Option (List Block)) → Type 0
  -- it was closed, and did not take all that was written
  pub unclosed : (file : Text) → Type 0

pub record Files : Type 1 where
  -- the two names are of one file
  pub same : (a b : Text) → Type 0
  -- they are not
  pub apart : (a b : Text) → Type 0
  -- these are the bytes that the file gives
  pub gives : (file : Text) (bytes : List ℕ) → Type 0
  -- it could not be opened or read, or did not end
  pub unread : (file : Text) → Type 0
  -- it was opened to be read, and its reader had these bytes left then, where they are known
  pub streamed : (file : Text) (left : Option (List ℕ)) → Type 0
  -- its reader was closed, and no read of it failed
  pub read_well : (file : Text) → Type 0
  pub images : ImageFiles
  -- the file was made or emptied, and took these bytes then
  pub received : (file : Text) (bytes : List ℕ) → Type 0
  -- it could not be made or emptied
  pub uncreated : (file : Text) → Type 0
  -- it was made or emptied, and did not take all that was written
  pub unfinished : (file : Text) → Type 0

-- the file gave no text: it was not read, or its bytes are not UTF-8
abbrev pub GivesNoText : Files → (file : Text) → Type 0
GivesNoText files file = files.unread file ⊎ ((bytes : List ℕ) × files.gives file bytes × ¬ IsUtf8 bytes)

-- the file that cannot be used is the one wanted, which gave no text
abbrev pub IsNoText : Files → (wanted file : Text) → Type 0
IsNoText files wanted file = (file ≡ wanted) × GivesNoText files wanted

-- nothing is claimed of a file of the machine
abbrev pub any_bytes : (file : Text) (bytes : List ℕ) → Type 0
any_bytes file bytes = Unit {0}

abbrev pub any_file : (file : Text) → Type 0
any_file file = Unit {0}

abbrev pub any_sink : {S : Type 0} → (file : Text) → S → Type 0
any_sink file sink = Unit {0}

abbrev pub any_images : ImageFiles
any_images = record {
  opened = λ file image. Unit {0};
  unopened = any_file;
  failed = any_file;
  closed = λ file blocks. Unit {0};
  unclosed = any_file;
}

abbrev pub any_two : (a b : Text) → Type 0
any_two a b = Unit {0}

abbrev pub any_files : Files
any_files = record {
  same = any_two;
  apart = any_two;
  gives = any_bytes;
  unread = any_file;
  streamed = λ file left. Unit {0};
  read_well = any_file;
  images = any_images;
  received = any_bytes;
  uncreated = any_file;
  unfinished = any_file;
}

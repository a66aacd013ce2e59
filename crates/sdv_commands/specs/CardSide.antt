-- What the program does at `card`: which card answers, and that its image is kept.
use Rattle.std.specs.Prelude.{◌≡◌, ◌⊎◌, ℕ, List, ◌∷◌, Option, Some, None, Result, Ok, Err, string_bytes}
use Rattle.sdv_card.specs.Card.{Block}
use Rattle.sdv_behavior.specs.SimSteps.{SimState, SimSteps}
use Rattle.sdv_controller.specs.Controlled.{ControllerSteps}
use Rattle.sdv_lines.specs.declared.fault.ServeFault.{ServeFault}
use Rattle.sdv_lines.specs.Serving.{ServesAll}
use Rattle.sdv_program.specs.Requests.{CardNames}
use Rattle.sdv_program.specs.declared.fault.Fault.{Fault}
use Rattle.sdv_program.specs.declared.fault.Fault.TheVariants.{File, Card, Request, Memory}
use Rattle.sdv_program.specs.Files.{CardImage, Files}
use Rattle.sdv_commands.specs.Run.{FileUse, GivesImage, GivesSchedule, HasNoCard, IsCardOver, IsUnreadable, IsUnusable, LosesImage, StoresImage}
use Rattle.sdv_commands.specs.Run.{as_image, as_schedule, as_text, some_use}
use Rattle.sdv_commands.specs.declared.card.Given.{Given}

-- THE FILES

-- in the order in which they are used
abbrev pub uses_of : CardNames → List FileUse
uses_of names = as_text names.card ∷ as_image names.image ∷ some_use as_schedule names.schedule

-- the files of these names gave this text, these values and this image
pub record AreGiven (files : Files) (names : CardNames) (given : Given) (image : CardImage) : Type 0 where
  pub card : files.gives names.card (string_bytes given.card)
  pub of_image : GivesImage files names.image image
  pub schedule : GivesSchedule files names.schedule given.codes.items

-- THE CARD

-- as many blocks as a request asks for at most
abbrev pub room : ℕ
room = 65535

-- Each request was a call of the simulated card of the description over the image, with the schedule, and each answer
-- tells what it gave. `blocks'` is what is known of the card's blocks after them.
pub record IsServed (given : Given) (image : CardImage) (blocks' : Option (List Block)) (end : Result (Unit {0}) ServeFault)
    (a a' r r' : Option (List ℕ)) : Type 0 where
  pub card : SimState
  pub is_card : IsCardOver (string_bytes given.card) given.codes.items image card
  pub card' : SimState
  pub blocks : card'.blocks ≡ blocks'
  pub served : ServesAll (ControllerSteps SimSteps) room card card' a a' r r' end

-- why there is no card; want of memory says nothing
abbrev pub RefusesCard : Given → CardImage → (unread : Type 0) → Fault → Type 0
RefusesCard given image unread (Card fault) =
    HasNoCard (string_bytes given.card) given.codes.items image unread fault
RefusesCard given image unread Memory = Unit {0}
RefusesCard given image unread fault = ⊥

-- nothing was read or written
abbrev pub IsQuiet : (a a' r r' : Option (List ℕ)) → Type 0
IsQuiet a a' r r' = (a' ≡ a) × (r' ≡ r)

-- THE END

-- The requests were answered, and the file of the image was closed with the card's blocks.
pub record IsKept (files : Files) (names : CardNames) (given : Given) (image : CardImage)
    (end : Result (Unit {0}) ServeFault) (a a' r r' : Option (List ℕ)) : Type 0 where
  pub blocks' : Option (List Block)
  pub served : IsServed given image blocks' end a a' r r'
  pub stored : StoresImage files names.image blocks'

-- The requests were answered, and then the file of the image did not take the card's blocks.
pub record IsLost (given : Given) (image : CardImage) (a a' r r' : Option (List ℕ)) : Type 0 where
  pub blocks' : Option (List Block)
  pub end : Result (Unit {0}) ServeFault
  pub served : IsServed given image blocks' end a a' r r'

-- the file of the image did not take the card's blocks, or there was no card
abbrev pub FailsToKeep : Files → CardNames → Given → CardImage → Fault → (a a' r r' : Option (List ℕ)) → Type 0
FailsToKeep files names given image (File file) a a' r r' =
    IsLost given image a a' r r' × (file.now ≡ names.image) × LosesImage files names.image
FailsToKeep files names given image fault a a' r r' =
    RefusesCard given image (IsUnreadable files names.image) fault × IsQuiet a a' r r'

-- The requests came to this end: that of the host, or one that was not answered, and then its line.
pub record ComesToEnd (files : Files) (names : CardNames) (end : Result (Unit {0}) ServeFault)
    (a a' r r' : Option (List ℕ)) : Type 0 where
  pub given : Given
  pub image : CardImage
  pub are_given : AreGiven files names given image
  pub kept : IsKept files names given image end a a' r r'

abbrev pub EndsCard : Files → CardNames → (a a' r r' : Option (List ℕ)) → Type 0
EndsCard files names a a' r r' = ComesToEnd files names (Ok tt) a a' r r'

-- There was no card, or the file of its image did not take its blocks.
pub record IsNotKept (files : Files) (names : CardNames) (fault : Fault)
    (a a' r r' : Option (List ℕ)) : Type 0 where
  pub given : Given
  pub image : CardImage
  pub are_given : AreGiven files names given image
  pub fails : FailsToKeep files names given image fault a a' r r'

abbrev pub CardFails : Files → CardNames → Fault → (a a' r r' : Option (List ℕ)) → Type 0
CardFails files names (Request stop) a a' r r' = ComesToEnd files names (Err stop) a a' r r'
CardFails files names (File file) a a' r r' =
    (IsUnusable files (uses_of names) file.now × IsQuiet a a' r r') ⊎ IsNotKept files names (File file) a a' r r'
CardFails files names Memory a a' r r' = IsQuiet a a' r r'
CardFails files names fault a a' r r' = IsNotKept files names fault a a' r r'

-- THE COMMAND, by what was read and written
abbrev pub CardEnds : Files → CardNames → (a a' r r' : Option (List ℕ)) → Option Fault → Type 0
CardEnds files names a a' r r' None = EndsCard files names a a' r r'
CardEnds files names a a' r r' (Some fault) = CardFails files names fault a a' r r'

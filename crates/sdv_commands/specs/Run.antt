-- What the program does at `run`: beside which card it runs which script, what it prints, and what its files take.
use Rattle.std.specs.Prelude.{◌≡◌, ◌≢◌, ◌<◌, ◌*◌, ◌-◌, ◌/◌, ◌%◌, ◌^◌, ◌⊎◌, ◌==◌, ◌&&◌, ◌||◌, Bool, ℕ, List, [], ◌∷◌, ◌++◌, Option, Some, None, Result, Ok, Err, IsUtf8, codes, length, nat_le, string_bytes, if◌then◌else◌}
use Rattle.std.specs.Io.KnownBytes.{Keeps}
use Rattle.std.specs.Borrow.{Bor}
use Rattle.std.specs.List.{AllByRecursion, list_all}
use Rattle.clap.specs.Words.{Text}
use Rattle.sdv_card.specs.Card.{Block}
use Rattle.sdv_image.specs.Images.{zeros}
use Rattle.sdv_image.specs.MemBlocks.{blocks_in}
use Rattle.sdv_image.specs.declared.fault.SimFault.{SimFault}
use Rattle.sdv_image.specs.declared.fault.SimFault.TheVariants as cards
use Rattle.sdv_behavior.specs.declared.card_desc.CardDesc.{CardDesc}
use Rattle.sdv_behavior.specs.Gives.{Describes}
use Rattle.sdv_behavior.specs.Gives.{Refuses as IsNoCard}
use Rattle.sdv_behavior.specs.Layout.{image_size}
use Rattle.sdv_behavior.specs.Schedules.{are_codes}
use Rattle.sdv_behavior.specs.SimSteps.{SimState, SimSteps, card_shown}
use Rattle.sdv_sim.specs.Made.{IsMade, IsRefused, are_digits}
use Rattle.sdv_controller.specs.Controlled.{ControllerSteps}
use Rattle.sdv_check.specs.Verified.{Acceptance, IsAccepted}
use Rattle.sdv_trace.specs.declared.end.End.{End}
use Rattle.sdv_trace.specs.declared.end.End.TheVariants as ends
use Rattle.sdv_run.specs.declared.fault.RunFault.{RunFault}
use Rattle.sdv_run.specs.declared.fault.RunFault.TheVariants as runs
use Rattle.sdv_run.specs.Run.{received}
use Rattle.sdv_run.specs.OnCard.{RanBeside}
use Rattle.sdv_program.specs.declared.fault.Fault.{Fault}
use Rattle.sdv_program.specs.declared.fault.Fault.TheVariants.{File, Script, Certificate, Refused, Card, Run, Named, Memory}
use Rattle.sdv_commands.specs.declared.given.Given.{Given}
use Rattle.sdv_commands.specs.Registers.{events_of, registered}
use Rattle.sdv_program.specs.Refused.{Refuses}
use Rattle.sdv_program.specs.Requests.{RunNames}
use Rattle.sdv_program.specs.Fault.{fault_of_run}
use Rattle.sdv_program.specs.Files.{CardImage, Files, GivesNoText, image_of}
use Rattle.sdv_program.specs.Outcomes.{Ending}
use Rattle.sdv_program.specs.Uses.{Role, changes, reads, writes}
use Rattle.sdv_commands.specs.Taken.{UnlessTaken}
use Rattle.sdv_text.specs.Number.{IsNumber, value_of}

-- SCHEDULES: a digit from 0 to 7 for each event; spaces and ends of lines are nothing, and any other byte is no digit

abbrev pub is_space : (byte : ℕ) → Bool
is_space byte = (byte == 32) || ((byte == 13) || (byte == 10))

abbrev pub is_value : (byte : ℕ) → Bool
is_value byte = nat_le 48 byte && nat_le byte 55

-- 255 is no value of a card
abbrev pub code_of : (byte : ℕ) → ℕ
code_of byte = if is_value byte then byte - 48 else 255

abbrev pub schedule_codes : (bytes : List ℕ) → List ℕ
schedule_codes [] = []
schedule_codes (byte ∷ bytes) = if is_space byte then schedule_codes bytes else code_of byte ∷ schedule_codes bytes

-- each byte may stand in a schedule of digits
abbrev pub is_schedule : (bytes : List ℕ) → Bool
is_schedule bytes = list_all (λ byte. is_space byte || is_value byte) bytes

-- a card has all values exactly where that is so
abbrev pub DigitsAloneAreValues : Type 0
DigitsAloneAreValues = (bytes : List ℕ) → are_codes (schedule_codes bytes) ≡ is_schedule bytes

-- NEW IMAGES: `new:` and a number of blocks, which are all zeros

pub record IsNew (name : Text) (blocks : ℕ) : Type 0 where
  pub number : Text
  pub named : name ≡ codes "new:" ++ number
  pub is_number : IsNumber number
  pub value : value_of number ≡ blocks
  pub fits : blocks < 2 ^ 32

abbrev pub new_image : (blocks : ℕ) → CardImage
new_image blocks = image_of (blocks * 512) (Some (zeros blocks))

-- the image is that of a file
abbrev pub IsOfFile : (name : Text) → Type 0
IsOfFile name = (blocks : ℕ) → ¬ IsNew name blocks

-- THE FILES of a run

-- the image is that of a file, or it is new
abbrev pub GivesImage : Files → (name : Text) → CardImage → Type 0
GivesImage files name image =
    ((blocks : ℕ) × IsNew name blocks × (image ≡ new_image blocks))
    ⊎ (IsOfFile name × files.images.opened name image)

abbrev pub GivesSchedule : Files → Option Text → (codes : List ℕ) → Type 0
GivesSchedule files None codes = codes ≡ []
GivesSchedule files (Some file) codes = (bytes : List ℕ) × files.gives file bytes × (codes ≡ schedule_codes bytes)

-- the blocks that a script gives are whole
abbrev pub GivesInput : Files → Option Text → (bytes : List ℕ) → Type 0
GivesInput files None bytes = bytes ≡ []
GivesInput files (Some file) bytes = files.gives file bytes × (length bytes % 512 ≡ 0)

-- the files of these names gave these texts and bytes, and this image
pub record AreGiven (files : Files) (names : RunNames) (given : Given) (image : CardImage) : Type 0 where
  pub script : files.gives names.script (string_bytes given.script)
  pub certificate : files.gives names.certificate (string_bytes given.certificate)
  pub card : files.gives names.card (string_bytes given.card)
  pub of_image : GivesImage files names.image image
  pub schedule : GivesSchedule files names.schedule given.codes.items
  pub input : GivesInput files names.input given.input.items

-- THE RUN

abbrev pub blocks_of : (bytes : List ℕ) → List Block
blocks_of bytes = blocks_in (length bytes / 512) bytes

-- the card of a description over an image, with the values of a schedule, before its first command
pub record IsCardOver (description : Text) (codes : List ℕ) (image : CardImage) (card : SimState) : Type 0 where
  pub desc : CardDesc
  pub described : Describes description desc
  pub whole : image.bytes % 512 ≡ 0
  pub made : IsMade desc codes image.blocks card

-- The script, which was verified with its certificate, ran beside the card of the description over the image, with the
-- schedule and the input blocks. `blocks'` is what is known of the card's blocks after it.
pub record IsRun (given : Given) (image : CardImage) (blocks' : Option (List Block)) (result : Result End RunFault)
    (out out' trace trace' : Option (List ℕ)) : Type 0 where
  pub acceptance : Acceptance
  pub accepted : IsAccepted (string_bytes given.script) (string_bytes given.certificate) acceptance
  pub card : SimState
  pub is_card : IsCardOver (string_bytes given.card) given.codes.items image card
  pub card' : SimState
  pub blocks : card'.blocks ≡ blocks'
  pub left : List Block
  pub ran : RanBeside (ControllerSteps SimSteps) card_shown acceptance.graph acceptance.bound
      (record { port = card; input = blocks_of given.input.items; out = out; trace = trace })
      (record { port = card'; input = left; out = out'; trace = trace' }) result

-- the bytes of the registers that the run received
abbrev pub registers_of : {given : Given} {image : CardImage} {blocks' : Option (List Block)} {result : Result End RunFault}
    {out out' trace trace' : Option (List ℕ)} → IsRun given image blocks' result out out' trace trace' → List ℕ
registers_of {result = result} run = registered (events_of _ _ _ _ _ _ result run.ran)

-- The run took place, and this holds of the bytes of its registers.
pub record IsRunWith (took : List ℕ → Type 0) (given : Given) (image : CardImage) (blocks' : Option (List Block))
    (result : Result End RunFault) (out out' trace trace' : Option (List ℕ)) : Type 0 where
  pub run : IsRun given image blocks' result out out' trace trace'
  pub registers : took (registers_of run)

-- there is no simulated card, for this reason: that of the description, of the image, or of the schedule beside them,
-- or that the image was not read
abbrev pub HasNoCard : (description : Text) → (codes : List ℕ) → CardImage → (unread : Type 0) → SimFault → Type 0
HasNoCard description codes image unread fault =
    IsNoCard description fault
    ⊎ (((desc : CardDesc) × Describes description desc × (image.bytes % 512 ≢ 0) × (fault ≡ cards.ImageLength))
    ⊎ ((desc : CardDesc) × Describes description desc × (image.bytes % 512 ≡ 0)
    × IsRefused (are_digits codes) (image.bytes / 512) (image_size desc) unread fault))

-- why nothing was run; want of memory says nothing
abbrev pub RefusesRun : Given → CardImage → (unread : Type 0) → Fault → Type 0
RefusesRun given image unread (Script fault) =
    Refuses (string_bytes given.script) (string_bytes given.certificate) (Script fault)
RefusesRun given image unread (Certificate fault) =
    Refuses (string_bytes given.script) (string_bytes given.certificate) (Certificate fault)
RefusesRun given image unread (Refused fault) =
    Refuses (string_bytes given.script) (string_bytes given.certificate) (Refused fault)
RefusesRun given image unread (Card fault) =
    ((a : Acceptance) × IsAccepted (string_bytes given.script) (string_bytes given.certificate) a)
    × HasNoCard (string_bytes given.card) given.codes.items image unread fault
RefusesRun given image unread Memory = Unit {0}
RefusesRun given image unread fault = ⊥

-- a call of an image failed: it is that of a file, and never a new one
abbrev pub IsUnreadable : Files → (name : Text) → Type 0
IsUnreadable files name = IsOfFile name × files.images.failed name

-- WHAT THE FILES TAKE

-- the file of the image was closed with the card's blocks; those of a new image are dropped
abbrev pub StoresImage : Files → (name : Text) → Option (List Block) → Type 0
StoresImage files name blocks = ((count : ℕ) × IsNew name count) ⊎ files.images.closed name blocks

-- the file of the image did not take the card's blocks: a call of it failed, or it was closed without them
abbrev pub LosesImage : Files → (name : Text) → Type 0
LosesImage files name = IsOfFile name × (files.images.failed name ⊎ files.images.unclosed name)

abbrev pub Receives : Files → Option Text → (bytes : List ℕ) → Type 0
Receives files None bytes = Unit {0}
Receives files (Some file) bytes = files.received file bytes

-- the file took a front of these bytes, and not all of them
pub record ReceivesPart (files : Files) (file : Text) (bytes : List ℕ) : Type 0 where
  pub front : List ℕ
  pub rest : List ℕ
  pub is_front : bytes ≡ front ++ rest
  pub is_part : 0 < length rest
  pub received : files.received file front

-- the file of the output took a front of these bytes
pub record ReceivesFront (files : Files) (output : Option Text) (bytes : List ℕ) : Type 0 where
  pub front : List ℕ
  pub rest : List ℕ
  pub is_front : bytes ≡ front ++ rest
  pub received : Receives files output front

-- what it took of a run that stopped: all of the bytes, or a front of them where the output failed
abbrev pub ReceivesUntil : RunFault → Files → Option Text → (bytes : List ℕ) → Type 0
ReceivesUntil runs.Output files output bytes = ReceivesFront files output bytes
ReceivesUntil fault files output bytes = Receives files output bytes

-- THE END

-- The run took place, and the file of the image was closed with the card's blocks.
pub record IsKept (files : Files) (names : RunNames) (given : Given) (image : CardImage) (result : Result End RunFault)
    (out out' trace trace' : Option (List ℕ)) : Type 0 where
  pub blocks' : Option (List Block)
  pub run : IsRun given image blocks' result out out' trace trace'
  pub stored : StoresImage files names.image blocks'

-- The same, and this holds of the bytes of its registers.
pub record IsKeptWith (took : List ℕ → Type 0) (files : Files) (names : RunNames) (given : Given) (image : CardImage)
    (result : Result End RunFault) (out out' trace trace' : Option (List ℕ)) : Type 0 where
  pub kept : IsKept files names given image result out out' trace trace'
  pub registers : took (registers_of kept.run)

-- The run came to this end. The file of the output took the blocks of its phases that ended well, and the file of the
-- registers the bytes of the registers that came whole.
pub record EndsRun (files : Files) (names : RunNames) (end : End) (trace trace' : Option (List ℕ)) : Type 0 where
  pub given : Given
  pub image : CardImage
  pub are_given : AreGiven files names given image
  pub out : Option (List ℕ)
  pub out' : Option (List ℕ)
  pub kept : IsKept files names given image (Ok end) out out' trace trace'
  pub output : Receives files names.output (received kept.run.ran.0.events)
  pub registers : Receives files names.registers (registered kept.run.ran.0.events)

-- The run stopped before its end. The file of the output took the blocks of its phases that ended well, or, where the
-- output failed, a front of them. The file of the registers took the bytes of all registers that had come whole.
pub record StopsRun (files : Files) (names : RunNames) (fault : RunFault)
    (trace trace' : Option (List ℕ)) : Type 0 where
  pub given : Given
  pub image : CardImage
  pub are_given : AreGiven files names given image
  pub out : Option (List ℕ)
  pub out' : Option (List ℕ)
  pub kept : IsKept files names given image (Err fault) out out' trace trace'
  pub output : ReceivesUntil fault files names.output (received kept.run.ran.0.events)
  pub registers : Receives files names.registers (registered kept.run.ran.0.events)

-- The run took place, and then a file did not take all that it had to.
pub record IsLost (given : Given) (image : CardImage) (trace trace' : Option (List ℕ)) : Type 0 where
  pub blocks' : Option (List Block)
  pub result : Result End RunFault
  pub out : Option (List ℕ)
  pub out' : Option (List ℕ)
  pub run : IsRun given image blocks' result out out' trace trace'

-- the file of the registers did not take all of these bytes: a write to it failed, or it could not be ended
abbrev pub LosesRegisters : Files → (file : Text) → (bytes : List ℕ) → Type 0
LosesRegisters files file bytes = files.unfinished file ⊎ ReceivesPart files file bytes

-- the file of the registers did not take all of these bytes, or it did, and then that of the output could not be ended
abbrev pub LosesOutputs : Files → RunNames → (file : Text) → (registers : List ℕ) → Type 0
LosesOutputs files names file registers =
    ((Some file ≡ names.registers) × LosesRegisters files file registers)
    ⊎ ((Some file ≡ names.output) × files.unfinished file × Receives files names.registers registers)

-- It was the file of the image, which did not take the card's blocks. Or that file was closed with them, and it was
-- that of the registers or of the output.
pub record IsNotKept (files : Files) (names : RunNames) (file : Text) (trace trace' : Option (List ℕ)) : Type 0 where
  pub given : Given
  pub image : CardImage
  pub are_given : AreGiven files names given image
  pub lost : IsLost given image trace trace'
  pub is_file : ((file ≡ names.image) × LosesImage files names.image)
      ⊎ (StoresImage files names.image lost.blocks' × LosesOutputs files names file (registers_of lost.run))

-- There was no run.
pub record HasNoRun (files : Files) (names : RunNames) (fault : Fault) (trace trace' : Option (List ℕ)) : Type 0 where
  pub given : Given
  pub image : CardImage
  pub are_given : AreGiven files names given image
  pub refused : RefusesRun given image (IsUnreadable files names.image) fault
  pub kept : Keeps trace trace'

-- what the program answers to a run that came out so
abbrev pub answer_of : Result End RunFault → Result (Unit {0}) Fault
answer_of (Ok ends.Done) = Ok tt
answer_of (Ok (ends.Fault name)) = Err Named
answer_of (Err fault) = Err (fault_of_run fault)

-- the file of the image did not take the card's blocks, or there was no run
abbrev pub FailsToKeep : Files → RunNames → Given → CardImage → Fault → (trace trace' : Option (List ℕ)) → Type 0
FailsToKeep files names given image (File file) trace trace' =
    IsLost given image trace trace' × (file.now ≡ names.image) × LosesImage files names.image
FailsToKeep files names given image fault trace trace' =
    RefusesRun given image (IsUnreadable files names.image) fault × Keeps trace trace'

-- The image's file was closed with the card's blocks. The registers' file did not take all of its bytes.
pub record IsUnregistered (files : Files) (names : RunNames) (file : Text) (given : Given) (image : CardImage)
    (trace trace' : Option (List ℕ)) : Type 0 where
  pub lost : IsLost given image trace trace'
  pub stored : StoresImage files names.image lost.blocks'
  pub loses : LosesRegisters files file (registers_of lost.run)

-- the same, or the file of the registers could not be made or emptied, or did not take all that it had to
abbrev pub FailsToRegister : Files → RunNames → Given → CardImage → Fault → (trace trace' : Option (List ℕ)) → Type 0
FailsToRegister files names given image (File file) trace trace' =
    FailsToKeep files names given image (File file) trace trace'
    ⊎ ((Some file.now ≡ names.registers)
    × ((files.uncreated file.now × Keeps trace trace') ⊎ IsUnregistered files names file.now given image trace trace'))
FailsToRegister files names given image fault trace trace' =
    FailsToKeep files names given image fault trace trace'

-- THE FILES, in the order in which they are read; those of the output and of the registers are made or emptied after them

-- what a run uses a file as
pub data FileUse : Type 0 where
  -- a script, a certificate or a description
  as_text : (file : Text) → FileUse
  as_image : (name : Text) → FileUse
  as_schedule : (file : Text) → FileUse
  as_input : (file : Text) → FileUse
  as_output : (file : Text) → FileUse

abbrev pub name_of : FileUse → Text
name_of (as_text file) = file
name_of (as_image name) = name
name_of (as_schedule file) = file
name_of (as_input file) = file
name_of (as_output file) = file

abbrev pub some_use : (Text → FileUse) → Option Text → List FileUse
some_use to None = []
some_use to (Some file) = to file ∷ []

abbrev pub uses_of : RunNames → List FileUse
uses_of names =
    (as_text names.script ∷ as_text names.certificate ∷ as_text names.card ∷ as_image names.image ∷ [])
    ++ (some_use as_schedule names.schedule ++ (some_use as_input names.input
    ++ (some_use as_output names.output ++ some_use as_output names.registers)))

-- the file was used so; of one that was made or emptied nothing more is said
abbrev pub IsUsed : Files → FileUse → Type 0
IsUsed files (as_text file) = (text : List ℕ) × files.gives file text × IsUtf8 text
IsUsed files (as_image name) = (image : CardImage) × GivesImage files name image
IsUsed files (as_schedule file) = (codes : List ℕ) × GivesSchedule files (Some file) codes
IsUsed files (as_input file) = (bytes : List ℕ) × GivesInput files (Some file) bytes
IsUsed files (as_output file) = Unit {0}

-- the file gave no whole blocks: it was not read, or its length is none of them
abbrev pub GivesNoInput : Files → (file : Text) → Type 0
GivesNoInput files file =
    files.unread file ⊎ ((bytes : List ℕ) × files.gives file bytes × (length bytes % 512 ≢ 0))

-- what was tried with the file, and failed
abbrev pub CannotBeUsed : Files → FileUse → Type 0
CannotBeUsed files (as_text file) = GivesNoText files file
CannotBeUsed files (as_image name) = IsOfFile name × files.images.unopened name
CannotBeUsed files (as_schedule file) = files.unread file
CannotBeUsed files (as_input file) = GivesNoInput files file
CannotBeUsed files (as_output file) = files.uncreated file

-- The file cannot be used for this, and each use that comes before it was made.
pub record IsUnusable (files : Files) (uses : List FileUse) (file : Text) : Type 0 where
  pub wanted : FileUse
  pub is_file : name_of wanted ≡ file
  pub earlier : List FileUse
  pub later : List FileUse
  pub place : uses ≡ earlier ++ wanted ∷ later
  pub used : AllByRecursion (IsUsed files) earlier
  pub failed : CannotBeUsed files wanted

-- what a fault says of files that were not all used
abbrev pub IsUnread : Files → (uses : List FileUse) → Fault → Type 0
IsUnread files uses (File file) = IsUnusable files uses file.now
IsUnread files uses Memory = Unit {0}
IsUnread files uses fault = ⊥

-- a file that need not be there is named, and cannot be used for this reason; or memory ran out
abbrev pub IsOptional : (unusable : Text → Type 0) → Option (Bor Text) → Fault → Type 0
IsOptional unusable name fault =
    ((file : Bor Text) × (name ≡ Some file) × (fault ≡ File file) × unusable file.now) ⊎ (fault ≡ Memory)

-- FAULTS: what each says of a run, and of what was printed. A run that has no memory is no run fault, but want of memory
abbrev pub RunFails : Files → RunNames → Fault → (trace trace' : Option (List ℕ)) → Type 0
RunFails files names (File file) trace trace' =
    (IsUnusable files (uses_of names) file.now × Keeps trace trace') ⊎ IsNotKept files names file.now trace trace'
RunFails files names (Run runs.Memory) trace trace' = ⊥
RunFails files names (Run fault) trace trace' = StopsRun files names fault trace trace'
RunFails files names Named trace trace' = (end : End) × (end ≢ ends.Done) × EndsRun files names end trace trace'
RunFails files names Memory trace trace' = Keeps trace trace'
RunFails files names fault trace trace' = HasNoRun files names fault trace trace'

abbrev pub EndsApart : Files → RunNames → Ending
EndsApart files names None trace trace' = EndsRun files names ends.Done trace trace'
EndsApart files names (Some fault) trace trace' = RunFails files names fault trace trace'

-- NO FILE IS LOST BY A SLIP

-- the image is that of a file, or it is new
abbrev pub IsImageFile : (name : Text) → (file : Option Text) → Type 0
IsImageFile name None = (blocks : ℕ) × IsNew name blocks
IsImageFile name (Some file) = (file ≡ name) × IsOfFile name

-- in the order in which they are used
abbrev pub roles_of : RunNames → (image : Option Text) → List Role
roles_of names image =
    reads (Some names.script) ∷ reads (Some names.certificate) ∷ reads (Some names.card) ∷ changes image
    ∷ reads names.schedule ∷ reads names.input ∷ writes names.output ∷ writes names.registers ∷ []

-- a command beside an image
abbrev pub UnlessImageTaken : Files → (name : Text) → (roles : Option Text → List Role) → Ending → Ending
UnlessImageTaken files name roles Ends outcome before after =
    (image : Option Text) × IsImageFile name image × UnlessTaken files (roles image) Ends outcome before after

-- THE COMMAND
abbrev pub RunEnds : Files → RunNames → Ending
RunEnds files names = UnlessImageTaken files names.image (roles_of names) (EndsApart files names)

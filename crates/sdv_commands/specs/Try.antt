-- What the program does at `try`: beside which card it runs which script, where it stops, and what its files take.
use Rattle.std.specs.Prelude.{◌≡◌, ◌≢◌, ◌/◌, ◌%◌, ◌⊎◌, ℕ, List, [], ◌∷◌, ◌++◌, Option, Some, None, Result, Ok, Err, string_bytes}
use Rattle.std.specs.Io.KnownBytes.{Appends, Keeps}
use Rattle.std.specs.List.{AllByRecursion}
use Rattle.clap.specs.Words.{Text}
use Rattle.sdv_card.specs.Card.{Block}
use Rattle.sdv_image.specs.declared.fault.SimFault.{SimFault}
use Rattle.sdv_image.specs.declared.fault.SimFault.TheVariants as cards
use Rattle.sdv_check.specs.Verified.{IsNoScript}
use Rattle.sdv_trace.specs.declared.end.End.{End}
use Rattle.sdv_trace.specs.declared.end.End.TheVariants as ends
use Rattle.sdv_run.specs.declared.fault.RunFault.{RunFault}
use Rattle.sdv_run.specs.declared.fault.RunFault.TheVariants as runs
use Rattle.sdv_refute.specs.declared.wrong.Watched.{Watched}
use Rattle.sdv_refute.specs.declared.wrong.Watched.TheVariants.{Ended, Stopped}
use Rattle.sdv_refute.specs.declared.wrong.Wrong.{Wrong as WrongHere}
use Rattle.sdv_refute.specs.Tries.{HasNoCard, IsOtherKind, TriesText}
use Rattle.sdv_wrong_words.specs.declared.event.WrongEvent.{WrongEvent}
use Rattle.sdv_wrong_words.specs.WrongEvent.{IsEventOf}
use Rattle.sdv_program.specs.Requests.{TryNames}
use Rattle.sdv_program.specs.declared.fault.Fault.{Fault}
use Rattle.sdv_program.specs.declared.fault.Fault.TheVariants.{File, Script, Card, Schedule, Run, OtherKind, Wrong, NoEffect, Named, Memory}
use Rattle.sdv_named_schedules.specs.declared.fault.ScheduleFault.{ScheduleFault}
use Rattle.sdv_named_schedules.specs.declared.idle.Idle.{Idle}
use Rattle.sdv_program.specs.Fault.{fault_of_run}
use Rattle.sdv_program.specs.Files.{CardImage, Files}
use Rattle.sdv_program.specs.Outcomes.{Ending}
use Rattle.sdv_program.specs.Uses.{Role, changes, reads, writes}
use Rattle.sdv_commands.specs.Run.{FileUse, GivesImage, GivesInput, IsUnread, IsUnreadable, IsUnusable, IsUsed, LosesImage, Receives, StoresImage, UnlessImageTaken}
use Rattle.sdv_commands.specs.Run.{as_image, as_input, as_output, as_schedule, as_text, blocks_of, some_use}
use Rattle.sdv_commands.specs.Schedules.{GivesValues, IsWrongFile}
use Rattle.sdv_commands.specs.declared.attempt.Given.{Given}

-- THE FILES

-- those that are used before the schedule
abbrev pub first_uses : TryNames → List FileUse
first_uses names = as_text names.script ∷ as_text names.card ∷ as_image names.image ∷ []

-- in the order in which they are used; that of the output is made or emptied after the others
abbrev pub uses_of : TryNames → List FileUse
uses_of names =
    first_uses names
    ++ (some_use as_schedule names.schedule ++ (some_use as_input names.input ++ some_use as_output names.output))

-- the files of these names gave these texts and bytes, and this image
pub record AreGiven (files : Files) (names : TryNames) (given : Given) (image : CardImage) : Type 0 where
  pub script : files.gives names.script (string_bytes given.script)
  pub card : files.gives names.card (string_bytes given.card)
  pub of_image : GivesImage files names.image image
  pub schedule : GivesValues files names.schedule given.codes.items given.idle.items
  pub input : GivesInput files names.input given.input.items
  pub lines : given.lines ≡ names.lines

-- a line of the schedule is wrong, and each file before it was used
abbrev pub HasWrongSchedule : Files → TryNames → ScheduleFault → Type 0
HasWrongSchedule files names why =
    AllByRecursion (IsUsed files) (first_uses names) × IsWrongFile files names.schedule why

-- a file was not read, or a line of the schedule is wrong, or memory ran out
abbrev pub IsUnreadFor : Files → TryNames → Fault → Type 0
IsUnreadFor files names fault =
    IsUnread files (uses_of names) fault
    ⊎ ((why : ScheduleFault) × (fault ≡ Schedule why) × HasWrongSchedule files names why)

-- THE RUN

-- The script ran beside the card of the description over the image, with the schedule and the input blocks, and came to this.
-- `blocks'` is what is known of the card's blocks after it. Where it stops before what is not allowed there, the last line
-- of the trace says so, and over an image that shows its blocks the text is refuted: no certificate is accepted with it.
abbrev pub IsTried : (given : Given) (image : CardImage) (blocks' : Option (List Block)) (result : Result Watched RunFault)
    (out out' trace trace' : Option (List ℕ)) → Type 0
IsTried given image blocks' result out out' trace trace' =
    TriesText given.lines (string_bytes given.script) (string_bytes given.card) given.codes.items (blocks_of given.input.items)
    image.blocks blocks' out out' trace trace' result

-- the image is no whole number of blocks, or the text is a script, and by the description there is no card for it over
-- the image with the schedule
abbrev pub HasNoCardOver : (text card : Text) → (codes : List ℕ) → CardImage → (unread : Type 0) → SimFault → Type 0
HasNoCardOver text card codes image unread fault =
    ((image.bytes % 512 ≢ 0) × (fault ≡ cards.ImageLength)) ⊎ HasNoCard text card codes (image.bytes / 512) unread fault

-- why nothing was run; want of memory says nothing
abbrev pub RefusesTry : Given → CardImage → (unread : Type 0) → Fault → Type 0
RefusesTry given image unread (Script fault) = IsNoScript (string_bytes given.script)
RefusesTry given image unread OtherKind = IsOtherKind (string_bytes given.script) (string_bytes given.card)
RefusesTry given image unread (Card fault) =
    HasNoCardOver (string_bytes given.script) (string_bytes given.card) given.codes.items image unread fault
RefusesTry given image unread Memory = Unit {0}
RefusesTry given image unread fault = ⊥

-- THE END

-- The run took place, and the file of the image was closed with the card's blocks.
pub record IsKept (files : Files) (names : TryNames) (given : Given) (image : CardImage) (result : Result Watched RunFault)
    (out out' trace trace' : Option (List ℕ)) : Type 0 where
  pub blocks' : Option (List Block)
  pub tried : IsTried given image blocks' result out out' trace trace'
  pub stored : StoresImage files names.image blocks'

-- The run came to this. The file of the output took the blocks that it wrote.
pub record ComesTo (files : Files) (names : TryNames) (result : Result Watched RunFault)
    (trace trace' : Option (List ℕ)) : Type 0 where
  pub given : Given
  pub image : CardImage
  pub are_given : AreGiven files names given image
  pub out : Option (List ℕ)
  pub out' : Option (List ℕ)
  pub kept : IsKept files names given image result out out' trace trace'
  pub output : (bytes : List ℕ) → Appends out out' bytes → Receives files names.output bytes

-- The run took place, and then a file did not take all that it had to.
pub record IsLost (given : Given) (image : CardImage) (trace trace' : Option (List ℕ)) : Type 0 where
  pub blocks' : Option (List Block)
  pub result : Result Watched RunFault
  pub out : Option (List ℕ)
  pub out' : Option (List ℕ)
  pub tried : IsTried given image blocks' result out out' trace trace'

-- It was the file of the image, which did not take the card's blocks. Or that file was closed with them, and it was
-- that of the output.
pub record IsNotKept (files : Files) (names : TryNames) (file : Text) (trace trace' : Option (List ℕ)) : Type 0 where
  pub given : Given
  pub image : CardImage
  pub are_given : AreGiven files names given image
  pub lost : IsLost given image trace trace'
  pub is_file : ((file ≡ names.image) × LosesImage files names.image)
      ⊎ ((Some file ≡ names.output) × files.unfinished file × StoresImage files names.image lost.blocks')

-- There was no run.
pub record HasNoTry (files : Files) (names : TryNames) (fault : Fault) (trace trace' : Option (List ℕ)) : Type 0 where
  pub given : Given
  pub image : CardImage
  pub are_given : AreGiven files names given image
  pub refused : RefusesTry given image (IsUnreadable files names.image) fault
  pub kept : Keeps trace trace'

-- what the program answers to a run that came to its end, by the lines of the schedule that had no effect
abbrev pub unless_idle : List Idle → Option Fault → Option Fault
unless_idle [] outcome = outcome
unless_idle (line ∷ lines) outcome = Some NoEffect

-- what the program answers to a run that came to this
abbrev pub Answers : List Idle → Result Watched RunFault → Option Fault → Type 0
Answers idle (Ok (Ended ends.Done)) outcome = outcome ≡ unless_idle idle None
Answers idle (Ok (Ended (ends.Fault name))) outcome = outcome ≡ unless_idle idle (Some Named)
Answers idle (Ok (Stopped wrong)) outcome =
    (event : WrongEvent) × IsEventOf wrong event × (outcome ≡ Some (Wrong event))
Answers idle (Err fault) outcome = outcome ≡ Some (fault_of_run fault)

-- the file of the image did not take the card's blocks, or there was no run
abbrev pub FailsToKeep : Files → TryNames → Given → CardImage → Fault → (trace trace' : Option (List ℕ)) → Type 0
FailsToKeep files names given image (File file) trace trace' =
    IsLost given image trace trace' × (file.now ≡ names.image) × LosesImage files names.image
FailsToKeep files names given image fault trace trace' =
    RefusesTry given image (IsUnreadable files names.image) fault × Keeps trace trace'

-- The run came to this end, and each line of a schedule by name had an effect.
abbrev pub HasEffect : Files → TryNames → End → (trace trace' : Option (List ℕ)) → Type 0
HasEffect files names end trace trace' =
    (came : ComesTo files names (Ok (Ended end)) trace trace') × (came.given.idle.items ≡ [])

-- FAULTS: what each says of a run, and of what was printed. A run that has no memory is no run fault, but want of memory
abbrev pub TryFails : Files → TryNames → Fault → (trace trace' : Option (List ℕ)) → Type 0
TryFails files names (File file) trace trace' =
    (IsUnusable files (uses_of names) file.now × Keeps trace trace') ⊎ IsNotKept files names file.now trace trace'
TryFails files names (Wrong event) trace trace' =
    (wrong : WrongHere) × IsEventOf wrong event × ComesTo files names (Ok (Stopped wrong)) trace trace'
TryFails files names Named trace trace' =
    (end : End) × (end ≢ ends.Done) × HasEffect files names end trace trace'
TryFails files names NoEffect trace trace' =
    (end : End) × (came : ComesTo files names (Ok (Ended end)) trace trace') × (came.given.idle.items ≢ [])
TryFails files names (Run runs.Memory) trace trace' = ⊥
TryFails files names (Run fault) trace trace' = ComesTo files names (Err fault) trace trace'
TryFails files names (Schedule why) trace trace' = HasWrongSchedule files names why × Keeps trace trace'
TryFails files names Memory trace trace' = Keeps trace trace'
TryFails files names fault trace trace' = HasNoTry files names fault trace trace'

abbrev pub EndsApart : Files → TryNames → Ending
EndsApart files names None trace trace' = HasEffect files names ends.Done trace trace'
EndsApart files names (Some fault) trace trace' = TryFails files names fault trace trace'

-- THE COMMAND: no file is lost by a slip

-- in the order in which they are used
abbrev pub roles_of : TryNames → (image : Option Text) → List Role
roles_of names image =
    reads (Some names.script) ∷ reads (Some names.card) ∷ changes image ∷ reads names.schedule ∷ reads names.input
    ∷ writes names.output ∷ []

abbrev pub TryEnds : Files → TryNames → Ending
TryEnds files names = UnlessImageTaken files names.image (roles_of names) (EndsApart files names)

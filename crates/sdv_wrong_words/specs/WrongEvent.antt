-- WHY A RUN STOPS before what is not allowed at the card, on a line with the line of the script.
use Rattle.std.specs.Prelude.{◌≡◌, ◌*◌, ◌==◌, Bool, true, false, ℕ, List, [], ◌++◌, Option, Some, None, codes, decimal, if◌then◌else◌, option_and_then}
use Rattle.std.specs.Option.{option_map_or}
use Rattle.sdv_card.specs.declared.event.Event.{Event}
use Rattle.sdv_card.specs.declared.event.Event.TheVariants as events
use Rattle.sdv_card.specs.declared.state.State.{State}
use Rattle.sdv_explain.specs.Reason.{illegality_of}
use Rattle.sdv_refute.specs.declared.next.Next.{Next}
use Rattle.sdv_refute.specs.declared.next.Next.TheVariants.{Send, Receive, ReceiveRegister, Give, Wait, Done}
use Rattle.sdv_refute.specs.declared.sight.Sight.{Sight}
use Rattle.sdv_refute.specs.declared.wrong.Wrong.{Wrong}
use Rattle.sdv_refute.specs.WrongLine.{name_text}
use Rattle.sdv_telling.specs.declared.illegality.Illegality.{Illegality}
use Rattle.sdv_telling.specs.declared.illegality.Reason.{Reason}
use Rattle.sdv_telling.specs.declared.illegality.Reason.TheVariants as told
use Rattle.sdv_telling.specs.Cards.{state_word}
use Rattle.sdv_wrong_words.specs.declared.event.WrongEvent.{WrongEvent}
use Rattle.sdv_wrong_words.specs.declared.reason.Why.{Why}
use Rattle.sdv_wrong_words.specs.declared.reason.Why.TheVariants.{NoCommand, Application, NoApplication, BlockLength, EraseSequence, PresetCount, NoRead, NoRegister, NoWrite, OtherLines, Blocks, BlockUnit, ByteUnit, End}
use Rattle.sdv_wrong_words.specs.declared.reason.Why.TheVariants as why

-- THE REASON: of an event that is not legal, the first rule that is not kept; of a legal command, why its blocks are not in
-- bounds

abbrev pub event_of : Next → Option Event
event_of (Send ask position argument) = Some (events.Send ask)
event_of (Receive count) = Some events.RecvBlocks
event_of (ReceiveRegister count) = Some events.RecvReg
event_of (Give count) = Some events.Give
event_of Wait = Some events.Wait
event_of Done = None

abbrev pub illegality : Wrong → Option Illegality
illegality wrong = option_and_then (illegality_of wrong.kind wrong.shape.0) (event_of wrong.next)

abbrev pub why_illegal : Reason → Why
why_illegal told.NoCard = NoCommand
why_illegal told.NoCommand = NoCommand
why_illegal told.NotForApplications = Application
why_illegal told.OnlyForApplications = NoApplication
why_illegal (told.State state) = why.State
why_illegal told.BlockLength = BlockLength
why_illegal told.EraseSequence = EraseSequence
why_illegal (told.PresetCount count) = PresetCount
why_illegal told.NoReadDue = NoRead
why_illegal told.NoRegisterDue = NoRegister
why_illegal told.NoWriteDue = NoWrite
why_illegal (told.OtherLines card host) = OtherLines

abbrev pub other_unit : (block_unit : Bool) → Why
other_unit true = BlockUnit
other_unit false = ByteUnit

-- the argument is not the address of the block; or it is, and the card has not so many blocks
abbrev pub why_not_in_bounds : Next → Sight → Why
why_not_in_bounds (Send ask position argument) sight =
    if argument == (if sight.block_unit then position else 512 * position) then Blocks else other_unit sight.block_unit
why_not_in_bounds next sight = End

abbrev pub why_of : Wrong → Why
why_of wrong =
    option_map_or (λ (i : Illegality). why_illegal i.reason) (illegality wrong) (why_not_in_bounds wrong.next wrong.sight)

abbrev pub step_of : Wrong → Option State
step_of wrong = option_and_then (λ (i : Illegality). i.after_step) (illegality wrong)

pub record IsEventOf (wrong : Wrong) (e : WrongEvent) : Type 0 where
  pub line : e.line ≡ wrong.line
  pub next : e.next ≡ wrong.next
  pub state : e.state ≡ wrong.sight.state
  pub after_step : e.after_step ≡ step_of wrong
  pub why : e.why ≡ why_of wrong

-- THE LINE

-- what is amiss, behind the state of the card; `done` needs no more words
abbrev pub why_words : Why → List ℕ
why_words NoCommand = codes ", which has no such command"
why_words Application = codes " with the application flag"
why_words NoApplication = codes " without the application flag"
why_words why.State = codes ", where it is not legal"
why_words BlockLength = codes " whose block length is not 512 bytes"
why_words EraseSequence = codes " whose erase sequence is not so far"
why_words PresetCount = codes " with another count preset"
why_words NoRead = codes " with no read of blocks due"
why_words NoRegister = codes " with no register due"
why_words NoWrite = codes " with no write of blocks due"
why_words OtherLines = codes " that uses other data lines than the host"
why_words Blocks = codes ", which has not so many blocks"
why_words BlockUnit = codes " with block addresses, and its argument is none of the block"
why_words ByteUnit = codes " with byte addresses, and its argument is none of the block"
why_words End = []

abbrev pub by_itself : State → List ℕ
by_itself state = codes ", which may go to " ++ (state_word state ++ codes " state by itself")

abbrev pub step_text : Option State → List ℕ
step_text None = []
step_text (Some state) = by_itself state

abbrev pub wrong_event_text : WrongEvent → List ℕ
wrong_event_text e =
    codes "line " ++ (decimal e.line ++ (codes ": " ++ (name_text e.next ++ (codes " comes to a card in "
    ++ (state_word e.state ++ (codes " state" ++ (step_text e.after_step ++ (why_words e.why ++ codes "\n"))))))))

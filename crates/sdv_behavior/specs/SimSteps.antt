-- What a simulator does at each call: an exact table, by the behavior that its schedule has for the event.
-- The behaviors are this project's own. An event that is not legal at the card, or not in bounds, changes nothing.
use Rattle.std.specs.Prelude.{◌≡◌, ◌≤◌, ◌⊎◌, ◌==◌, ◌&&◌, ◌||◌, ◌+◌, ◌-◌, nat_le, min, Bool, true, false, ℕ, List, [], ◌∷◌, ◌++◌, length, take, replicate, Option, Some, None, MatchBool, if◌then◌else◌}
use Rattle.sdv_frames.specs.Frame.{IsCommand, IsCommandFrame, IsReplyFrame}
use Rattle.sdv_frames.specs.declared.command.Command.{Command}
use Rattle.sdv_frames.specs.declared.reply.Reply.{Reply}
use Rattle.sdv_card.specs.declared.answer.DataEnd.{DataEnd}
use Rattle.sdv_card.specs.declared.answer.DataEnd.TheVariants.{Ok, Cut}
use Rattle.sdv_card.specs.declared.answer.WaitEnd.{WaitEnd}
use Rattle.sdv_card.specs.declared.answer.WaitEnd.TheVariants.{Ok as Over, Late}
use Rattle.sdv_card.specs.declared.command.Order.{Order}
use Rattle.sdv_card.specs.declared.state.Mode.{Mode}
use Rattle.sdv_card.specs.declared.state.Place.{Place}
use Rattle.sdv_card.specs.declared.state.State.{State}
use Rattle.sdv_card.specs.declared.state.Transfer.{Transfer}
use Rattle.sdv_card.specs.declared.state.Transfer.TheVariants.{ScrDue, SdStatusDue}
use Rattle.sdv_card.specs.Card.{Card, Block}
use Rattle.sdv_card.specs.Legal.{recv_legal, recv_reg_legal, give_legal, wait_legal}
use Rattle.sdv_card.specs.Modes.{line_count}
use Rattle.sdv_card.specs.Phases.{after_phase, after_wait}
use Rattle.sdv_card.specs.Port.{DataIn, DataInRegister, DataOut, WaitWhileBusy}
use Rattle.sdv_card.specs.ScriptEvent.{BlocksIn, RegisterIn, BlocksOut, Waited}
use Rattle.sdv_card.specs.States.{is_open}
use Rattle.sdv_controller.specs.declared.wire.WireEnd.{WireEnd}
use Rattle.sdv_controller.specs.declared.wire.WireEnd.TheVariants.{Silent, Bytes}
use Rattle.sdv_controller.specs.Wire.{WireCall, WireReturn, Transfer as TransferFrame, OtherCall, Transferred, OtherReturn}
use Rattle.sdv_behavior.specs.declared.behavior.Behavior.{Behavior}
use Rattle.sdv_behavior.specs.declared.behavior.PhaseEnd.{PhaseEnd}
use Rattle.sdv_behavior.specs.declared.behavior.PhaseEnd.TheVariants as ends
use Rattle.sdv_behavior.specs.declared.card_desc.CardDesc.{CardDesc}
use Rattle.sdv_behavior.specs.declared.card_state.CardState.{CardState}
use Rattle.sdv_behavior.specs.declared.heard.Heard.{Heard}
use Rattle.sdv_behavior.specs.Accepts.{accepts}
use Rattle.sdv_behavior.specs.CardOf.{card_of}
use Rattle.sdv_behavior.specs.Commands.{order_read}
use Rattle.sdv_behavior.specs.Heard.{hear, unheard}
use Rattle.sdv_image.specs.Images.{HasFailed, Shown, OnlyAt, AreSized, ErasedUpTo, zeros}
use Rattle.sdv_behavior.specs.Layout.{partition_size, partition_place, image_size}
use Rattle.sdv_behavior.specs.Registers.{scr, sd_status, ext_csd_of}
use Rattle.sdv_behavior.specs.Schedules.{first_behavior, later_behaviors}

-- a simulator, as its steps see it
pub record SimState : Type 0 where
  pub desc : CardDesc
  pub card : CardState
  -- the behaviors that are left
  pub behaviors : List Behavior
  -- of the image: its blocks, if it shows them, and how many of its calls failed
  pub blocks : Option (List Block)
  pub failed : ℕ

abbrev pub state_with : CardDesc → CardState → List Behavior → Option (List Block) → (failed : ℕ) → SimState
state_with desc card behaviors blocks failed =
    record { desc = desc; card = card; behaviors = behaviors; blocks = blocks; failed = failed }

abbrev pub behavior_of : SimState → Behavior
behavior_of s = first_behavior s.behaviors

-- the card that a simulator shows, where its image shows its blocks
abbrev pub shown_card : CardDesc → CardState → Option (List Block) → Option Card
shown_card d s None = None
shown_card d s (Some blocks) = Some (card_of d s blocks)

abbrev pub card_shown : SimState → Option Card
card_shown s = shown_card s.desc s.card s.blocks

-- after a call: the description stays, the behavior is used up, and the card is in this state
pub record Goes (card : CardState) (s s' : SimState) : Type 0 where
  pub desc : s.desc ≡ s'.desc
  pub behaviors : later_behaviors s.behaviors ≡ s'.behaviors
  pub state : card ≡ s'.card

-- COMMANDS

abbrev pub heard_order : CardDesc → Behavior → Option Order → (argument : ℕ) → CardState → Heard
heard_order d behavior None argument s = unheard s
heard_order d behavior (Some order) argument s =
    if accepts d order argument s then hear d behavior order argument s else unheard s

abbrev pub heard_of : SimState → Command → Heard
heard_of s command =
    heard_order s.desc (behavior_of s) (order_read s.desc.kind s.card.preset command.index command.argument)
    command.argument s.card

-- what a wire gives for an answer: its frame, or silence
abbrev pub Gives : Option Reply → WireEnd → (response : List ℕ) → Type 0
Gives None end response = Silent ≡ end
Gives (Some reply) end response =
    (count : ℕ) × (Bytes count ≡ end) × (count ≤ 17) × IsReplyFrame reply (take count response)

-- the place in the image at which an erase ends: behind the last block named that the partition in access has
abbrev pub erase_end : CardDesc → CardState → ℕ
erase_end d s =
    partition_place d s.mode.partition + min (s.erase_last + 1) (partition_size d s.mode.partition)

-- the place at which it begins: that of the first block named, or its end where that stands before it
abbrev pub erase_start : CardDesc → CardState → ℕ
erase_start d s = min (partition_place d s.mode.partition + s.erase_first) (erase_end d s)

-- nothing is asked of the image
pub record SameImage (s s' : SimState) : Type 0 where
  pub blocks : s.blocks ≡ s'.blocks
  pub failed : s.failed ≡ s'.failed

-- zeros are written from the first place to before the end
pub record IsErased (first end : ℕ) (s s' : SimState) : Type 0 where
  pub zeroed : Shown first (zeros (end - first)) s'.blocks
  pub failed : s.failed ≡ s'.failed

-- a failure of the image ends that: zeros before the block that failed, anything in it, and no other block changed
pub record IsCutShort (first end : ℕ) (s s' : SimState) : Type 0 where
  pub blocks : ErasedUpTo first end s.blocks s'.blocks
  pub failed : HasFailed s.failed s'.failed

-- an erase does the one or the other, and changes no block beside those that it names
pub record Erased (first end size : ℕ) (s s' : SimState) : Type 0 where
  pub others : OnlyAt first (end - first) s.blocks s'.blocks
  pub fit : AreSized size s.blocks → AreSized size s'.blocks
  pub erased : IsErased first end s s' ⊎ IsCutShort first end s s'

abbrev pub BlocksLeft : (erases : Bool) → SimState → SimState → Type 0
BlocksLeft false s s' = SameImage s s'
BlocksLeft true s s' = Erased (erase_start s.desc s.card) (erase_end s.desc s.card) (image_size s.desc) s s'

pub record Transfers (heard : Heard) (end : WireEnd) (response : List ℕ) (s s' : SimState) : Type 0 where
  pub goes : Goes heard.after s s'
  pub gives : Gives heard.reply end response
  pub blocks : BlocksLeft heard.erases s s'

-- DATA PHASES

abbrev pub cuts : PhaseEnd → Bool
cuts ends.Cut = true
cuts phase = false

-- a phase from the card ends well, unless the behavior or a failure of the image cuts it
abbrev pub EndFits : PhaseEnd → (failed failed' : ℕ) → DataEnd → Type 0
EndFits phase failed failed' Ok = (cuts phase ≡ false) × (failed ≡ failed')
EndFits phase failed failed' Cut = ((cuts phase ≡ true) × (failed ≡ failed')) ⊎ HasFailed failed failed'

-- how a phase to the card ends for the host where the card has taken the blocks: well, unless their CRC status is lost
abbrev pub end_seen : PhaseEnd → DataEnd
end_seen ends.CrcStatusLost = Cut
end_seen phase = Ok

-- a phase to the card ends well for the host, and stores nothing
abbrev pub fails_later : PhaseEnd → Bool
fails_later ends.FailsLater = true
fails_later phase = false

-- the card with an error that a later status shows
abbrev pub with_error : CardState → CardState
with_error s = record s { unshown_error = true }

-- of what may follow the first; or, where the card moves on, the second, if there is one
abbrev pub among : {A : Type 0} → (moves : Bool) → (first : A) → (rest : List A) → A
among moves first [] = first
among moves first (second ∷ rest) = if moves then second else first

-- where the card is after a phase
abbrev pub placed_at : Place → CardState → CardState
placed_at place s = record s { state = place.state; transfer = place.transfer }

abbrev pub moved_to : (moves : Bool) → List Place → CardState → CardState
moved_to moves [] s = s
moved_to moves (place ∷ rest) s = placed_at (among moves place rest) s

abbrev pub phase_over : (moves : Bool) → DataEnd → CardState → CardState
phase_over moves end s = moved_to moves (after_phase s.transfer end) s

-- a phase uses the card's data lines
abbrev pub on_lines : CardState → (lines : ℕ) → Bool
on_lines s lines = lines == line_count s.mode.width

-- a block phase has blocks, the partition in access has them, and a transfer that is not open has as many
abbrev pub length_fits : CardDesc → CardState → ℕ → Bool
length_fits d s count =
    nat_le 1 count && nat_le (s.next_block + count) (partition_size d s.mode.partition)
    && (is_open s.transfer || (count == s.announced))

-- the place in the image of the next block of a transfer
abbrev pub next_place : CardDesc → CardState → ℕ
next_place d s = partition_place d s.mode.partition + s.next_block

abbrev pub receives : SimState → (lines count : ℕ) → Bool
receives s lines count =
    recv_legal s.card.state s.card.transfer && on_lines s.card lines && length_fits s.desc s.card count

abbrev pub takes_blocks : SimState → (lines count : ℕ) → Bool
takes_blocks s lines count =
    give_legal s.card.state s.card.transfer && on_lines s.card lines && length_fits s.desc s.card count

-- a phase that the card has not, or that uses other data lines than it: it is cut, and nothing changes
pub record Refused (end : DataEnd) (s s' : SimState) : Type 0 where
  pub goes : Goes s.card s s'
  pub end_is : Cut ≡ end
  pub same : SameImage s s'

-- a phase that ended well moved the true blocks
abbrev pub IfEndedWell : DataEnd → Type 0 → Type 0
IfEndedWell Ok fact = fact
IfEndedWell Cut fact = Unit {0}

pub record Receives (end : DataEnd) (blocks : List Block) (s s' : SimState) : Type 0 where
  pub goes : Goes (phase_over (behavior_of s).moves_on end s.card) s s'
  pub end_fits : EndFits (behavior_of s).phase s.failed s'.failed end
  pub truth : IfEndedWell end (Shown (next_place s.desc s.card) blocks s.blocks)
  pub same : s.blocks ≡ s'.blocks

-- the register that is due, as it is in a mode, and zeros after it
abbrev pub register_of : Transfer → CardDesc → Mode → List ℕ
register_of ScrDue d mode = scr
register_of SdStatusDue d mode = sd_status
register_of transfer d mode = ext_csd_of mode d.sectors d.boot_size_mult

abbrev pub padded : List ℕ → (count : ℕ) → List ℕ
padded register count = take count (register ++ replicate count 0)

abbrev pub receives_register : SimState → (lines count : ℕ) → Bool
receives_register s lines count =
    recv_reg_legal s.card.state s.card.transfer && on_lines s.card lines && nat_le 1 count

-- it asks nothing of the image, so the behavior alone cuts it
pub record ReceivesRegister (end : DataEnd) (bytes : List ℕ) (s s' : SimState) : Type 0 where
  pub goes : Goes (phase_over (behavior_of s).moves_on end s.card) s s'
  pub end_is : (if cuts (behavior_of s).phase then Cut else Ok) ≡ end
  pub truth : IfEndedWell end (bytes ≡ padded (register_of s.card.transfer s.desc s.card.mode) (length bytes))
  pub same : SameImage s s'

-- the card stores the blocks, and goes on as after a phase that ended well, whatever the host sees of the end
pub record StoresBlocks (end : DataEnd) (blocks : List Block) (s s' : SimState) : Type 0 where
  pub goes : Goes (phase_over (behavior_of s).moves_on Ok s.card) s s'
  pub uncut : cuts (behavior_of s).phase ≡ false
  pub works : fails_later (behavior_of s).phase ≡ false
  pub end_is : end_seen (behavior_of s).phase ≡ end
  pub stored : Shown (next_place s.desc s.card) blocks s'.blocks
  pub failed : s.failed ≡ s'.failed

-- the behavior cuts the phase, and nothing is stored; or a failure of the image does
pub record IsCutOff (end : DataEnd) (s s' : SimState) : Type 0 where
  pub goes : Goes (phase_over (behavior_of s).moves_on Cut s.card) s s'
  pub end_is : Cut ≡ end
  pub why : ((cuts (behavior_of s).phase ≡ true) × SameImage s s')
      ⊎ ((cuts (behavior_of s).phase ≡ false) × HasFailed s.failed s'.failed)

-- the card stores nothing, and the host sees the phase end well: a later status shows the error
pub record IsUnstored (end : DataEnd) (s s' : SimState) : Type 0 where
  pub goes : Goes (with_error (phase_over (behavior_of s).moves_on Ok s.card)) s s'
  pub end_is : Ok ≡ end
  pub fails : fails_later (behavior_of s).phase ≡ true
  pub same : SameImage s s'

-- a phase to the card does one of these, and changes no block beside those that it addresses
pub record TakesBlocks (end : DataEnd) (blocks : List Block) (s s' : SimState) : Type 0 where
  pub taken : StoresBlocks end blocks s s' ⊎ (IsCutOff end s s' ⊎ IsUnstored end s s')
  pub others : OnlyAt (next_place s.desc s.card) (length blocks) s.blocks s'.blocks
  pub fit : AreSized (image_size s.desc) s.blocks → AreSized (image_size s.desc) s'.blocks

-- WAITS

abbrev pub wait_end : (ready : Bool) → WaitEnd
wait_end true = Over
wait_end false = Late

abbrev pub waited_in : (moves : Bool) → List State → State → State
waited_in moves [] state = state
waited_in moves (first ∷ rest) state = among moves first rest

abbrev pub wait_state : (moves : Bool) → State → WaitEnd → CardState → CardState
wait_state moves state end s = record s { state = waited_in moves (after_wait state end) state }

pub record Waits (end : WaitEnd) (s s' : SimState) : Type 0 where
  pub goes : Goes (wait_state (behavior_of s).moves_on s.card.state end s.card) s s'
  pub end_is : (if wait_legal s.card.state then wait_end (behavior_of s).ready else Over) ≡ end
  pub same : SameImage s s'

-- ALL CALLS

abbrev pub SimSteps : SimState → WireCall → WireReturn → SimState → Type 0
SimSteps s (TransferFrame frame) (Transferred end response) s' =
    ((command : Command) → IsCommand command → IsCommandFrame command frame →
    Transfers (heard_of s command) end response s s')
    × (((command : Command) → IsCommand command → IsCommandFrame command frame → ⊥) →
    Transfers (unheard s.card) end response s s')
SimSteps s (OtherCall (DataIn lines count)) (OtherReturn (BlocksIn end blocks)) s' =
    (length blocks ≡ count) × MatchBool (receives s lines count) (Receives end blocks s s') (Refused end s s')
SimSteps s (OtherCall (DataInRegister lines count)) (OtherReturn (RegisterIn end bytes)) s' =
    (length bytes ≡ count)
    × MatchBool (receives_register s lines count) (ReceivesRegister end bytes s s') (Refused end s s')
SimSteps s (OtherCall (DataOut lines blocks)) (OtherReturn (BlocksOut end)) s' =
    MatchBool (takes_blocks s lines (length blocks)) (TakesBlocks end blocks s s') (Refused end s s')
SimSteps s (OtherCall WaitWhileBusy) (OtherReturn (Waited end)) s' = Waits end s s'
SimSteps s call returned s' = ⊥

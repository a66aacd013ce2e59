-- A RUN THAT WAS TRIED: beside the simulated card of a description, over an image, with the values of a schedule.
use Rattle.std.specs.Prelude.{◌≡◌, ◌≢◌, ◌⊎◌, Bool, ℕ, List, Option, Some, Result, Ok}
use Rattle.sdv_card.specs.Card.{Block, Card}
use Rattle.sdv_behavior.specs.declared.card_desc.CardDesc.{CardDesc}
use Rattle.sdv_behavior.specs.Gives.{Describes}
use Rattle.sdv_behavior.specs.Gives.{Refuses as IsNoCard}
use Rattle.sdv_behavior.specs.Layout.{image_size}
use Rattle.sdv_image.specs.declared.fault.SimFault.{SimFault}
use Rattle.sdv_image.specs.declared.fault.SimFault.TheVariants.{Memory as NoMemory}
use Rattle.sdv_behavior.specs.CardOf.{card_of, at_start}
use Rattle.sdv_behavior.specs.Schedules.{are_codes}
use Rattle.sdv_behavior.specs.SimSteps.{SimState, SimSteps, card_shown}
use Rattle.sdv_sim.specs.Made.{IsMade, IsRefused as IsUnmade}
use Rattle.sdv_controller.specs.Controlled.{ControllerSteps}
use Rattle.sdv_graph.specs.Graph.{Graph}
use Rattle.sdv_graph.specs.Walk.{Pair}
use Rattle.sdv_script.specs.Script.{Parsed, IsScript}
use Rattle.sdv_script.specs.declared.fault.FaultKind.TheVariants as kinds
use Rattle.sdv_check.specs.Verified.{Acceptance, IsAccepted, IsGraphOfText, IsNoScript}
use Rattle.sdv_run.specs.declared.fault.RunFault.{RunFault}
use Rattle.sdv_refute.specs.declared.wrong.Watched.{Watched}
use Rattle.sdv_refute.specs.declared.wrong.Watched.TheVariants as comes
use Rattle.sdv_refute.specs.declared.wrong.Wrong.{Wrong}
use Rattle.sdv_refute.specs.declared.simulated.TryFault.{TryFault}
use Rattle.sdv_refute.specs.declared.simulated.TryFault.TheVariants.{Script, Kind, Card as NoCard, Memory}
use Rattle.sdv_refute.specs.Refutes.{Coming, Refutes}
use Rattle.sdv_refute.specs.Told.{WatchesAs}
use Rattle.sdv_refute.specs.Watched.{Names}

-- The graph ran beside the card, which takes each event by the value of the schedule. `blocks` and `blocks'` are what is
-- known of the image before and after. The trace tells the data lines of the host or not.
pub record Tries (telling : Bool) (g : Graph) (desc : CardDesc) (codes : List ℕ) (input : List Block)
    (blocks blocks' : Option (List Block)) (out out' trace trace' : Option (List ℕ)) (result : Result Watched RunFault)
    : Type 0 where
  pub kind : g.kind ≡ desc.kind
  pub card : SimState
  pub made : IsMade desc codes blocks card
  pub card' : SimState
  pub shown : card'.blocks ≡ blocks'
  pub left : List Block
  pub watched : WatchesAs telling (ControllerSteps SimSteps) card_shown g
      (record { port = card; input = input; out = out; trace = trace })
      (record { port = card'; input = left; out = out'; trace = trace' }) result

-- no certificate is accepted with the text
abbrev pub IsRefused : (text : List ℕ) → Type 0
IsRefused text = (certificate : List ℕ) (a : Acceptance) → IsAccepted text certificate a → ⊥

-- the text is a script, which a run beside the card refutes by what comes next
pub record RefutesText (text : List ℕ) (c : Card) (wrong : Wrong) : Type 0 where
  pub script : Parsed
  pub same : script.text ≡ text
  pub is_script : IsScript script
  pub events : List Pair
  pub coming : Coming
  pub named : Names wrong.next coming
  pub refutes : Refutes script c events coming
  pub refused : IsRefused text

-- where something was wrong beside an image that shows its blocks, the text is refuted
abbrev pub RefutesIfWrong : (text : List ℕ) → CardDesc → (blocks : Option (List Block)) → Result Watched RunFault → Type 0
RefutesIfWrong text desc blocks (Ok (comes.Stopped wrong)) =
    (shown : List Block) → blocks ≡ Some shown → RefutesText text (card_of desc (at_start desc) shown) wrong
RefutesIfWrong text desc blocks result = Unit {0}

-- The script of a text ran beside the card of a description.
pub record TriesText (telling : Bool) (text card : List ℕ) (codes : List ℕ) (input : List Block)
    (blocks blocks' : Option (List Block)) (out out' trace trace' : Option (List ℕ)) (result : Result Watched RunFault)
    : Type 0 where
  pub graph : Graph
  pub of_text : IsGraphOfText text graph
  pub desc : CardDesc
  pub described : Describes card desc
  pub tries : Tries telling graph desc codes input blocks blocks' out out' trace trace' result
  pub refutes : RefutesIfWrong text desc blocks result

-- WHY NOTHING WAS RUN

-- the script is for another kind of card than the description
pub record IsOtherKind (text card : List ℕ) : Type 0 where
  pub graph : Graph
  pub of_text : IsGraphOfText text graph
  pub desc : CardDesc
  pub described : Describes card desc
  pub other : graph.kind ≢ desc.kind

-- the description is of the script's kind, and there is no such card with the schedule over an image of so many blocks
pub record IsUnmadeFor (g : Graph) (desc : CardDesc) (codes : List ℕ) (size : ℕ) (unread : Type 0) (fault : SimFault)
    : Type 0 where
  pub kind : g.kind ≡ desc.kind
  pub unmade : IsUnmade (are_codes codes) size (image_size desc) unread fault

-- the text is a script, and the description gives no card, or there is none
pub record HasNoCard (text card : List ℕ) (codes : List ℕ) (size : ℕ) (unread : Type 0) (fault : SimFault)
    : Type 0 where
  pub graph : Graph
  pub of_text : IsGraphOfText text graph
  pub none : IsNoCard card fault
      ⊎ ((desc : CardDesc) × Describes card desc × IsUnmadeFor graph desc codes size unread fault)

-- want of memory says nothing

abbrev pub NotTried : Graph → CardDesc → (codes : List ℕ) → (size : ℕ) → (unread : Type 0) → TryFault → Type 0
NotTried g desc codes size unread (Script fault) = ⊥
NotTried g desc codes size unread Kind = g.kind ≢ desc.kind
NotTried g desc codes size unread (NoCard fault) = fault ≢ NoMemory → IsUnmadeFor g desc codes size unread fault
NotTried g desc codes size unread Memory = Unit {0}

abbrev pub TryRefuses : (text card : List ℕ) → (codes : List ℕ) → (size : ℕ) → (unread : Type 0) → TryFault → Type 0
TryRefuses text card codes size unread (Script fault) = fault.kind ≢ kinds.Memory → IsNoScript text
TryRefuses text card codes size unread Kind = IsOtherKind text card
TryRefuses text card codes size unread (NoCard fault) = fault ≢ NoMemory → HasNoCard text card codes size unread fault
TryRefuses text card codes size unread Memory = Unit {0}

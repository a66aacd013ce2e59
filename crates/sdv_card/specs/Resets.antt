-- CMD0 FROM ANY STATE: it is legal in every state of the tables, and the card after it is one before its first command.
-- SD Physical Layer Simplified Specification, section 4.2.1; JESD84-B51, section 6.4.1. A card that no state of the
-- tables shows may hear no CMD0: one that is inactive or asleep, say.
use Rattle.std.specs.Prelude.{◌≡◌}
use Rattle.sdv_registers.specs.declared.kind.Kind.{Kind}
use Rattle.sdv_card.specs.declared.command.Order.TheVariants.{GoIdleState}
use Rattle.sdv_card.specs.declared.answer.Answer.TheVariants.{Sent}
use Rattle.sdv_card.specs.Card.{Card}
use Rattle.sdv_card.specs.CommandTable.{Asks}
use Rattle.sdv_card.specs.Legal.{EventLegal, InBounds}
use Rattle.sdv_card.specs.Profile.{IsOfProfile, IsAtStart}
use Rattle.sdv_card.specs.ScriptEvent.{ScriptEvent, SendCommand, Return, Answered}
use Rattle.sdv_card.specs.Step.{Step}
use Rattle.sdv_card.specs.Taken.{SameCard}

-- the event is CMD0, whose argument is 0
abbrev pub IsReset : Kind → ScriptEvent → Type 0
IsReset k (SendCommand ask position argument) = Asks k ask GoIdleState × (argument ≡ 0)
IsReset k event = ⊥

-- After CMD0 a card is one before its first command, with the same registers and contents, and CMD0 was not answered.
pub record IsReborn (event : ScriptEvent) (c : Card) (returned : Return) (u : Card) : Type 0 where
  pub start : IsAtStart u
  pub same : SameCard c u
  pub contents : c.contents ≡ u.contents
  pub sent : returned ≡ Answered Sent
  -- the same CMD0 leads from there to itself
  pub again : Step event u returned u

-- So it is of each card of the profile: in whatever state, transfer, erase stage, data width and partition, with whatever
-- address, block length and preset count, and with whatever error pending.
pub record ResetsStartCards (k : Kind) : Type 0 where
  pub legal : (event : ScriptEvent) (c : Card) → IsReset k event → k ≡ c.kind → EventLegal event c
  pub bounds : (event : ScriptEvent) (c : Card) → IsReset k event → k ≡ c.kind → InBounds event c
  pub reborn : (event : ScriptEvent) (c : Card) (returned : Return) (u : Card) → IsReset k event → k ≡ c.kind →
      IsOfProfile c → Step event c returned u → IsReborn event c returned u

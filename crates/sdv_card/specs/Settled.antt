-- The card that a command meets: the card as it is, or after one step of its own.
-- SD Physical Layer Simplified Specification, section 4.3 (data transfer state diagram); JESD84-B51, section 6.6.
use Rattle.std.specs.Prelude.{◌≡◌, ◌⊎◌, Some}
use Rattle.sdv_card.specs.declared.state.State.{State}
use Rattle.sdv_card.specs.declared.state.Transfer.TheVariants.{Nothing}
use Rattle.sdv_card.specs.States.{own_target}
use Rattle.sdv_card.specs.Card.{Card}

-- t is c after its own step: data are sent, or programming is done
abbrev pub OwnStep : Card → Card → Type 0
OwnStep c t = (s : State) × (own_target c.state c.transfer ≡ Some s) × (record c { state = s; transfer = Nothing } ≡ t)

abbrev pub Settled : Card → Card → Type 0
Settled c t = (c ≡ t) ⊎ OwnStep c t

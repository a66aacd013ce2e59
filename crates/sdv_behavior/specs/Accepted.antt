-- What a simulated card accepts, in the words of the tables: a command that is legal at each settled card, and
-- addresses blocks that the card has, from the position that its argument names.
use Rattle.std.specs.Prelude.{◌≡◌, ◌↔◌, ℕ, List, true}
use Rattle.sdv_card.specs.declared.command.Order.{Order}
use Rattle.sdv_card.specs.Card.{Card, Block}
use Rattle.sdv_card.specs.Exchange.{card_takes}
use Rattle.sdv_card.specs.Laws.{order_blocks}
use Rattle.sdv_card.specs.Legal.{SettledLegal, BlocksWithin}
use Rattle.sdv_card.specs.Settled.{Settled}
use Rattle.sdv_behavior.specs.declared.card_desc.CardDesc.{CardDesc}
use Rattle.sdv_behavior.specs.declared.card_state.CardState.{CardState}
use Rattle.sdv_behavior.specs.Accepts.{accepts}
use Rattle.sdv_behavior.specs.CardOf.{card_of}

pub record IsAcceptable (order : Order) (argument : ℕ) (c : Card) : Type 0 where
  pub legal : (t : Card) → Settled c t → SettledLegal (card_takes t order argument) t
  pub position : ℕ
  pub bounds : BlocksWithin (order_blocks order) c position argument

abbrev pub AcceptsExactly : Type 0
AcceptsExactly =
    (d : CardDesc) (order : Order) (argument : ℕ) (s : CardState) (blocks : List Block) →
    (accepts d order argument s ≡ true) ↔ IsAcceptable order argument (card_of d s blocks)

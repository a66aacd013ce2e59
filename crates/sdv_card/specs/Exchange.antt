-- One command and what comes of it: the exchanges that a card makes.
-- SD Physical Layer Simplified Specification, sections 4.6 (error conditions) and 4.12 (timings); JESD84-B51, section
-- 6.8. Which commands and responses are lost, and what a loss leaves, is this project's profile.
use Rattle.std.specs.Prelude.{◌≡◌, ◌⊎◌, ◌/◌, true, false, ℕ}
use Rattle.sdv_card.specs.declared.command.Order.{Order}
use Rattle.sdv_card.specs.declared.command.Order.TheVariants.{DeselectCards}
use Rattle.sdv_card.specs.declared.command.Row.{Row}
use Rattle.sdv_card.specs.declared.command.Response.{Response}
use Rattle.sdv_card.specs.declared.command.Response.TheVariants.{Absent, NotAddressed, CardStatus, NewAddress}
use Rattle.sdv_card.specs.declared.command.TakenAs.{TakenAs}
use Rattle.sdv_card.specs.declared.command.TakenAs.TheVariants.{Forbidden, Ignored, By}
use Rattle.sdv_card.specs.declared.answer.Answer.{Answer}
use Rattle.sdv_card.specs.declared.answer.Answer.TheVariants.{Sent, TimeOut, Reply}
use Rattle.sdv_card.specs.Takes.{taken_as_of, matches}
use Rattle.sdv_card.specs.Responses.{response_of}
use Rattle.sdv_card.specs.Card.{Card}
use Rattle.sdv_card.specs.Settled.{Settled}
use Rattle.sdv_card.specs.Taken.{Taken, Stayed}
use Rattle.sdv_card.specs.Agrees.{Agrees}

-- how a card takes an order whose argument has a relative address in bits 31..16
abbrev pub card_takes : Card → Order → ℕ → TakenAs
card_takes t order argument = taken_as_of order t.app (matches t.rca (argument / 65536))

-- CMD0 ends an error that no status has shown
pub record Reset (row : Row) (argument : ℕ) (t u : Card) : Type 0 where
  pub card : Taken row true argument t u
  pub error : false ≡ u.unshown_error

-- the response was lost, and with it an error that no status has shown
pub record TakenUnheard (row : Row) (argument : ℕ) (t u : Card) : Type 0 where
  pub card : Taken row false argument t u
  pub error : false ≡ u.unshown_error

pub record StayedUnheard (row : Row) (t u : Card) : Type 0 where
  pub card : Stayed row false t u
  pub error : false ≡ u.unshown_error

-- with a status or an address as response a card may have stayed
abbrev pub LostStayed : Response → Row → Card → Card → Type 0
LostStayed CardStatus row t u = StayedUnheard row t u
LostStayed NewAddress row t u = StayedUnheard row t u
LostStayed response row t u = ⊥

-- no response: the command was lost, or its response was
abbrev pub Lost : Response → Row → ℕ → Card → Card → Type 0
Lost response row argument t u = (t ≡ u) ⊎ (TakenUnheard row argument t u ⊎ LostStayed response row t u)

-- a card that is not addressed takes the row unseen
pub record TakenUnseen (row : Row) (argument : ℕ) (t u : Card) : Type 0 where
  pub card : Taken row true argument t u
  pub error : t.unshown_error ≡ u.unshown_error

-- what a host hears where no card is addressed: it waits for a response, unless it addressed none
abbrev pub unaddressed_answer : Order → Answer
unaddressed_answer DeselectCards = Sent
unaddressed_answer order = TimeOut

-- what comes of a row at a settled card t
abbrev pub RowAnswer : Response → Order → Row → ℕ → Card → Answer → Card → Type 0
RowAnswer Absent order row argument t Sent u = Reset row argument t u
RowAnswer Absent order row argument t answer u = ⊥
RowAnswer NotAddressed order row argument t answer u =
    (unaddressed_answer order ≡ answer) × ((t ≡ u) ⊎ TakenUnseen row argument t u)
RowAnswer response order row argument t TimeOut u = Lost response row argument t u
RowAnswer response order row argument t (Reply reply) u = Agrees response row argument t reply u
RowAnswer response order row argument t answer u = ⊥

-- what comes of an order at a settled card t
abbrev pub SettledAnswer : TakenAs → Order → ℕ → Card → Answer → Card → Type 0
SettledAnswer Forbidden order argument t answer u = ⊥
SettledAnswer Ignored order argument t answer u = (TimeOut ≡ answer) × (t ≡ u)
SettledAnswer (By row) order argument t answer u = RowAnswer (response_of row) order row argument t answer u

-- what comes of an order at a card
pub record Exchanges (order : Order) (argument : ℕ) (c : Card) (answer : Answer) (u : Card) : Type 0 where
  pub settled_card : Card
  pub settled : Settled c settled_card
  pub answered : SettledAnswer (card_takes settled_card order argument) order argument settled_card answer u

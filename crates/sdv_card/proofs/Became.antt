-- A command leaves a settled card as it is, or the card took a row, or it stayed.
use Rattle.std.proofs.Common.{◌≡◌, ℕ, ◌⊎◌, inl, inr, refl, Bool, true, false}
use Rattle.sdv_frames.specs.declared.reply.Reply.TheVariants.{R1, R3, R6}
use Rattle.sdv_card.specs.declared.command.Order.{Order}
use Rattle.sdv_card.specs.declared.command.Row.{Row}
use Rattle.sdv_card.specs.declared.command.Response.{Response}
use Rattle.sdv_card.specs.declared.command.Response.TheVariants.{Absent, NotAddressed, CardStatus, NewAddress, Contents, Conditions}
use Rattle.sdv_card.specs.declared.command.TakenAs.{TakenAs}
use Rattle.sdv_card.specs.declared.command.TakenAs.TheVariants.{Forbidden, Ignored, By}
use Rattle.sdv_card.specs.declared.answer.Answer.{Answer}
use Rattle.sdv_card.specs.declared.answer.Answer.TheVariants.{Sent, TimeOut, Reply as Replied}
use Rattle.sdv_card.specs.ResponseStatus.{in_doubt}
use Rattle.sdv_card.specs.Responses.{response_of}
use Rattle.sdv_card.specs.Card.{Card}
use Rattle.sdv_card.specs.Taken.{Taken, Stayed}
use Rattle.sdv_card.specs.Agrees.{TakenOrStayed, Published}
use Rattle.sdv_card.specs.Exchange.{TakenUnseen, Lost, LostStayed, RowAnswer, SettledAnswer}

-- the card took the row by which it takes the command
pub record Took (way : TakenAs) (argument : ℕ) (t u : Card) : Type 0 where
  pub row : Row
  pub by : way ≡ By row
  pub heard : Bool
  pub taken : Taken row heard argument t u

-- the card was reached by the command and did not take its row
pub record Left (way : TakenAs) (t u : Card) : Type 0 where
  pub row : Row
  pub by : way ≡ By row
  pub heard : Bool
  pub stayed : Stayed row heard t u

abbrev pub Became : TakenAs → ℕ → Card → Card → Type 0
Became way argument t u = (t ≡ u) ⊎ (Took way argument t u ⊎ Left way t u)

took : (row : Row) (heard : Bool) (argument : ℕ) (t u : Card) → Taken row heard argument t u → Became (By row) argument t u
took row heard argument t u m = inr (inl (record { row = row; by = refl; heard = heard; taken = m }))

left : (row : Row) (heard : Bool) (argument : ℕ) (t u : Card) → Stayed row heard t u → Became (By row) argument t u
left row heard argument t u m = inr (inr (record { row = row; by = refl; heard = heard; stayed = m }))

of_lost_stayed : (response : Response) (row : Row) (argument : ℕ) (t u : Card) → LostStayed response row t u → Became (By row) argument t u
of_lost_stayed CardStatus row argument t u m = left row false argument t u m.card
of_lost_stayed NewAddress row argument t u m = left row false argument t u m.card
of_lost_stayed response row argument t u m = absurd m

of_lost : (response : Response) (row : Row) (argument : ℕ) (t u : Card) → Lost response row argument t u → Became (By row) argument t u
of_lost response row argument t u (inl e) = inl e
of_lost response row argument t u (inr (inl m)) = took row false argument t u m.card
of_lost response row argument t u (inr (inr m)) = of_lost_stayed response row argument t u m

of_doubt : (row : Row) (argument : ℕ) (t u : Card) (doubt : Bool) → TakenOrStayed row argument t doubt u → Became (By row) argument t u
of_doubt row argument t u doubt (inl m) = took row true argument t u m
of_doubt row argument t u doubt (inr m) = left row true argument t u m.1

of_address : (row : Row) (argument : ℕ) (t u : Card) (word : ℕ) (doubt : Bool) →
    Published row argument t word u ⊎ ((doubt ≡ true) × Stayed row true t u) → Became (By row) argument t u
of_address row argument t u word doubt (inl m) = took row true argument t u m.card
of_address row argument t u word doubt (inr m) = left row true argument t u m.1

of_unseen : (row : Row) (argument : ℕ) (t u : Card) → (t ≡ u) ⊎ TakenUnseen row argument t u → Became (By row) argument t u
of_unseen row argument t u (inl e) = inl e
of_unseen row argument t u (inr m) = took row true argument t u m.card

of_row : (response : Response) (order : Order) (row : Row) (argument : ℕ) (t u : Card) (answer : Answer) →
    RowAnswer response order row argument t answer u → Became (By row) argument t u
of_row Absent order row argument t u Sent a = took row true argument t u a.card
of_row NotAddressed order row argument t u answer a = of_unseen row argument t u a.1
of_row CardStatus order row argument t u TimeOut a = of_lost CardStatus row argument t u a
of_row NewAddress order row argument t u TimeOut a = of_lost NewAddress row argument t u a
of_row Contents order row argument t u TimeOut a = of_lost Contents row argument t u a
of_row Conditions order row argument t u TimeOut a = of_lost Conditions row argument t u a
of_row CardStatus order row argument t u (Replied (R1 index word)) a = of_doubt row argument t u (in_doubt (R1 index word)) a.card
of_row NewAddress order row argument t u (Replied (R6 word)) a = of_address row argument t u word (in_doubt (R6 word)) a.card
of_row Conditions order row argument t u (Replied (R3 word)) a = took row true argument t u a.card
of_row Contents order row argument t u (Replied reply) a = took row true argument t u a.card
of_row response order row argument t u answer a = absurd a

-- whatever comes of a command
pub became : (way : TakenAs) (order : Order) (argument : ℕ) (t u : Card) (answer : Answer) →
    SettledAnswer way order argument t answer u → Became way argument t u
became Forbidden order argument t u answer a = absurd a
became Ignored order argument t u answer a = inl a.1
became (By row) order argument t u answer a = of_row (response_of row) order row argument t u answer a

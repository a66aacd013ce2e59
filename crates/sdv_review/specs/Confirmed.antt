-- When an answer CONFIRMS a write: a write phase that ended well stored its blocks, or left an error that is still to be
-- shown, and an answer in transfer state without a doubt shows that there is none.
use Rattle.std.specs.Prelude.{◌≡◌, ℕ, Bool, true, false, List, length}
use Rattle.sdv_frames.specs.declared.reply.Reply.{Reply}
use Rattle.sdv_card.specs.declared.answer.Answer.{Answer}
use Rattle.sdv_card.specs.declared.answer.Answer.TheVariants.{Reply as Replied}
use Rattle.sdv_card.specs.declared.answer.DataEnd.TheVariants.{Ok}
use Rattle.sdv_card.specs.declared.event.Ask.{Ask}
use Rattle.sdv_card.specs.Card.{Card, Block}
use Rattle.sdv_card.specs.Phases.{PhaseOut}
use Rattle.sdv_card.specs.Seen.{answer_seen}
use Rattle.sdv_card.specs.Step.{Sends}
use Rattle.sdv_review.specs.CertainData.{StandIn, given_at}
use Rattle.sdv_review.specs.Statuses.{confirms, keeps}

-- the blocks stand where no error is left
abbrev pub StoredUnlessError : Type 0
StoredUnlessError = (c u : Card) (blocks : List Block) → length blocks ≡ c.announced → PhaseOut blocks Ok c u
    → u.unshown_error ≡ false → StandIn u.contents (given_at c blocks)

-- an answer that confirms was given by a card without one
abbrev pub ConfirmedByAnswer : Type 0
ConfirmedByAnswer = (ask : Ask) (argument : ℕ) (c u : Card) (answer : Answer) (pending : Bool) → Sends ask argument c answer u
    → confirms ask (answer_seen c.kind pending answer) ≡ true → c.unshown_error ≡ false

-- a response without a doubt leaves it as it was
abbrev pub KeptByAnswer : Type 0
KeptByAnswer = (ask : Ask) (argument : ℕ) (c u : Card) (reply : Reply) (pending : Bool)
    → Sends ask argument c (Replied reply) u → keeps ask (answer_seen c.kind pending (Replied reply)) ≡ true
    → c.unshown_error ≡ u.unshown_error

-- So the blocks stand after a write phase that ended well, once an answer to the next command confirms it.
abbrev pub StoredOnceConfirmed : Type 0
StoredOnceConfirmed = (c u v : Card) (blocks : List Block) (ask : Ask) (argument : ℕ) (answer : Answer) (pending : Bool)
    → length blocks ≡ c.announced → PhaseOut blocks Ok c u → Sends ask argument u answer v
    → confirms ask (answer_seen u.kind pending answer) ≡ true → StandIn u.contents (given_at c blocks)

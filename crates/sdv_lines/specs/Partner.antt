-- The other side of the lines as a port of its own: it makes each call that it is asked for, once, and its answer tells
-- what that gave. Where that port shows a card, over a bus that may damage responses, so does the port of lines.
use Rattle.std.specs.Prelude.{◌≡◌, ℕ, List, Option, None}
use Rattle.std.specs.Io.KnownBytes.{Appends, Consumes}
use Rattle.sdv_card.specs.Card.{Card}
use Rattle.sdv_card.specs.Damage.{counts_as}
use Rattle.sdv_card.specs.Port.{Call, KeepsTables}
use Rattle.sdv_card.specs.ScriptEvent.{Return}
use Rattle.sdv_lines.specs.Texts.{lines_of, trims}
use Rattle.sdv_lines.specs.declared.due.Due.{Due}
use Rattle.sdv_lines.specs.Due.{Announces}
use Rattle.sdv_lines.specs.Requests.{request_of}
use Rattle.sdv_lines.specs.Answers.{IsAnswer, Answers}
use Rattle.sdv_lines.specs.Streams.{Streams, Asked, Spends, commands_of}

-- the port of lines, and the port on the other side
pub record Both (S : Type 0) : Type 0 where
  pub streams : Streams
  pub other : S

-- texts tell what a call of the other side gave; a damaged response counts as a lost one
abbrev pub Tells : Call → List (List ℕ) → Return → Type 0
Tells call texts gave = IsAnswer call (trims texts) (counts_as gave)

-- one call of each: the lines that the port read are an answer that tells what the other side's call gave
pub record BothMade {S : Type 0} (steps : S → Call → Return → S → Type 0) (call : Call) (returned : Return)
    (b b' : Both S) : Type 0 where
  pub texts : List (List ℕ)
  pub gave : Return
  pub due : Option Due
  pub announced : Announces call due
  pub written : Appends b.streams.requests b'.streams.requests (request_of due call)
  pub read : Consumes b.streams.answers b'.streams.answers (lines_of texts)
  pub heard : Answers call texts returned
  pub told : Tells call texts gave
  pub step : steps b.other call gave b'.other
  pub spent : Spends (commands_of call) b.streams.left b'.streams.left
  pub well : b'.streams.fault ≡ None

abbrev pub BothSteps : {S : Type 0} → (S → Call → Return → S → Type 0) → Both S → Call → Return → Both S → Type 0
BothSteps steps b call returned b' = BothMade steps call returned b b'

-- the card of the other side
abbrev pub other_card : {S : Type 0} → (S → Option Card) → Both S → Option Card
other_card card b = card b.other

-- these steps keep the tables, and each is one of the port of lines
abbrev pub ShowsOtherCard : {S : Type 0} → (S → Call → Return → S → Type 0) → (S → Option Card) → Type 0
ShowsOtherCard {S} steps card =
    KeepsTables (BothSteps steps) (other_card card)
    × ((call : Call) (returned : Return) (b b' : Both S) → BothMade steps call returned b b' →
    Asked call returned b.streams b'.streams)

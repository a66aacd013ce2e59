-- Ports over ports, and ports that show no card.
use Rattle.std.specs.Prelude.{◌≡◌, Option, Some, None}
use Rattle.sdv_card.specs.Card.{Card}
use Rattle.sdv_card.specs.Legal.{TransferOnCard}
use Rattle.sdv_card.specs.Port.{Call, Shows, Kept, KeepsTables, PhaseOnCard}
use Rattle.sdv_card.specs.ScriptEvent.{ScriptEvent, SendCommand, ReceiveBlocks, ReceiveRegister, GiveBlocks, AwaitReady, Return}

-- where nothing is shown, no card is
pub none_shown : {S : Type 0} (s : S) (c : Card) → Shows (λ _. None) s c → ⊥
none_shown s c shown = let no : ◌≡◌ {A = Option Card} None (Some shown.shown) = shown.shows in cc

-- what shows no card keeps the tables, whatever it does
pub shows_none_keeps : {S : Type 0} (steps : S → Call → Return → S → Type 0) → KeepsTables steps (λ _. None)
shows_none_keeps steps s s' k event c h returned shown fine step = absurd (none_shown s c shown)

-- the card of a part is shown by the whole
inner : {C S : Type 0} (part : C → S) (card : S → Option Card) (s : C) (c : Card) → Shows (λ x. card (part x)) s c → Shows card (part s) c
inner part card s c shown = record { shown = shown.shown; shows = shown.shows; same = shown.same; count = shown.count }

outer : {C S : Type 0} (part : C → S) (card : S → Option Card) (s' : C) (event : ScriptEvent) (c : Card) (returned : Return)
    → Kept card event c returned (part s') → Kept (λ x. card (part x)) event c returned s'
outer part card s' event c returned kept = record {
  after = kept.after;
  step = kept.step;
  shown = record { shown = kept.shown.shown; shows = kept.shown.shows; same = kept.shown.same; count = kept.shown.count };
}

-- what holds a part that keeps the tables keeps them, where its steps are those of the part
pub keeps_by_part : {C S : Type 0} (part : C → S) (steps : S → Call → Return → S → Type 0) (card : S → Option Card) → KeepsTables steps card →
    KeepsTables (λ s call returned s'. steps (part s) call returned (part s')) (λ s. card (part s))
keeps_by_part part steps card keeps s s' k event c h returned shown fine step =
    outer part card s' event c returned (keeps (part s) (part s') k event c h returned (inner part card s c shown) fine step)

-- where the blocks of a transfer lie on the card, those of a phase do
pub phase_on_card : (event : ScriptEvent) (c : Card) → TransferOnCard c → PhaseOnCard event c
phase_on_card (SendCommand ask position argument) c on = tt
phase_on_card (ReceiveBlocks lines count) c on = on
phase_on_card (ReceiveRegister lines count) c on = on
phase_on_card (GiveBlocks lines blocks) c on = on
phase_on_card AwaitReady c on = on

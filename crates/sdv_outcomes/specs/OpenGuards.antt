-- The guards that the tables leave open: what is seen of an answer does not say whether they hold of it.
-- This project's own.
use Rattle.std.specs.Prelude.{◌≡◌, Bool, [], ◌∷◌}
use Rattle.sdv_registers.specs.declared.kind.Kind.{Kind}
use Rattle.sdv_card.specs.declared.event.Seen.{Seen}
use Rattle.sdv_card.specs.declared.guard.Guard.{Guard}
use Rattle.sdv_card.specs.declared.guard.Guard.TheVariants.{Clean, Ready as ReadyForData, OcrBlock}
use Rattle.sdv_card.specs.Lists.{May}
use Rattle.sdv_card.specs.ScriptEvent.{Return}
use Rattle.sdv_card.specs.Guards.{passes, verdict, Open}

-- only these are ever open: `clean` and `ready` of a status, and `ocr.block` of a card that is not powered up
abbrev pub OnlyTheseAreOpen : Type 0
OnlyTheseAreOpen = (guard : Guard) (seen : Seen) → verdict guard seen ≡ Open →
    May (Clean ∷ ReadyForData ∷ OcrBlock ∷ []) guard

-- whether each of them holds
pub record OpenGuards : Type 0 where
  pub clean : Bool
  pub ready : Bool
  pub block : Bool

-- each guard that is open at what is seen holds of what was returned where it is said to, and fails elsewhere
pub record OpenGuardsAre (k : Kind) (guards : OpenGuards) (seen : Seen) (returned : Return) : Type 0 where
  pub clean : verdict Clean seen ≡ Open → passes k Clean returned ≡ guards.clean
  pub ready : verdict ReadyForData seen ≡ Open → passes k ReadyForData returned ≡ guards.ready
  pub block : verdict OcrBlock seen ≡ Open → passes k OcrBlock returned ≡ guards.block

-- Only the guards `clean`, `ready` and `ocr.block` are ever open.
use Rattle.std.proofs.Common.{◌≡◌, refl, Bool, true, false, ◌==◌}
use Rattle.sdv_card.specs.declared.guard.Guard.TheVariants.{Timeout, Answer as SomeAnswer, Clean, Ready as ReadyForData, App, Echo, OcrReady, OcrBlock, State as InState, Ok as WentWell}
use Rattle.sdv_card.specs.declared.event.Seen.TheVariants.{TimeOut, Bare, Ocr, Status, Ok as SeenOk}
use Rattle.sdv_card.specs.States.{state_number}
use Rattle.sdv_card.specs.Guards.{Open, Holds, Fails, exactly, is_set}
use Rattle.sdv_card.proofs.Members.{here, there}
use Rattle.sdv_outcomes.specs.OpenGuards.{OnlyTheseAreOpen}

not_open : (b : Bool) → exactly b ≡ Open → ⊥
not_open true e = let f : Holds ≡ Open = e in cc
not_open false e = let f : Fails ≡ Open = e in cc

holds : Holds ≡ Open → ⊥
holds e = cc

fails : Fails ≡ Open → ⊥
fails e = cc

pub only_these_are_open : OnlyTheseAreOpen
only_these_are_open Clean seen e = here refl
only_these_are_open ReadyForData seen e = there (here refl)
only_these_are_open OcrBlock seen e = there (there (here refl))
only_these_are_open Timeout TimeOut e = absurd (holds e)
only_these_are_open Timeout seen e = absurd (fails e)
only_these_are_open SomeAnswer TimeOut e = absurd (fails e)
only_these_are_open SomeAnswer seen e = absurd (holds e)
only_these_are_open App (Status state doubt app switch) e = absurd (not_open (is_set app) e)
only_these_are_open App seen e = absurd (fails e)
only_these_are_open Echo Bare e = absurd (holds e)
only_these_are_open Echo seen e = absurd (fails e)
only_these_are_open OcrReady (Ocr ready block) e = absurd (not_open ready e)
only_these_are_open OcrReady seen e = absurd (fails e)
only_these_are_open (InState shown) (Status state doubt app switch) e = absurd (not_open (state == state_number shown) e)
only_these_are_open (InState shown) seen e = absurd (fails e)
only_these_are_open WentWell SeenOk e = absurd (holds e)
only_these_are_open WentWell seen e = absurd (fails e)

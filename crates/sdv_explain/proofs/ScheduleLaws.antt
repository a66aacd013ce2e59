-- The page of a description with that of a schedule behind it.
use Rattle.std.proofs.Common.{◌≡◌, ◌∙◌, ℕ, List, Option, Some, Result, Ok, Err, ap}
use Rattle.std.specs.Prelude.{IfOk}
use Rattle.sdv_explain.specs.Described.{Tells}
use Rattle.sdv_explain.specs.Schedules.{TellsGiven, fault_beside, wrong_line}
use Rattle.sdv_explain.specs.declared.describing.CardPage.{CardPage}

pub both_told : {E : Type 0} (text schedule : List ℕ) (page : CardPage) (wrong : Option ℕ) (r : Result CardPage E) → Tells text page → wrong ≡ wrong_line schedule
    → IfOk r (λ both. both.fault ≡ fault_beside page.fault wrong) → IfOk r (λ both. both.misfit ≡ page.misfit)
    → IfOk r (TellsGiven text (Some schedule))
both_told text schedule page wrong (Ok both) tells is fault misfit = (page, tells, fault ∙ ap (fault_beside page.fault) is, misfit)
both_told text schedule page wrong (Err e) tells is fault misfit = tt

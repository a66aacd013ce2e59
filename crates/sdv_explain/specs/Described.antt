-- WHAT IS TOLD of the text of a description: a card, or the line that is wrong.
use Rattle.std.specs.Prelude.{◌≡◌, ℕ, List, Option, Some, None}
use Rattle.sdv_image.specs.declared.fault.SimFault.{SimFault}
use Rattle.sdv_image.specs.declared.fault.SimFault.TheVariants as faults
use Rattle.sdv_behavior.specs.declared.card_desc.CardDesc.{CardDesc}
use Rattle.sdv_behavior.specs.Gives.{Describes, Refuses}
use Rattle.sdv_explain.specs.declared.describing.CardPage.{CardPage}
use Rattle.sdv_explain.specs.declared.describing.misfit.Misfit.{Misfit}
use Rattle.sdv_explain.specs.Misfits.{misfit_of}

-- the line that is wrong in a text that is no description
abbrev pub misfit_for : SimFault → (text : List ℕ) → Option Misfit
misfit_for faults.Description text = Some (misfit_of text)
misfit_for fault text = None

-- the text gives a card; or it gives none for this fault, at this line
abbrev pub TellsBy : Option SimFault → Option Misfit → (text : List ℕ) → Type 0
TellsBy None misfit text = (card : CardDesc) × Describes text card
TellsBy (Some fault) misfit text = Refuses text fault × (misfit ≡ misfit_for fault text)

abbrev pub Tells : (text : List ℕ) → CardPage → Type 0
Tells text page = TellsBy page.fault page.misfit text

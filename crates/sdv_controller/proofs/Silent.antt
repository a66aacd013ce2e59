-- What shows no card keeps the tables, whatever it does.
use Rattle.std.specs.Prelude.{None}
use Rattle.sdv_card.proofs.PortLaws.{none_shown}
use Rattle.sdv_controller.specs.Wire.{WireCall, WireReturn, WireKeepsTables}
use Rattle.sdv_controller.specs.Noise.{WireKeepsTablesOverNoise}

pub shows_nothing : {S : Type 0} (steps : S → WireCall → WireReturn → S → Type 0) → WireKeepsTables steps (λ _. None)
shows_nothing steps s s' k event c h shown fine = absurd (none_shown s c shown)

pub shows_nothing_over_noise : {S : Type 0} (steps : S → WireCall → WireReturn → S → Type 0) → WireKeepsTablesOverNoise steps (λ _. None)
shows_nothing_over_noise steps s s' k event c h shown fine = absurd (none_shown s c shown)

use Rattle.std.proofs.Common.{rules}
use Rattle.sdv_card.proofs.DeviceSteps.{of_profile}
use Rattle.sdv_card.proofs.examples.boot_block_is_bound.Goals as goal

pub returns : goal.returns
returns c = record { device = of_profile; last = λ contents. search rules; next = λ contents. search rules }

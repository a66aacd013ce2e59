use Rattle.sdv_card.proofs.DeviceSteps.{device_bring_up_happens}
use Rattle.sdv_card.proofs.examples.device_bring_up_happens.Goals as goal

pub returns : goal.returns
returns c = device_bring_up_happens

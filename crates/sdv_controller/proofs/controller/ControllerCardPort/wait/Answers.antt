use Rattle.std.proofs.Common.{rules}
use Rattle.sdv_controller.proofs.controller.ControllerCardPort.wait.Goals as goal

pub returns : goal.returns
returns g c = search rules

use Rattle.std.proofs.Common.{rules}
use Rattle.sdv_controller.proofs.controller.ControllerCardPort.data_in_reg.Goals as goal

pub returns : goal.returns
returns g c = search rules

use Rattle.std.proofs.Common.{◌∙◌, arith}
use Rattle.sdv_registers.proofs.FlagLaws.{contains-flag}
use Rattle.sdv_registers.proofs.status.Status.is_ready_for_data.Goals as goal

pub returns : goal.returns
returns c = c.contains.ensures tt ∙ contains-flag c.args.self.0 8 (omega arith)

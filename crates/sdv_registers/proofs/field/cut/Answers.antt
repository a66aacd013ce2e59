use Rattle.std.proofs.Common.{◌/◌, ◌^◌}
use Rattle.sdv_registers.proofs.FieldLaws.{masked}
use Rattle.sdv_registers.proofs.field.cut.Goals as goal

pub returns : goal.returns
returns c = masked (c.args.number / 2 ^ c.args.low) c.args.count c.requires.width

use Rattle.std.proofs.Common.{rules}
use Rattle.sdv_certify.proofs.writing.push_shape.Goals as goal

pub returns-clause-items : goal.returns-clause-items
returns-clause-items c = search rules

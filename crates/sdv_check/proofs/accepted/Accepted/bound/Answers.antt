use Rattle.std.proofs.Common.{rules}
use Rattle.sdv_check.proofs.accepted.Accepted.bound.Goals as goal

pub returns : goal.returns
returns c = search rules

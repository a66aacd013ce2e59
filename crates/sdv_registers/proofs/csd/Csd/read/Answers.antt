use Rattle.std.proofs.Common.{rules}
use Rattle.sdv_registers.proofs.csd.Csd.read.Goals as goal

pub invariant_of-result : goal.invariant_of-result
invariant_of-result c = search rules

pub returns-clause-register : goal.returns-clause-register
returns-clause-register c = search rules

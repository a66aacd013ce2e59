use Rattle.std.proofs.Common.{rules}
use Rattle.sdv_fuse.proofs.image.FuseImageImage.read_block.Goals as goal

pub returns-then-blows-clause-fault : goal.returns-then-blows-clause-fault
returns-then-blows-clause-fault g c = search rules

pub returns-then-blows-clause-not_due : goal.returns-then-blows-clause-not_due
returns-then-blows-clause-not_due g c = search rules

use Rattle.std.proofs.Common.{rules}
use Rattle.sdv_fuse.proofs.fuse.Fuse.blows.Goals as goal

pub returns-in-Some-eq0-clause-after : goal.returns-in-Some-eq0-clause-after
returns-in-Some-eq0-clause-after c = search rules

use Rattle.std.proofs.Common.{rules}
use Rattle.sdv_fuse.proofs.file.FuseFileBlockFile.failures.Goals as goal

pub returns : goal.returns
returns g c = search rules

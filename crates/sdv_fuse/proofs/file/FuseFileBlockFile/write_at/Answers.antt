use Rattle.std.proofs.Common.{rules}
use Rattle.sdv_fuse.proofs.file.FuseFileBlockFile.write_at.Goals as goal

pub returns-clause-others : goal.returns-clause-others
returns-clause-others g c = search rules

pub returns-clause-due : goal.returns-clause-due
returns-clause-due g c = search rules

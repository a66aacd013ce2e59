use Rattle.std.proofs.Common.{rules}
use Rattle.sdv_fuse.proofs.writer.FuseWriterWrite.write.Goals as goal

pub returns-then-blows-clause-fuse : goal.returns-then-blows-clause-fuse
returns-then-blows-clause-fuse g c = search rules

pub returns-clause-fuse : goal.returns-clause-fuse
returns-clause-fuse g c = search rules

pub returns-clause-due : goal.returns-clause-due
returns-clause-due g c = search rules

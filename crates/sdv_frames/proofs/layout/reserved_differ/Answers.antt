use Rattle.sdv_frames.proofs.CheckLaws.{reserved_by_test}
use Rattle.sdv_frames.proofs.layout.reserved_differ.Goals as goal

pub returns-in-AllOnes : goal.returns-in-AllOnes
returns-in-AllOnes c = rw c.in-AllOnes.is (reserved_by_test c.args.seven c.requires.bits)

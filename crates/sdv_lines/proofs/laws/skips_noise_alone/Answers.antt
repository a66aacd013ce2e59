use Rattle.sdv_lines.proofs.SkippedLaws.{skips_noise}
use Rattle.sdv_lines.proofs.laws.skips_noise_alone.Goals as goal

pub returns : goal.returns
returns c = λ most noise texts rest call returned are few answer. skips_noise most noise texts rest call returned are few answer

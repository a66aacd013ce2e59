use Rattle.sdv_lines.proofs.NoiseLaws.{keeps_both, quiets_closed}
use Rattle.sdv_lines.proofs.noise.Quieted.seek.Goals as goal

pub returns-clause-same : goal.returns-clause-same
returns-clause-same g c =
    keeps_both _ _ _ c.loop-self.invariant (quiets_closed c.loop-self.self.front.most _ _ c.loop-self-test.ensures)

use Rattle.sdv_outcomes.proofs.GuardLaws as proof
use Rattle.sdv_outcomes.proofs.laws.only_these_are_open.Goals as goal

pub returns : goal.returns
returns c = proof.only_these_are_open

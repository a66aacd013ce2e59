use Rattle.sdv_outcomes.proofs.StartRuns as proof
use Rattle.sdv_outcomes.proofs.laws.some_card_runs.Goals as goal

pub returns : goal.returns
returns c = proof.some_card_runs

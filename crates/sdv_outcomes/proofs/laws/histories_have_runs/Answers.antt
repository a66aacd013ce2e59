use Rattle.sdv_outcomes.proofs.HistoryRuns as proof
use Rattle.sdv_outcomes.proofs.laws.histories_have_runs.Goals as goal

pub returns : goal.returns
returns c = proof.histories_have_runs

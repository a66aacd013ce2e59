use Rattle.sdv_outcomes.proofs.RunHistories as proof
use Rattle.sdv_outcomes.proofs.laws.start_runs_are_histories.Goals as goal

pub returns : goal.returns
returns c = proof.start_runs_are_histories

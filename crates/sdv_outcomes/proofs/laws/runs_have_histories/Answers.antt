use Rattle.sdv_outcomes.proofs.RunHistories as proof
use Rattle.sdv_outcomes.proofs.laws.runs_have_histories.Goals as goal

pub returns : goal.returns
returns c = proof.runs_have_histories

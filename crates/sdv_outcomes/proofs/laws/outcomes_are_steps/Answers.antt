use Rattle.sdv_outcomes.proofs.EventSteps as proof
use Rattle.sdv_outcomes.proofs.laws.outcomes_are_steps.Goals as goal

pub returns : goal.returns
returns c = proof.outcomes_are_steps

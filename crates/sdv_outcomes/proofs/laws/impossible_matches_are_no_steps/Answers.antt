use Rattle.sdv_outcomes.proofs.ImpossibleMatches as proof
use Rattle.sdv_outcomes.proofs.laws.impossible_matches_are_no_steps.Goals as goal

pub returns : goal.returns
returns c = proof.impossible_matches_are_no_steps

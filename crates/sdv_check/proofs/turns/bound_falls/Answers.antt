use Rattle.sdv_check.specs.Asked.{place_at, here, there_in, pass_of}
use Rattle.sdv_facts.specs.Bounds.{commands_of}
use Rattle.sdv_check.proofs.WorstTurns.{falls_exactly}
use Rattle.sdv_check.proofs.turns.bound_falls.Goals as goal

pub returns : goal.returns
returns c =
    let at = c.args.at in
    let exactly = falls_exactly (here at) (there_in at c.args.there.now) (place_at at).most (commands_of (place_at at).action) (pass_of c.args.pass) c.args.target in
    ((λ t. exactly.0 (c.falls_at_worst.ensures.0 t)), (λ f. c.falls_at_worst.ensures.1 (exactly.1 f)))

use Rattle.sdv_player.proofs.asking.ask.Goals as goal

pub returns-in-Phase : goal.returns-in-Phase
returns-in-Phase c = λ r k ts _.
    rw c.in-Phase.is (c.ask_phase.ensures r k c.in-Phase.field-1 c.in-Phase.field-2 ts)

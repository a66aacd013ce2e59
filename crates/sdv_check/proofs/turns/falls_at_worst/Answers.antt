use Rattle.std.proofs.Common.{rules, length, sym, ap, ◌∙◌}
use Rattle.sdv_facts.specs.Bounds.{commands_of}
use Rattle.sdv_check.specs.Asked.{place_at, here, there_in, pass_of}
use Rattle.sdv_check.proofs.WorstTurns.{falls_alone}
use Rattle.sdv_check.proofs.turns.falls_at_worst.Goals as goal

pub returns-in-Same-None : goal.returns-in-Same-None
returns-in-Same-None c =
    let at = c.args.at in
    let falls = falls_alone (here at) (there_in at c.args.there.now) (place_at at).most (commands_of (place_at at).action) (pass_of c.args.pass) c.args.target
    c.room_left-room.result _ _ (ap length (sym c.deref-3.ensures.value) ∙ c.in-Same-None.ensures.cases) (search rules) (search rules) (search rules) c.room_left-room.ensures in
    search (falls, rules)

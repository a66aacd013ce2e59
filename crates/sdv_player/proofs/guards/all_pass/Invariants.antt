use Rattle.std.proofs.Common.{◌≡◌, ◌-◌}
use Rattle.sdv_card.specs.ScriptEvent.{Answered}
use Rattle.sdv_graph.specs.Walk.{all_pass}
use Rattle.sdv_table.specs.Reading.{guards_of}
use Rattle.sdv_player.proofs.guards.all_pass.Given as goal

-- the guards so far hold
abbrev pub invariant-loop : goal.invariant-loop
invariant-loop l =
    all_pass l.kind (guards_of (l.most - l.counter) l.rest) (Answered l.answer) ≡ all_pass l.kind (guards_of l.most l.guards) (Answered l.answer)

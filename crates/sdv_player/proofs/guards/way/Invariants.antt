use Rattle.std.proofs.Common.{◌≡◌, ◌-◌}
use Rattle.sdv_card.specs.ScriptEvent.{Answered}
use Rattle.sdv_graph.specs.Path.{way_of}
use Rattle.sdv_table.specs.Reading.{cases_of}
use Rattle.sdv_player.proofs.guards.way.Given as goal

-- the cases so far do not hold
abbrev pub invariant-loop : goal.invariant-loop
invariant-loop l =
    way_of l.fn.kind (cases_of (l.cases.count - l.counter) l.rest) l.other (Answered l.answer)
    ≡ way_of l.fn.kind (cases_of l.cases.count l.cases.words.now) l.other (Answered l.answer)

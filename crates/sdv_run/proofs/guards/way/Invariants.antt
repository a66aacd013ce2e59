use Rattle.std.proofs.Common.{◌≡◌, drop, map}
use Rattle.sdv_card.specs.ScriptEvent.{Answered}
use Rattle.sdv_graph.specs.Graph.{seen_case}
use Rattle.sdv_graph.specs.Path.{way_of}
use Rattle.sdv_run.proofs.guards.way.Given as goal

-- the cases so far do not hold
abbrev pub invariant-loop-case : goal.invariant-loop-case
invariant-loop-case l =
    way_of l.kind (map seen_case (drop l.case-index l.cases)) l.other (Answered l.answer) ≡ way_of l.kind (map seen_case l.cases) l.other (Answered l.answer)

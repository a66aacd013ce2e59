use Rattle.std.proofs.Common.{◌≡◌, drop}
use Rattle.sdv_card.specs.ScriptEvent.{Answered}
use Rattle.sdv_graph.specs.Walk.{all_pass}
use Rattle.sdv_run.proofs.guards.all_pass.Given as goal

-- the guards so far hold
abbrev pub invariant-loop-guard : goal.invariant-loop-guard
invariant-loop-guard l =
    all_pass l.kind (drop l.guard-index l.guards) (Answered l.answer) ≡ all_pass l.kind l.guards (Answered l.answer)

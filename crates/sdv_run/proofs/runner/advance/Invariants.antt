use Rattle.std.proofs.Common.{◌≡◌, ◌-◌}
use Rattle.sdv_run.specs.Standing.{stand_of}
use Rattle.sdv_run.specs.Machine.{CanGoOn, Came}
use Rattle.sdv_run.proofs.runner.advance.Given as goal

-- the moves so far made no event
abbrev pub invariant-loop : goal.invariant-loop
invariant-loop l = record {
  kind : l.standing.host.kind ≡ l.graph.kind;
  on : CanGoOn (record { graph = l.graph; stand = stand_of l.standing; left = l.left });
  came : Came (record { graph = l.graph; stand = stand_of l.fn.standing; left = l.fn.left })
      (record { graph = l.graph; stand = stand_of l.standing; left = l.left });
  count : l.left ≡ l.end - l.counter;
}

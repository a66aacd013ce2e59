use Rattle.std.proofs.Common.{◌≡◌, ◌-◌, length}
use Rattle.sdv_graph.specs.GraphOf.{IsSound}
use Rattle.sdv_run.specs.Announced.{AnnounceAtMost}
use Rattle.sdv_run.specs.Standing.{stand_of}
use Rattle.sdv_refute.proofs.ToldRun.{Telling}
use Rattle.sdv_refute.proofs.watching.watch.Given as goal

-- the run so far, with room for each phase, beside the card that the port showed when it began
abbrev pub invariant-loop : goal.invariant-loop
invariant-loop g l = record {
  sound : IsSound l.graph;
  kind : l.standing.host.kind ≡ l.graph.kind;
  room : AnnounceAtMost l.graph.points (length l.held);
  so_far : Telling g.P.CardPort.steps g.P.CardPort.card l.graph l.lines (length l.held)
      (record { port = l.fn.port; input = l.fn.input; out = g.O.Write.contents l.fn.out; trace = g.T.Write.contents l.fn.trace }) (l.end - l.counter)
      (stand_of l.standing) (record { port = l.port; input = l.left.now; out = g.O.Write.contents l.out; trace = g.T.Write.contents l.trace });
}

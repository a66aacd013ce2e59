use Rattle.std.proofs.Common.{◌≡◌, ◌-◌, length}
use Rattle.sdv_graph.specs.GraphOf.{IsSound}
use Rattle.sdv_run.specs.Announced.{AnnounceAtMost}
use Rattle.sdv_run.specs.Standing.{stand_of}
use Rattle.sdv_run.proofs.Runs.{SoFar}
use Rattle.sdv_lines.specs.Streams.{LineSteps, streams_of}
use Rattle.sdv_commands.proofs.announcing.run_announced.Given as goal

-- the run so far, with room for each phase
abbrev pub invariant-loop : goal.invariant-loop
invariant-loop g l = record {
  sound : IsSound l.graph;
  kind : l.standing.host.kind ≡ l.graph.kind;
  room : AnnounceAtMost l.graph.points (length l.held);
  so_far : SoFar LineSteps l.graph (length l.held)
      (record {
        port = streams_of g.R.Read.remaining g.W.Write.contents l.fn.port;
        input = l.fn.input;
        out = g.O.Write.contents l.fn.out;
        trace = g.T.Write.contents l.fn.trace;
      }) (l.end - l.counter) (stand_of l.standing)
      (record {
        port = streams_of g.R.Read.remaining g.W.Write.contents l.port;
        input = l.left.now;
        out = g.O.Write.contents l.out;
        trace = g.T.Write.contents l.trace;
      });
}

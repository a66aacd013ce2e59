use Rattle.std.proofs.Common.{◌≡◌, ◌≤◌, ◌-◌}
use Rattle.sdv_graph.specs.Graph.{Graph}
use Rattle.sdv_player.specs.Seen.{Registers, nowhere}
use Rattle.sdv_player.specs.StandsFor.{StandsFor}
use Rattle.sdv_player.proofs.Silent.{OnTheWay}
use Rattle.sdv_player.proofs.player.next.Given as goal

-- a move is taken off for each turn, and the moves so far made no event; none is made from nowhere
abbrev pub invariant-loop : goal.invariant-loop
invariant-loop l = record {
  moves : l.state.moves ≡ l.end - l.counter;
  few : l.state.moves ≤ l.fn.state.moves;
  kind : l.state.host.kind ≡ l.fn.state.host.kind;
  app : l.state.app ≡ l.fn.state.app;
  commands : l.state.commands ≡ l.fn.state.commands;
  nowhere : l.fn.state.place.point ≡ nowhere → l.state ≡ l.fn.state;
  way : (g : Graph) (r : Registers) → StandsFor g l.words l.fn.state r → OnTheWay g l.words l.fn.state l.state r;
}

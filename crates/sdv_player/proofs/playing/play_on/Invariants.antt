use Rattle.std.proofs.Common.{◌≡◌, ◌≤◌, ◌-◌, length}
use Rattle.sdv_player.specs.Seen.{kind_of}
use Rattle.sdv_player.proofs.SoFar.{SoFar}
use Rattle.sdv_player.proofs.playing.play_on.Given as goal

-- the events so far, each of which took a move off
abbrev pub invariant-loop : goal.invariant-loop
invariant-loop g l = record {
  kind : l.state.host.kind ≡ l.fn.state.host.kind;
  room : length l.held ≡ length l.fn.held;
  few : l.state.moves ≤ l.end - l.counter;
  so_far : SoFar (kind_of l.fn.state.host) g.P.CardPort.steps l.words l.fn.state (l.fn.port, l.fn.input.now) l.state (l.port, l.input.now);
}

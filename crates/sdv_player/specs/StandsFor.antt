-- When the words and the state of a player STAND FOR a run of a graph: the words are its table, and the state has the
-- place and the host of a machine of the runner.
use Rattle.std.specs.Prelude.{◌≡◌, ◌⊎◌, ℕ, List}
use Rattle.sdv_graph.specs.Graph.{Graph}
use Rattle.sdv_run.specs.Machine.{Machine, now, CanGoOn}
use Rattle.sdv_run.specs.Takes.{IsEvent}
use Rattle.sdv_table.specs.Fits.{IsTable}
use Rattle.sdv_table.specs.Reading.{commands_read}
use Rattle.sdv_player.specs.declared.state.State.{State}
use Rattle.sdv_player.specs.Seen.{Registers, Remembers, kind_of, stand_of}

-- the run of the graph that stands there, its host with the registers that it read
abbrev pub run_of : Graph → State → Registers → Machine
run_of g s r = record { graph = g; stand = stand_of s r; left = s.moves }

pub record StandsFor (g : Graph) (words : List ℕ) (s : State) (r : Registers) : Type 0 where
  pub table : IsTable g (commands_read words) words
  pub kind : kind_of s.host ≡ g.kind
  pub remembers : Remembers s.host r
  pub on : CanGoOn (run_of g s r)
  -- an event is asked for only where the run makes one
  pub asked : (s.asked ≡ 0) ⊎ IsEvent (now (run_of g s r))

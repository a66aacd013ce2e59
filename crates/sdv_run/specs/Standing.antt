-- Where a runner stands, as a place of a graph, and what it knows, as a host beside a card.
use Rattle.std.specs.Prelude.{option_map}
use Rattle.sdv_card.specs.Host.{Host}
use Rattle.sdv_graph.specs.Path.{Stand}
use Rattle.sdv_run.specs.declared.host.HostState.{HostState}
use Rattle.sdv_run.specs.declared.standing.Standing.{Standing}

abbrev pub host_of : HostState → Host
host_of h = record {
  numbers = h.numbers.items;
  flags = h.flags;
  rca = h.rca;
  lines = h.lines;
  csd = option_map (λ csd. csd.register) h.csd;
  ext_csd = h.ext_csd;
  announced = h.announced;
  register_length = h.register_length;
}

abbrev pub stand_of : Standing → Stand
stand_of s = record { point = s.point; turns = s.turns.items; host = host_of s.host }

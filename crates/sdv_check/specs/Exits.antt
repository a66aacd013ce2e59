-- The ways on after an event, as the definition of edges has them.
use Rattle.std.specs.Prelude.{List, map}
use Rattle.sdv_graph.specs.Graph.{seen_case}
use Rattle.sdv_graph.specs.Path.{Case}
use Rattle.sdv_facts.specs.Edges.{well_or}
use Rattle.sdv_check.specs.declared.exits.Exits.{Exits}
use Rattle.sdv_check.specs.declared.exits.Exits.TheVariants.{Cases, Well}

abbrev pub cases_of_exits : Exits → List Case
cases_of_exits (Cases cases) = map seen_case cases.now
cases_of_exits (Well well) = well_or well

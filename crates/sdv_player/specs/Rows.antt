-- Which rows of a table are those of commands, and of phases.
use Rattle.std.specs.Prelude.{Option, Some}
use Rattle.sdv_graph.specs.Path.{Action, sends, phases}

abbrev pub IsNoCommand : Option Action → Type 0
IsNoCommand (Some (sends c cases other)) = ⊥
IsNoCommand action = Unit {0}

abbrev pub IsNoPhase : Option Action → Type 0
IsNoPhase (Some (phases p well other)) = ⊥
IsNoPhase action = Unit {0}

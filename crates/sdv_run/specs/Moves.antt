-- What a runner needs of the moves that it makes, and where a move without an event leads.
use Rattle.std.specs.Prelude.{◌≡◌, ◌≤◌, ◌<◌, length, Option, Some, None}
use Rattle.sdv_card.specs.Host.{Host}
use Rattle.sdv_card.specs.ScriptEvent.{Return}
use Rattle.sdv_graph.specs.declared.graph.Action.{Action}
use Rattle.sdv_graph.specs.declared.graph.Action.TheVariants as actions
use Rattle.sdv_graph.specs.Walk.{Finished, Failed}
use Rattle.sdv_graph.specs.Path.{Stand, Move, Goes, Does, Halts}
use Rattle.sdv_trace.specs.declared.end.End.{End}
use Rattle.sdv_run.specs.Run.{ending_of}

-- a move leads into at most four loops at once, or ends in `done` or in a fault with a name of at most 16 characters
abbrev pub IsNarrow : Move → Type 0
IsNarrow (Goes next) = length next.turns ≤ 4
IsNarrow (Does deed before next) = (returned : Return) (after : Host) → length (next returned after).turns ≤ 4
IsNarrow (Halts Finished) = Unit {0}
IsNarrow (Halts (Failed name)) = length name ≤ 16
IsNarrow (Halts last) = ⊥

-- it leads there, or ends so
abbrev pub Passes : Move → Option End → Stand → Type 0
Passes (Goes next) None s = s ≡ next
Passes (Halts last) (Some end) s = last ≡ ending_of end
Passes m end s = ⊥

-- a command's index has 6 bits, and there are at most 8 flags
abbrev pub IsInRange : Action → Type 0
IsInRange (actions.Send c ways other) = c.ask.index < 64
IsInRange (actions.Flag flag on next) = flag < 8
IsInRange action = Unit {0}

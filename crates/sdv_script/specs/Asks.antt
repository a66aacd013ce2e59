-- Which points of a graph ask by the command table: each command there is a line of it, so that it has an order, an
-- argument and a response that is waited for.
-- SD Physical Layer Simplified Specification, section 4.7.4 (detailed command description).
use Rattle.sdv_registers.specs.declared.kind.Kind.{Kind}
use Rattle.sdv_card.specs.declared.event.Ask.{Ask}
use Rattle.sdv_card.specs.declared.command.Order.{Order}
use Rattle.sdv_card.specs.CommandTable.{Asks}
use Rattle.std.specs.List.{All}
use Rattle.sdv_graph.specs.Graph.{Graph}
use Rattle.sdv_graph.specs.Path.{Action, Point, sends}

-- a line of the command table gives the ask
abbrev pub IsAsked : Kind → Ask → Type 0
IsAsked k ask = (order : Order) × Asks k ask order

abbrev pub ActionAsks : Kind → Action → Type 0
ActionAsks k (sends c ways other) = IsAsked k c.ask
ActionAsks k action = Unit {0}

abbrev pub PointAsks : Kind → Point → Type 0
PointAsks k p = ActionAsks k p.action

-- at each point
abbrev pub AsksByTable : Graph → Type 0
AsksByTable g = All (PointAsks g.kind) g.points

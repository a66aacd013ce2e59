-- When a graph FITS a table: each part has the bits that it needs, and names what the header counts.
use Rattle.std.specs.Prelude.{◌≡◌, ℕ, ◌<◌, ◌≤◌, ◌^◌, List, [], ◌∷◌, length, Option, Some, None, slice_get}
use Rattle.sdv_registers.specs.declared.kind.Kind.{Kind}
use Rattle.sdv_card.specs.declared.command.Order.{Order}
use Rattle.sdv_card.specs.declared.event.Ask.{Ask}
use Rattle.sdv_card.specs.CommandTable.{Asks}
use Rattle.sdv_graph.specs.declared.graph.Target.{Target}
use Rattle.sdv_graph.specs.declared.tree.ScriptCommand.{ScriptCommand}
use Rattle.sdv_graph.specs.declared.tree.Address.{Address}
use Rattle.sdv_graph.specs.declared.tree.Unit.{Unit as AddressUnit}
use Rattle.sdv_graph.specs.declared.tree.Unit.TheVariants.{By}
use Rattle.sdv_graph.specs.declared.tree.Position.{Position}
use Rattle.sdv_graph.specs.declared.tree.Position.TheVariants as positions
use Rattle.sdv_graph.specs.declared.tree.Atom.{Atom}
use Rattle.sdv_graph.specs.declared.tree.Atom.TheVariants as atoms
use Rattle.sdv_graph.specs.declared.tree.Change.{Change}
use Rattle.sdv_graph.specs.declared.tree.Change.TheVariants as changes
use Rattle.sdv_graph.specs.declared.tree.Let.{Let}
use Rattle.sdv_graph.specs.declared.tree.Condition.{Condition}
use Rattle.sdv_graph.specs.declared.tree.Condition.TheVariants as conditions
use Rattle.sdv_graph.specs.Counts.{max_number, max_name}
use Rattle.sdv_graph.specs.Walk.{Finished, Failed}
use Rattle.sdv_graph.specs.Path.{Case, Action, Point, sends, phases, lets, tests, flags, widths, heads, jumps, stops}
use Rattle.sdv_graph.specs.Graph.{Graph}
use Rattle.sdv_table.specs.declared.format.TheConstants as format
use Rattle.sdv_table.specs.declared.counts.Counts.{Counts}
use Rattle.sdv_table.specs.declared.fault.Part.{Part}
use Rattle.sdv_table.specs.declared.fault.Part.TheVariants as parts
use Rattle.sdv_table.specs.declared.fault.TableFault.{TableFault}
use Rattle.sdv_table.specs.declared.fault.TableFault.TheVariants.{Wide, Memory}
use Rattle.sdv_table.specs.Table.{size, table_of}

-- COUNTS

pub record CountsFit (c : Counts) : Type 0 where
  pub numbers : c.numbers ≤ format.MOST_NUMBERS
  pub flags : c.flags ≤ format.MOST_FLAGS
  pub points : c.points ≤ format.MOST_POINTS

-- no counts are greater
abbrev pub greatest : Counts
greatest = record { numbers = format.MOST_NUMBERS; flags = format.MOST_FLAGS; points = format.MOST_POINTS }

abbrev pub counts_of : Graph → Counts
counts_of g = record { numbers = g.numbers; flags = g.flags; points = length g.points }

-- TARGETS

abbrev pub TurnsFit : ℕ → Type 0
TurnsFit n = (0 < n) × (n < format.UPPER)

abbrev pub EnterFits : Option ℕ → Type 0
EnterFits None = Unit {0}
EnterFits (Some n) = TurnsFit n

-- a point, or the place behind the last one, which no run gets to
abbrev pub TargetFits : (points : ℕ) → Target → Type 0
TargetFits points t = (t.to ≤ points) × (t.leave < format.LEAVE_BOUND) × EnterFits t.enter

-- a case has few guards
abbrev pub CasesFit : (points : ℕ) → List Case → Type 0
CasesFit points [] = Unit {0}
CasesFit points (w ∷ ws) = (length w.guards ≤ format.MOST_GUARDS) × TargetFits points w.target × CasesFit points ws

-- COMMANDS

abbrev pub UnitFits : (declared : ℕ) → AddressUnit → Type 0
UnitFits declared (By flag) = flag < declared
UnitFits declared unit = Unit {0}

abbrev pub PositionFits : (declared : ℕ) → Position → Type 0
PositionFits declared (positions.Number n) = n ≤ max_number
PositionFits declared (positions.Variable x None) = x < declared
PositionFits declared (positions.Variable x (Some k)) = (x < declared) × (k ≤ max_number)

abbrev pub AddressFits : Counts → Option Address → Type 0
AddressFits c None = Unit {0}
AddressFits c (Some a) = UnitFits c.flags a.unit × PositionFits c.numbers a.position

pub record CommandFits (c : Counts) (command : ScriptCommand) : Type 0 where
  pub index : command.ask.index < format.INDEX_BOUND
  pub argument : command.ask.argument < 2 ^ 32
  pub count : command.ask.count < format.UPPER
  pub address : AddressFits c command.address

-- LETS AND CONDITIONS

abbrev pub AtomFits : (declared : ℕ) → Atom → Type 0
AtomFits declared (atoms.Number n) = n ≤ max_number
AtomFits declared (atoms.Variable y) = y < declared
AtomFits declared atom = Unit {0}

abbrev pub ChangeFits : Change → Type 0
ChangeFits changes.Same = Unit {0}
ChangeFits (changes.Plus k) = k ≤ max_number
ChangeFits (changes.Minus k) = k ≤ max_number

pub record LetFits (c : Counts) (l : Let) : Type 0 where
  pub target : l.target < c.numbers
  pub atom : AtomFits c.numbers l.atom
  pub change : ChangeFits l.change

abbrev pub ConditionFits : Counts → Condition → Type 0
ConditionFits c (conditions.Flag flag) = flag < c.flags
ConditionFits c (conditions.AtLeast x n) = (x < c.numbers) × (n ≤ max_number)
ConditionFits c (conditions.Below x n) = (x < c.numbers) × (n ≤ max_number)

-- STATEMENTS

abbrev pub AreBytes : List ℕ → Type 0
AreBytes [] = Unit {0}
AreBytes (b ∷ bs) = (b < 256) × AreBytes bs

-- each part has its bits, and names a variable, a flag or a point that the header counts
abbrev pub PartsFit : Counts → Action → Type 0
PartsFit c (sends command cases other) =
    CommandFits c command × (length cases < format.TOO_MANY_CASES) × CasesFit c.points cases × TargetFits c.points other
PartsFit c (phases p well other) = TargetFits c.points well × TargetFits c.points other
PartsFit c (lets l t) = LetFits c l × TargetFits c.points t
PartsFit c (tests condition holds other) =
    ConditionFits c condition × TargetFits c.points holds × TargetFits c.points other
PartsFit c (flags f on t) = (f < c.flags) × TargetFits c.points t
PartsFit c (widths width t) = TargetFits c.points t
PartsFit c (heads n body other) = TurnsFit n × TargetFits c.points body × TargetFits c.points other
PartsFit c (jumps t) = TargetFits c.points t
PartsFit c (stops Finished) = Unit {0}
PartsFit c (stops (Failed name)) = (length name ≤ max_name) × AreBytes name
-- no statement ends so
PartsFit c (stops last) = ⊥

-- the command table of the kind has a line for the command
abbrev pub HasOrder : Kind → Ask → Type 0
HasOrder k ask = (order : Order) × Asks k ask order

abbrev pub IsOfKind : Kind → Action → Type 0
IsOfKind k (sends command cases other) = HasOrder k command.ask
IsOfKind k action = Unit {0}

pub record ActionFits (k : Kind) (c : Counts) (action : Action) : Type 0 where
  pub parts : PartsFit c action
  pub of_kind : IsOfKind k action

abbrev pub PointsFit : Kind → Counts → List Point → Type 0
PointsFit k c [] = Unit {0}
PointsFit k c (p ∷ ps) = ActionFits k c p.action × PointsFit k c ps

-- GRAPHS

pub record Fits (g : Graph) : Type 0 where
  pub counts : CountsFit (counts_of g)
  pub first : TargetFits (length g.points) g.first
  pub points : PointsFit g.kind (counts_of g) g.points
  pub moves : g.steps < 2 ^ 64
  -- a row's place has 16 bits
  pub words : size g < format.TOO_MANY_WORDS

-- these are the words of the table of a graph that fits one, with the number of commands that its header says
pub record IsTable (g : Graph) (most : ℕ) (words : List ℕ) : Type 0 where
  pub fits : Fits g
  pub same : words ≡ table_of g most

-- the statement at a point does not fit
pub record IsWide (g : Graph) (i : ℕ) : Type 0 where
  pub point : Point
  pub there : slice_get g.points i ≡ Some point
  pub wide : ActionFits g.kind (counts_of g) point.action → ⊥

-- the part of a graph that has no room in a table
abbrev pub HasNoRoom : Graph → Part → Type 0
HasNoRoom g parts.Numbers = format.MOST_NUMBERS < g.numbers
HasNoRoom g parts.Flags = format.MOST_FLAGS < g.flags
HasNoRoom g parts.Points = format.MOST_POINTS < length g.points
HasNoRoom g parts.Moves = 2 ^ 64 ≤ g.steps
HasNoRoom g parts.First = TargetFits (length g.points) g.first → ⊥
HasNoRoom g (parts.Point i) = IsWide g i
HasNoRoom g parts.Words = format.TOO_MANY_WORDS ≤ size g

-- why there is no table; memory may be refused at any time
abbrev pub IsReason : Graph → TableFault → Type 0
IsReason g (Wide part) = HasNoRoom g part
IsReason g Memory = Unit {0}

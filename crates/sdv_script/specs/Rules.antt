-- What a syntax tree must meet beside the grammar: names are declared and new, guards and data lines fit, limits
-- are kept, `break` stands in a loop's body, and the script does not fall off its end.
use Rattle.std.specs.Prelude.{◌≡◌, ℕ, suc, ◌+◌, ◌<◌, ◌≤◌, List, [], ◌∷◌, ◌++◌, length, false, Option, Some, None, IsTrue, if◌then◌else◌}
use Rattle.std.specs.Str.{bytes_eq}
use Rattle.sdv_card.specs.declared.event.Aim.{Aim}
use Rattle.sdv_card.specs.declared.event.Aim.TheVariants.{Plain}
use Rattle.sdv_card.specs.declared.event.Ask.{Ask}
use Rattle.sdv_card.specs.declared.command.Order.{Order}
use Rattle.sdv_card.specs.CommandTable.{order_of}
use Rattle.sdv_card.specs.Modes.{has_width}
use Rattle.sdv_card.specs.declared.guard.Guard.{Guard}
use Rattle.sdv_script.specs.declared.depth.Depth.{Depth}
use Rattle.sdv_script.specs.declared.operand.Operand.{Operand}
use Rattle.sdv_script.specs.declared.operand.Operand.TheVariants.{Bare, Select, Conditions, Addressed, Counted, Preset, Erase, Switch}
use Rattle.sdv_graph.specs.declared.tree.ScriptCommand.{ScriptCommand}
use Rattle.sdv_graph.specs.declared.tree.Address.{Address}
use Rattle.sdv_graph.specs.declared.tree.Unit.{Unit as AddressUnit}
use Rattle.sdv_graph.specs.declared.tree.Unit.TheVariants as units
use Rattle.sdv_graph.specs.declared.tree.Position.{Position}
use Rattle.sdv_graph.specs.declared.tree.Position.TheVariants as positions
use Rattle.sdv_graph.specs.declared.tree.Let.{Let}
use Rattle.sdv_graph.specs.declared.tree.Atom.{Atom}
use Rattle.sdv_graph.specs.declared.tree.Atom.TheVariants as atoms
use Rattle.sdv_graph.specs.declared.tree.Change.{Change}
use Rattle.sdv_graph.specs.declared.tree.Change.TheVariants as changes
use Rattle.sdv_graph.specs.declared.tree.Condition.{Condition}
use Rattle.sdv_graph.specs.declared.tree.Condition.TheVariants as conditions
use Rattle.sdv_script.specs.Commands.{operand_of, is_conditions, is_erase, is_setting, has_ext_csd, fits_order}
use Rattle.sdv_graph.specs.Tree.{Statements, nothing, first, Ways, otherwise, way, Statement, send, phase, setting, choice, set, clear, bus_lines, turns, break, done, fault, Declared}
pub use Rattle.sdv_graph.specs.Counts.{max_number, max_statements, max_name, max_flags, max_loops, statements_count, ways_count, statement_count, statements_break, ways_break, statement_breaks, statements_fall, ways_fall, statement_falls}

-- LIMITS

abbrev pub max_bytes : ℕ
max_bytes = 65536

abbrev pub max_numbers : ℕ
max_numbers = 8

abbrev pub max_braces : ℕ
max_braces = 64

-- NAMES

-- the place of a name among others, counted from a number
unfoldable pub place_from : ℕ → List ℕ → List (List ℕ) → Option ℕ
place_from k name [] = None
place_from k name (n ∷ ns) = if bytes_eq n name then Some k else place_from (suc k) name ns

-- the place of a name among others, from 0
abbrev pub place_of : List ℕ → List (List ℕ) → Option ℕ
place_of name names = place_from 0 name names

-- each is new after those before it, and none is too long
abbrev pub AreNew : (earlier : List (List ℕ)) → List (List ℕ) → Type 0
AreNew earlier [] = Unit {0}
AreNew earlier (n ∷ ns) = (place_of n earlier ≡ None) × (length n ≤ max_name) × AreNew (earlier ++ n ∷ []) ns

-- flags and number variables have names of their own
pub record NamesFit (names : Declared) : Type 0 where
  pub flags_new : AreNew [] names.flags
  pub numbers_new : AreNew names.flags names.numbers
  pub few_flags : length names.flags ≤ max_flags
  pub few_numbers : length names.numbers ≤ max_numbers

-- COMMANDS

abbrev pub UnitFits : Declared → AddressUnit → Type 0
UnitFits names units.Block = Unit {0}
UnitFits names units.Byte = Unit {0}
UnitFits names (units.By f) = f < length names.flags

abbrev pub PositionFits : Declared → Position → Type 0
PositionFits names (positions.Number n) = n ≤ max_number
PositionFits names (positions.Variable x None) = x < length names.numbers
PositionFits names (positions.Variable x (Some k)) = (x < length names.numbers) × (k ≤ max_number)

abbrev pub AddressFits : Declared → Option Address → Type 0
AddressFits names None = ⊥
AddressFits names (Some a) = UnitFits names a.unit × PositionFits names a.position

abbrev pub ask_with : (index : ℕ) → Aim → (argument count : ℕ) → Ask
ask_with index aim argument count = record { index = index; aim = aim; argument = argument; count = count }

-- the parts of a command are those that its form has
abbrev pub OperandFits : Declared → Option Operand → ScriptCommand → Type 0
OperandFits names None c = ⊥
OperandFits names (Some (Bare aim)) c = (c.ask ≡ ask_with c.ask.index aim 0 0) × (c.address ≡ None)
OperandFits names (Some Select) c = (c.ask ≡ ask_with c.ask.index c.ask.aim 0 0) × (c.address ≡ None)
OperandFits names (Some Conditions) c = (c.ask ≡ ask_with c.ask.index Plain c.ask.argument 0)
    × IsTrue (is_conditions c.ask.argument) × (c.address ≡ None)
OperandFits names (Some (Addressed count)) c =
    (c.ask ≡ ask_with c.ask.index Plain 0 count) × AddressFits names c.address
OperandFits names (Some Counted) c = (c.ask ≡ ask_with c.ask.index Plain 0 c.ask.count) × (1 ≤ c.ask.count)
    × (c.ask.count ≤ 65535) × AddressFits names c.address
OperandFits names (Some Preset) c = (c.ask ≡ ask_with c.ask.index Plain 0 c.ask.count) × (1 ≤ c.ask.count)
    × (c.ask.count ≤ 65535) × (c.address ≡ None)
OperandFits names (Some Erase) c = (c.ask ≡ ask_with c.ask.index Plain c.ask.argument 0)
    × IsTrue (is_erase c.ask.argument) × (c.address ≡ None)
OperandFits names (Some Switch) c = (c.ask ≡ ask_with c.ask.index Plain c.ask.argument 0)
    × IsTrue (is_setting names.kind c.ask.argument) × (c.address ≡ None)

abbrev pub CommandFits : Declared → ScriptCommand → Type 0
CommandFits names c = OperandFits names (operand_of names.kind c.ask.index) c

-- one guard or more, and each says something of the answers to a command
abbrev pub GuardsFit : Option Order → List Guard → Type 0
GuardsFit order [] = ⊥
GuardsFit order (g ∷ []) = IsTrue (fits_order g order)
GuardsFit order (g ∷ h ∷ gs) = IsTrue (fits_order g order) × GuardsFit order (h ∷ gs)

-- STATEMENTS

abbrev pub AtomFits : Declared → Atom → Type 0
AtomFits names (atoms.Number n) = n ≤ max_number
AtomFits names (atoms.Variable x) = x < length names.numbers
AtomFits names atoms.CsdBlocks = Unit {0}
AtomFits names atoms.ExtBlocks = IsTrue (has_ext_csd names.kind)
AtomFits names atoms.ExtBoot = IsTrue (has_ext_csd names.kind)

abbrev pub ChangeFits : Change → Type 0
ChangeFits changes.Same = Unit {0}
ChangeFits (changes.Plus k) = k ≤ max_number
ChangeFits (changes.Minus k) = k ≤ max_number

abbrev pub LetFits : Declared → Let → Type 0
LetFits names l = (l.target < length names.numbers) × AtomFits names l.atom × ChangeFits l.change

abbrev pub ConditionFits : Declared → Condition → Type 0
ConditionFits names (conditions.Flag f) = f < length names.flags
ConditionFits names (conditions.AtLeast x k) = (x < length names.numbers) × (k ≤ max_number)
ConditionFits names (conditions.Below x k) = (x < length names.numbers) × (k ≤ max_number)

abbrev pub deeper : Depth → Depth
deeper depth = record depth { braces = depth.braces + 1 }

abbrev pub in_loop : Depth → Depth
in_loop depth = record depth { loops = depth.loops + 1 }

-- braces may be opened at a place
abbrev pub HasRoom : Depth → Type 0
HasRoom depth = depth.braces < max_braces

abbrev mutual
  pub StatementsFit : Declared → Depth → Statements → Type 0
  StatementsFit names depth nothing = Unit {0}
  StatementsFit names depth (first s rest) = StatementFits names depth s × StatementsFit names depth rest

  pub WaysFit : Declared → Depth → Option Order → Ways → Type 0
  WaysFit names depth order (otherwise b) = HasRoom depth × StatementsFit names (deeper depth) b
  WaysFit names depth order (way gs b rest) =
      GuardsFit order gs × HasRoom depth × StatementsFit names (deeper depth) b × WaysFit names depth order rest

  pub StatementFits : Declared → Depth → Statement → Type 0
  StatementFits names depth (send c ways) =
      CommandFits names c × HasRoom depth × WaysFit names (deeper depth) (order_of names.kind c.ask) ways
  StatementFits names depth (phase p a b) =
      HasRoom depth × HasRoom (deeper depth) × StatementsFit names (deeper (deeper depth)) a
      × StatementsFit names (deeper (deeper depth)) b
  StatementFits names depth (setting l) = LetFits names l
  StatementFits names depth (choice c a b) =
      ConditionFits names c × HasRoom depth × StatementsFit names (deeper depth) a
      × StatementsFit names (deeper depth) b
  StatementFits names depth (set f) = f < length names.flags
  StatementFits names depth (clear f) = f < length names.flags
  StatementFits names depth (bus_lines width) = IsTrue (has_width names.kind width)
  StatementFits names depth (turns n a b) =
      (1 ≤ n) × (n ≤ 65535) × (depth.loops < max_loops) × HasRoom depth
      × StatementsFit names (deeper (in_loop depth)) a × StatementsFit names (deeper depth) b
  StatementFits names depth break = 0 < depth.loops
  StatementFits names depth done = Unit {0}
  StatementFits names depth (fault name) = length name ≤ max_name

-- SCRIPTS

pub record ScriptFits (names : Declared) (body : Statements) : Type 0 where
  pub names_fit : NamesFit names
  pub statements_fit : StatementsFit names (record { braces = 0; loops = 0 }) body
  pub few : statements_count body ≤ max_statements
  pub ends : statements_fall body ≡ false

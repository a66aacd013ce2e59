-- What a driver's syntax tree must meet beside the grammar.
use Rattle.std.specs.Prelude.{ℕ, List, [], ◌∷◌, Bool, true, false, ◌&&◌, ◌||◌, ◌==◌, not, is_none, Option, Some, None}
use Rattle.sdv_registers.specs.declared.kind.Kind.{Kind}
use Rattle.sdv_card.specs.declared.command.Order.{Order}
use Rattle.sdv_card.specs.declared.command.Order.TheVariants.{GoIdleState, ReadSingleBlock, ReadMultipleBlock, WriteBlock, WriteMultipleBlock, EraseBlockStart, EraseBlockEnd, EraseGroupStart, EraseGroupEnd, Erase}
use Rattle.sdv_card.specs.CommandTable.{order_of}
use Rattle.sdv_graph.specs.declared.tree.ScriptCommand.{ScriptCommand}
use Rattle.sdv_graph.specs.declared.tree.Address.{Address}
use Rattle.sdv_graph.specs.declared.tree.Position.{Position}
use Rattle.sdv_graph.specs.declared.tree.Position.TheVariants as positions
use Rattle.sdv_graph.specs.Tree.{Statements, nothing, first, Ways, otherwise, way, Statement, send, phase, setting, choice, turns}
use Rattle.sdv_driver.specs.declared.tree.Input.{Input}
use Rattle.sdv_driver.specs.declared.rules.Moves.{Moves}
use Rattle.sdv_driver.specs.declared.rules.Moves.TheVariants.{Nothing, FromCard, ToCard}
use Rattle.sdv_driver.specs.declared.rules.Rule.{Rule}
use Rattle.sdv_driver.specs.Tree.{Entry}

-- COMMANDS

abbrev pub is_variable : ℕ → Position → Bool
is_variable place (positions.Variable x None) = x == place
is_variable place position = false

-- the block is the input, and nothing is added to it
abbrev pub is_place : (input : Option ℕ) → Option Address → Bool
is_place (Some place) (Some a) = is_variable place a.position
is_place input address = false

abbrev pub is_at_input : Rule → ScriptCommand → Bool
is_at_input rule c = is_place rule.input c.address

-- these are the blocks that an entry moves
abbrev pub comes : Moves → ℕ → Bool
comes (FromCard n) count = n == count
comes moves count = false

abbrev pub goes : Moves → ℕ → Bool
goes (ToCard n) count = n == count
goes moves count = false

abbrev pub is_nothing : Moves → Bool
is_nothing Nothing = true
is_nothing moves = false

-- a command that moves blocks moves those of the buffer at the input; one that erases has no place beside a buffer
abbrev pub order_obeys : Rule → ScriptCommand → Option Order → Bool
order_obeys rule c (Some ReadSingleBlock) = comes rule.moves 1 && is_at_input rule c
order_obeys rule c (Some (ReadMultipleBlock count)) = comes rule.moves count && is_at_input rule c
order_obeys rule c (Some WriteBlock) = goes rule.moves 1 && is_at_input rule c
order_obeys rule c (Some (WriteMultipleBlock count)) = goes rule.moves count && is_at_input rule c
order_obeys rule c (Some EraseBlockStart) = is_nothing rule.moves
order_obeys rule c (Some EraseBlockEnd) = is_nothing rule.moves
order_obeys rule c (Some EraseGroupStart) = is_nothing rule.moves
order_obeys rule c (Some EraseGroupEnd) = is_nothing rule.moves
order_obeys rule c (Some Erase) = is_nothing rule.moves
order_obeys rule c order = true

abbrev pub command_obeys : Rule → ScriptCommand → Bool
command_obeys rule c = order_obeys rule c (order_of rule.kind c.ask)

-- STATEMENTS

-- no statement sets the input
abbrev pub is_input : (input : Option ℕ) → ℕ → Bool
is_input None x = false
is_input (Some place) x = place == x

abbrev mutual
  pub statements_obey : Rule → Statements → Bool
  statements_obey rule nothing = true
  statements_obey rule (first s rest) = statement_obeys rule s && statements_obey rule rest

  pub ways_obey : Rule → Ways → Bool
  ways_obey rule (otherwise b) = statements_obey rule b
  ways_obey rule (way gs b rest) = statements_obey rule b && ways_obey rule rest

  pub statement_obeys : Rule → Statement → Bool
  statement_obeys rule (send c ways) = command_obeys rule c && ways_obey rule ways
  statement_obeys rule (phase p a b) = statements_obey rule a && statements_obey rule b
  statement_obeys rule (setting l) = not (is_input rule.input l.target)
  statement_obeys rule (choice c a b) = statements_obey rule a && statements_obey rule b
  statement_obeys rule (turns n a b) = statements_obey rule a && statements_obey rule b
  statement_obeys rule s = true

-- ENTRIES

abbrev pub input_place : Option Input → Option ℕ
input_place None = None
input_place (Some i) = Some i.place

abbrev pub input_blocks : Option Input → Option ℕ
input_blocks None = None
input_blocks (Some i) = i.blocks

-- the entry's statements move these blocks and no other ones
abbrev pub moves_fit : Entry → Moves → Bool
moves_fit e moves = statements_obey (record { kind = e.names.kind; input = input_place e.input; moves = moves }) e.body

-- with a buffer, they fill it from the card, or give it to the card
abbrev pub buffer_fits : Entry → Option ℕ → Bool
buffer_fits e None = moves_fit e Nothing
buffer_fits e (Some n) = moves_fit e (FromCard n) || moves_fit e (ToCard n)

-- `send 0 { else { } }`
abbrev pub is_idle : Option Order → Bool
is_idle (Some GoIdleState) = true
is_idle order = false

abbrev pub is_reset : Kind → Statement → Bool
is_reset k (send c (otherwise nothing)) = is_idle (order_of k c.ask)
is_reset k s = false

abbrev pub starts_with_reset : Kind → Statements → Bool
starts_with_reset k nothing = false
starts_with_reset k (first s rest) = is_reset k s

-- no input and no partition, and CMD0 first, whatever the card's state is
abbrev pub begins_anew : Entry → Bool
begins_anew e = is_none e.input && is_none e.partition && starts_with_reset e.names.kind e.body

abbrev pub entry_fits : (is_first : Bool) → Entry → Bool
entry_fits is_first e = (not is_first || begins_anew e) && buffer_fits e (input_blocks e.input)

-- the first entry of a driver brings the card up
abbrev pub entries_fit : (is_first : Bool) → List Entry → Bool
entries_fit is_first [] = true
entries_fit is_first (e ∷ es) = entry_fits is_first e && entries_fit false es

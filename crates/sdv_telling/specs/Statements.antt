-- The FIRST WORDS of a statement: as scripts write it, with `CMD` before the index of a command, and without the
-- arguments of CMD41 and CMD38.
use Rattle.std.specs.Prelude.{ℕ, List, [], ◌++◌, Bool, true, false, ◌==◌, ◌||◌, slice_get, Option, Some, None, codes, decimal, if◌then◌else◌}
use Rattle.sdv_card.specs.Modes.{line_count}
use Rattle.sdv_card.specs.declared.event.Aim.{Aim}
use Rattle.sdv_card.specs.declared.event.Aim.TheVariants.{Rca, Plain}
use Rattle.sdv_card.specs.declared.event.Ask.{Ask}
use Rattle.sdv_graph.specs.declared.tree.Address.{Address}
use Rattle.sdv_graph.specs.declared.tree.Atom.{Atom}
use Rattle.sdv_graph.specs.declared.tree.Atom.TheVariants as atoms
use Rattle.sdv_graph.specs.declared.tree.Change.{Change}
use Rattle.sdv_graph.specs.declared.tree.Change.TheVariants.{Same, Plus, Minus}
use Rattle.sdv_graph.specs.declared.tree.ScriptCommand.{ScriptCommand}
use Rattle.sdv_graph.specs.declared.tree.Condition.{Condition}
use Rattle.sdv_graph.specs.declared.tree.Condition.TheVariants as conditions
use Rattle.sdv_graph.specs.declared.tree.Let.{Let}
use Rattle.sdv_graph.specs.declared.tree.Phase.{Phase}
use Rattle.sdv_graph.specs.declared.tree.Phase.TheVariants.{ReceiveBlocks, ReceiveRegister, GiveBlocks, Wait}
use Rattle.sdv_graph.specs.declared.tree.Position.{Position}
use Rattle.sdv_graph.specs.declared.tree.Position.TheVariants.{Number, Variable}
use Rattle.sdv_graph.specs.declared.tree.Unit.{Unit as AddressUnit}
use Rattle.sdv_graph.specs.declared.tree.Unit.TheVariants.{Block, Byte, By}
use Rattle.sdv_graph.specs.Path.{Action, sends, phases, lets, tests, flags, widths, heads, jumps, stops}
use Rattle.sdv_graph.specs.Tree.{Declared}
use Rattle.sdv_graph.specs.Walk.{Ending, Failed}

-- NAMES

abbrev pub Text : Type 0
Text = List ℕ

abbrev pub name_or_mark : Option Text → Text
name_or_mark (Some name) = name
name_or_mark None = codes "?"

-- the name in a place; a question mark where there is none
abbrev pub name_at : List Text → (place : ℕ) → Text
name_at names place = name_or_mark (slice_get names place)

-- ADDRESSES

abbrev pub more_words : Option ℕ → Text
more_words None = []
more_words (Some more) = codes " + " ++ decimal more

abbrev pub position_words : Declared → Position → Text
position_words names (Number number) = decimal number
position_words names (Variable variable more) = name_at names.numbers variable ++ more_words more

abbrev pub unit_words : Declared → AddressUnit → Text
unit_words names Block = codes "at block "
unit_words names Byte = codes "at byte "
unit_words names (By flag) = codes "at by " ++ (name_at names.flags flag ++ codes " ")

abbrev pub address_words : Declared → Address → Text
address_words names a = unit_words names a.unit ++ position_words names a.position

-- COMMANDS

abbrev pub plain_words : Aim → Text
plain_words Plain = codes " none"
plain_words Rca = []

-- CMD7 with another argument than the card's address deselects it
abbrev pub aim_words : Ask → Text
aim_words ask = if ask.index == 7 then plain_words ask.aim else []

abbrev pub address_if_any : Declared → Option Address → Text
address_if_any names (Some a) = codes " " ++ address_words names a
address_if_any names None = []

-- CMD18, CMD23 and CMD25 announce a count
abbrev pub has_count : (index : ℕ) → Bool
has_count index = (index == 18) || ((index == 23) || (index == 25))

abbrev pub count_words : Ask → Text
count_words ask = if has_count ask.index then codes " count " ++ decimal ask.count else []

-- what an argument of index 6 sets
abbrev pub set_words : (argument : ℕ) → Text
set_words argument =
    if (argument == 0) || (argument == 0x03b70000) then codes " bus.lines 1"
    else (if (argument == 2) || (argument == 0x03b70100) then codes " bus.lines 4"
    else (if argument == 0x03b70200 then codes " bus.lines 8"
    else (if argument == 0x03b30000 then codes " part.access 0"
    else (if argument == 0x03b30100 then codes " part.access 1"
    else (if argument == 0x03b30200 then codes " part.access 2" else [])))))

abbrev pub setting_words : Ask → Text
setting_words ask = if ask.index == 6 then set_words ask.argument else []

abbrev pub command_words : Declared → ScriptCommand → Text
command_words names c =
    codes "CMD" ++ (decimal c.ask.index ++ (aim_words c.ask ++ (setting_words c.ask
    ++ (address_if_any names c.address ++ count_words c.ask))))

-- OTHER STATEMENTS

abbrev pub phase_words : Phase → Text
phase_words ReceiveBlocks = codes "recv"
phase_words ReceiveRegister = codes "recv reg"
phase_words GiveBlocks = codes "give"
phase_words Wait = codes "wait"

abbrev pub atom_words : Declared → Atom → Text
atom_words names (atoms.Number number) = decimal number
atom_words names (atoms.Variable variable) = name_at names.numbers variable
atom_words names atoms.CsdBlocks = codes "csd.blocks"
atom_words names atoms.ExtBlocks = codes "ext.blocks"
atom_words names atoms.ExtBoot = codes "ext.boot"

abbrev pub change_words : Change → Text
change_words Same = []
change_words (Plus number) = codes " + " ++ decimal number
change_words (Minus number) = codes " - " ++ decimal number

abbrev pub let_words : Declared → Let → Text
let_words names l = codes "let " ++ (name_at names.numbers l.target
    ++ (codes " = " ++ (atom_words names l.atom ++ change_words l.change)))

abbrev pub condition_words : Declared → Condition → Text
condition_words names (conditions.Flag flag) = name_at names.flags flag
condition_words names (conditions.AtLeast variable number) =
    name_at names.numbers variable ++ (codes " >= " ++ decimal number)
condition_words names (conditions.Below variable number) =
    name_at names.numbers variable ++ (codes " < " ++ decimal number)

abbrev pub flag_word : (on : Bool) → Text
flag_word true = codes "set "
flag_word false = codes "clear "

-- every run of a script ends in `done` or in a fault
abbrev pub ending_words : Ending → Text
ending_words (Failed name) = codes "fault " ++ name
ending_words ending = codes "done"

-- A STATEMENT
abbrev pub statement_words : Declared → Action → Text
statement_words names (sends c ways other) = command_words names c
statement_words names (phases p well other) = phase_words p
statement_words names (lets l t) = let_words names l
statement_words names (tests c met unmet) = codes "if " ++ condition_words names c
statement_words names (flags flag on t) = flag_word on ++ name_at names.flags flag
statement_words names (widths width t) = codes "bus.lines " ++ decimal (line_count width)
statement_words names (heads count body other) = codes "loop " ++ decimal count
statement_words names (jumps t) = codes "break"
statement_words names (stops ending) = ending_words ending

-- The grammar of scripts: for each part of a syntax tree the tokens that it is written as, followed by others.
use Rattle.std.specs.Prelude.{ℕ, List, [], ◌∷◌, Option, Some, None, get_or}
use Rattle.sdv_registers.specs.declared.kind.Kind.{Kind}
use Rattle.sdv_registers.specs.declared.kind.Kind.TheVariants.{Sd, Emmc}
use Rattle.sdv_card.specs.declared.event.Aim.{Aim}
use Rattle.sdv_card.specs.declared.event.Aim.TheVariants.{Rca, Plain}
use Rattle.sdv_card.specs.declared.guard.Guard.{Guard}
use Rattle.sdv_card.specs.declared.guard.Guard.TheVariants as guards
use Rattle.sdv_card.specs.declared.state.State.{State}
use Rattle.sdv_card.specs.declared.state.State.TheVariants as states
use Rattle.sdv_card.specs.declared.command.Setting.{Setting}
use Rattle.sdv_card.specs.declared.command.Setting.TheVariants.{Lines, Access}
use Rattle.sdv_card.specs.Modes.{line_count, partition_number}
use Rattle.sdv_script.specs.declared.token.Sign.TheVariants as sign
use Rattle.sdv_script.specs.declared.keyword.Keyword.{Keyword}
use Rattle.sdv_script.specs.declared.keyword.Keyword.TheVariants as word
use Rattle.sdv_script.specs.declared.operand.Operand.{Operand}
use Rattle.sdv_script.specs.declared.operand.Operand.TheVariants.{Bare, Select, Conditions, Addressed, Counted, Preset, Erase, Switch}
use Rattle.sdv_graph.specs.declared.tree.ScriptCommand.{ScriptCommand}
use Rattle.sdv_graph.specs.declared.tree.Address.{Address}
use Rattle.sdv_graph.specs.declared.tree.Unit.{Unit as AddressUnit}
use Rattle.sdv_graph.specs.declared.tree.Unit.TheVariants as units
use Rattle.sdv_graph.specs.declared.tree.Position.{Position}
use Rattle.sdv_graph.specs.declared.tree.Position.TheVariants as positions
use Rattle.sdv_graph.specs.declared.tree.Phase.{Phase}
use Rattle.sdv_graph.specs.declared.tree.Phase.TheVariants as phases
use Rattle.sdv_graph.specs.declared.tree.Let.{Let}
use Rattle.sdv_graph.specs.declared.tree.Atom.{Atom}
use Rattle.sdv_graph.specs.declared.tree.Atom.TheVariants as atoms
use Rattle.sdv_graph.specs.declared.tree.Change.{Change}
use Rattle.sdv_graph.specs.declared.tree.Change.TheVariants as changes
use Rattle.sdv_graph.specs.declared.tree.Condition.{Condition}
use Rattle.sdv_graph.specs.declared.tree.Condition.TheVariants as conditions
use Rattle.sdv_script.specs.Tokens.{Token, Key, Name, Number, Mark}
use Rattle.sdv_script.specs.Commands.{operand_of, setting_of}
use Rattle.sdv_graph.specs.Tree.{Statements, nothing, first, Ways, otherwise, way, Statement, send, phase, setting, choice, set, clear, bus_lines, turns, break, done, fault, Declared}

-- NAMES, by their places in declared order

abbrev pub flag_name : Declared → ℕ → Token
flag_name names f = Name (get_or names.flags f [])

abbrev pub number_name : Declared → ℕ → Token
number_name names x = Name (get_or names.numbers x [])

-- COMMANDS

-- unit = "block" | "byte" | "by" flag
abbrev pub unit_written : Declared → AddressUnit → List Token → List Token
unit_written names units.Block others = Key word.Block ∷ others
unit_written names units.Byte others = Key word.Byte ∷ others
unit_written names (units.By f) others = Key word.By ∷ flag_name names f ∷ others

-- number | num_name ["+" number]
abbrev pub position_written : Declared → Position → List Token → List Token
position_written names (positions.Number n) others = Number n ∷ others
position_written names (positions.Variable x None) others = number_name names x ∷ others
position_written names (positions.Variable x (Some k)) others = number_name names x ∷ Mark sign.Plus ∷ Number k ∷ others

-- addr = "at" unit position
abbrev pub address_written : Declared → Address → List Token → List Token
address_written names a others = Key word.At ∷ unit_written names a.unit (position_written names a.position others)

abbrev pub address_if_any : Declared → Option Address → List Token → List Token
address_if_any names None others = others
address_if_any names (Some a) others = address_written names a others

abbrev pub select_written : Aim → List Token → List Token
select_written Rca others = others
select_written Plain others = Key word.None ∷ others

-- setting = "bus.lines" number | "part.access" number
abbrev pub setting_written : Setting → List Token → List Token
setting_written (Lines width) others = Key word.BusLines ∷ Number (line_count width) ∷ others
setting_written (Access partition) others = Key word.PartAccess ∷ Number (partition_number partition) ∷ others

abbrev pub setting_if_any : Option Setting → List Token → List Token
setting_if_any None others = others
setting_if_any (Some s) others = setting_written s others

-- what stands after the index
abbrev pub operand_written : Operand → Declared → ScriptCommand → List Token → List Token
operand_written (Bare aim) names c others = others
operand_written Select names c others = select_written c.ask.aim others
operand_written Conditions names c others = Number c.ask.argument ∷ others
operand_written (Addressed count) names c others = address_if_any names c.address others
operand_written Counted names c others = address_if_any names c.address (Key word.Count ∷ Number c.ask.count ∷ others)
operand_written Preset names c others = Key word.Count ∷ Number c.ask.count ∷ others
operand_written Erase names c others = Number c.ask.argument ∷ others
operand_written Switch names c others = setting_if_any (setting_of names.kind c.ask.argument) others

abbrev pub operand_if_any : Option Operand → Declared → ScriptCommand → List Token → List Token
operand_if_any None names c others = others
operand_if_any (Some operand) names c others = operand_written operand names c others

-- cmd = number [argument]
abbrev pub command_written : Declared → ScriptCommand → List Token → List Token
command_written names c others = Number c.ask.index ∷ operand_if_any (operand_of names.kind c.ask.index) names c others

-- GUARDS

abbrev pub state_word : State → Keyword
state_word states.Idle = word.Idle
state_word states.Ready = word.Ready
state_word states.Ident = word.Ident
state_word states.Stby = word.Stby
state_word states.Tran = word.Tran
state_word states.Data = word.Data
state_word states.Rcv = word.Rcv
state_word states.Prg = word.Prg
state_word states.Dis = word.Dis

-- guard = "timeout" | "answer" | "clean" | "ready" | "app" | "echo" | "ocr.ready" | "ocr.block" | "state" "=" state
abbrev pub guard_written : Guard → List Token → List Token
guard_written guards.Timeout others = Key word.Timeout ∷ others
guard_written guards.Answer others = Key word.Answer ∷ others
guard_written guards.Clean others = Key word.Clean ∷ others
guard_written guards.Ready others = Key word.Ready ∷ others
guard_written guards.App others = Key word.App ∷ others
guard_written guards.Echo others = Key word.Echo ∷ others
guard_written guards.OcrReady others = Key word.OcrReady ∷ others
guard_written guards.OcrBlock others = Key word.OcrBlock ∷ others
guard_written (guards.State s) others = Key word.State ∷ Mark sign.Equals ∷ Key (state_word s) ∷ others
guard_written guards.Ok others = Key word.Ok ∷ others

-- guard {"&" guard}
abbrev pub guards_written : List Guard → List Token → List Token
guards_written [] others = others
guards_written (g ∷ []) others = guard_written g others
guards_written (g ∷ h ∷ gs) others = guard_written g (Mark sign.And ∷ guards_written (h ∷ gs) others)

-- STATEMENTS WITHOUT BLOCKS

-- atom = number | num_name | "csd.blocks" | "ext.blocks" | "ext.boot"
abbrev pub atom_written : Declared → Atom → List Token → List Token
atom_written names (atoms.Number n) others = Number n ∷ others
atom_written names (atoms.Variable x) others = number_name names x ∷ others
atom_written names atoms.CsdBlocks others = Key word.CsdBlocks ∷ others
atom_written names atoms.ExtBlocks others = Key word.ExtBlocks ∷ others
atom_written names atoms.ExtBoot others = Key word.ExtBoot ∷ others

-- [("+" | "-") number]
abbrev pub change_written : Change → List Token → List Token
change_written changes.Same others = others
change_written (changes.Plus k) others = Mark sign.Plus ∷ Number k ∷ others
change_written (changes.Minus k) others = Mark sign.Minus ∷ Number k ∷ others

-- "let" num_name "=" atom [("+" | "-") number]
abbrev pub let_written : Declared → Let → List Token → List Token
let_written names l others =
    Key word.Let ∷ number_name names l.target ∷ Mark sign.Equals ∷ atom_written names l.atom
    (change_written l.change others)

-- num_name (">=" | "<") number | flag
abbrev pub condition_written : Declared → Condition → List Token → List Token
condition_written names (conditions.Flag f) others = flag_name names f ∷ others
condition_written names (conditions.AtLeast x k) others = number_name names x ∷ Mark sign.AtLeast ∷ Number k ∷ others
condition_written names (conditions.Below x k) others = number_name names x ∷ Mark sign.Below ∷ Number k ∷ others

-- "recv" ["reg"] | "give" | "wait"
abbrev pub phase_written : Phase → List Token → List Token
phase_written phases.ReceiveBlocks others = Key word.Recv ∷ others
phase_written phases.ReceiveRegister others = Key word.Recv ∷ Key word.Reg ∷ others
phase_written phases.GiveBlocks others = Key word.Give ∷ others
phase_written phases.Wait others = Key word.Wait ∷ others

-- STATEMENTS

abbrev mutual
  -- {stmt}
  pub statements_written : Declared → Statements → List Token → List Token
  statements_written names nothing others = others
  statements_written names (first s rest) others = statement_written names s (statements_written names rest others)

  -- {guard {"&" guard} block} "else" block, with block = "{" {stmt} "}"
  pub ways_written : Declared → Ways → List Token → List Token
  ways_written names (otherwise b) others =
      Key word.Else ∷ Mark sign.OpenBrace ∷ statements_written names b (Mark sign.CloseBrace ∷ others)
  ways_written names (way gs b rest) others =
      guards_written gs (Mark sign.OpenBrace ∷ statements_written names b
      (Mark sign.CloseBrace ∷ ways_written names rest others))

  pub statement_written : Declared → Statement → List Token → List Token
  statement_written names (send c ways) others =
      Key word.Send ∷ command_written names c
      (Mark sign.OpenBrace ∷ ways_written names ways (Mark sign.CloseBrace ∷ others))
  statement_written names (phase p a b) others =
      phase_written p (Mark sign.OpenBrace ∷ Key word.Ok
      ∷ Mark sign.OpenBrace ∷ statements_written names a (Mark sign.CloseBrace
      ∷ Key word.Else ∷ Mark sign.OpenBrace ∷ statements_written names b
      (Mark sign.CloseBrace ∷ Mark sign.CloseBrace ∷ others)))
  statement_written names (setting l) others = let_written names l others
  statement_written names (choice c a b) others =
      Key word.If ∷ condition_written names c (
      Mark sign.OpenBrace ∷ statements_written names a (Mark sign.CloseBrace
      ∷ Key word.Else ∷ Mark sign.OpenBrace ∷ statements_written names b (Mark sign.CloseBrace ∷ others)))
  statement_written names (set f) others = Key word.Set ∷ flag_name names f ∷ others
  statement_written names (clear f) others = Key word.Clear ∷ flag_name names f ∷ others
  statement_written names (bus_lines width) others = Key word.BusLines ∷ Number (line_count width) ∷ others
  statement_written names (turns n a b) others =
      Key word.Loop ∷ Number n
      ∷ Mark sign.OpenBrace ∷ statements_written names a (Mark sign.CloseBrace
      ∷ Key word.Else ∷ Mark sign.OpenBrace ∷ statements_written names b (Mark sign.CloseBrace ∷ others))
  statement_written names break others = Key word.Break ∷ others
  statement_written names done others = Key word.Done ∷ others
  statement_written names (fault name) others = Key word.Fault ∷ Name name ∷ others

-- SCRIPTS

abbrev pub names_written : List (List ℕ) → List Token → List Token
names_written [] others = others
names_written (n ∷ ns) others = Name n ∷ names_written ns others

-- a list of names behind its word, where there is one
abbrev pub list_written : Keyword → List (List ℕ) → List Token → List Token
list_written keyword [] others = others
list_written keyword (n ∷ ns) others = Key keyword ∷ names_written (n ∷ ns) others

abbrev pub kind_word : Kind → Keyword
kind_word Sd = word.Sd
kind_word Emmc = word.Emmc

-- script = "card" ("sd" | "emmc") ["flags" name {name}] ["nums" name {name}] {stmt}
abbrev pub script_written : Declared → Statements → List Token
script_written names body =
    Key word.Card ∷ Key (kind_word names.kind) ∷ list_written word.Flags names.flags
    (list_written word.Nums names.numbers (statements_written names body []))

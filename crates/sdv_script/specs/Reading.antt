-- Reading a script's tokens from left to right: the part of a tree that they begin with, and the tokens after it; none
-- where they begin with no such part. The laws of reading say that this is the grammar.
use Rattle.std.specs.Prelude.{◌≡◌, ℕ, zero, suc, ◌+◌, List, [], ◌∷◌, ◌++◌, length, Bool, true, false, ◌&&◌, nat_lt, nat_le, Option, Some, None, is_none, Result, Ok, Err, if◌then◌else◌}
use Rattle.sdv_text.specs.Fronts.{◌>>=◌}
use Rattle.sdv_registers.specs.declared.kind.Kind.{Kind}
use Rattle.sdv_registers.specs.declared.kind.Kind.TheVariants.{Sd, Emmc}
use Rattle.sdv_card.specs.declared.event.Aim.TheVariants.{Rca, Plain}
use Rattle.sdv_card.specs.declared.event.Ask.{Ask}
use Rattle.sdv_card.specs.declared.command.Order.{Order}
use Rattle.sdv_card.specs.CommandTable.{order_of}
use Rattle.sdv_card.specs.declared.guard.Guard.{Guard}
use Rattle.sdv_card.specs.declared.guard.Guard.TheVariants as guards
use Rattle.sdv_card.specs.declared.state.State.{State}
use Rattle.sdv_card.specs.declared.state.State.TheVariants as states
use Rattle.sdv_card.specs.declared.state.Width.{Width}
use Rattle.sdv_card.specs.declared.state.Partition.{Partition}
use Rattle.sdv_card.specs.declared.command.Setting.{Setting}
use Rattle.sdv_card.specs.declared.command.Setting.TheVariants.{Lines, Access}
use Rattle.sdv_card.specs.Modes.{has_width}
use Rattle.sdv_script.specs.declared.fault.Stop.{Stop}
use Rattle.sdv_script.specs.declared.fault.Stop.TheVariants as stop
use Rattle.sdv_script.specs.declared.token.Sign.TheVariants as sign
use Rattle.sdv_script.specs.declared.keyword.Keyword.{Keyword}
use Rattle.sdv_script.specs.declared.keyword.Keyword.TheVariants as word
use Rattle.sdv_script.specs.declared.depth.Depth.{Depth}
use Rattle.sdv_script.specs.declared.operand.Operand.{Operand}
use Rattle.sdv_script.specs.declared.operand.Operand.TheVariants.{Bare, Select, Conditions, Addressed, Counted, Preset, Erase, Switch}
use Rattle.sdv_graph.specs.declared.tree.ScriptCommand.{ScriptCommand}
use Rattle.sdv_graph.specs.declared.tree.Address.{Address}
use Rattle.sdv_graph.specs.declared.tree.Unit.{Unit as AddressUnit}
use Rattle.sdv_graph.specs.declared.tree.Unit.TheVariants as units
use Rattle.sdv_graph.specs.declared.tree.Position.{Position}
use Rattle.sdv_graph.specs.declared.tree.Position.TheVariants as positions
use Rattle.sdv_graph.specs.declared.tree.Phase.{Phase}
use Rattle.sdv_graph.specs.declared.tree.Phase.TheVariants as phases
use Rattle.sdv_graph.specs.declared.tree.Let.{Let}
use Rattle.sdv_graph.specs.declared.tree.Atom.{Atom}
use Rattle.sdv_graph.specs.declared.tree.Atom.TheVariants as atoms
use Rattle.sdv_graph.specs.declared.tree.Change.{Change}
use Rattle.sdv_graph.specs.declared.tree.Change.TheVariants as changes
use Rattle.sdv_graph.specs.declared.tree.Condition.{Condition}
use Rattle.sdv_graph.specs.declared.tree.Condition.TheVariants as conditions
use Rattle.sdv_script.specs.Tokens.{Token, Key, Name, Number, Mark}
use Rattle.sdv_script.specs.Commands.{operand_of, is_conditions, is_erase, has_partitions, setting_argument, width_with, partition_with, has_ext_csd, fits_order}
use Rattle.sdv_script.specs.Rules.{place_of, ask_with, deeper, in_loop, max_number, max_braces, max_loops, max_statements, max_name, max_flags, max_numbers, max_bytes, statements_fall}
use Rattle.sdv_graph.specs.Tree.{Statements, nothing, first, Ways, otherwise, way, Statement, send, phase, setting, choice, set, clear, bus_lines, turns, break, done, fault, Declared, Guarded}

abbrev pub Fails : {Y : Type 0} → Stop → Option Y → Type 0
Fails stop.Memory read = Unit {0}
Fails (stop.Fault what) read = read ≡ None

-- What a function returned, seen by view, is what reading gives, unless memory ran out.
abbrev pub Gives : {X Y : Type 0} → (X → Y) → Result X Stop → Option Y → Type 0
Gives view (Ok x) read = read ≡ Some (view x)
Gives view (Err e) read = Fails e read

abbrev pub Read : Type 0 → Type 0
Read A = Option (A × List Token)

-- SINGLE TOKENS

-- with the depth behind the brace
abbrev pub after_open : Depth → List Token → Read Depth
after_open depth (Mark sign.OpenBrace ∷ ts) = if nat_lt depth.braces max_braces then Some (deeper depth, ts) else None
after_open depth ts = None

abbrev pub after_close : List Token → Option (List Token)
after_close (Mark sign.CloseBrace ∷ ts) = Some ts
after_close ts = None

abbrev pub after_equals : List Token → Option (List Token)
after_equals (Mark sign.Equals ∷ ts) = Some ts
after_equals ts = None

abbrev pub after_and : List Token → Option (List Token)
after_and (Mark sign.And ∷ ts) = Some ts
after_and ts = None

abbrev pub after_else : List Token → Option (List Token)
after_else (Key word.Else ∷ ts) = Some ts
after_else ts = None

abbrev pub after_ok : List Token → Option (List Token)
after_ok (Key word.Ok ∷ ts) = Some ts
after_ok ts = None

abbrev pub after_at : List Token → Option (List Token)
after_at (Key word.At ∷ ts) = Some ts
after_at ts = None

abbrev pub after_count : List Token → Option (List Token)
after_count (Key word.Count ∷ ts) = Some ts
after_count ts = None

abbrev pub after_card : List Token → Option (List Token)
after_card (Key word.Card ∷ ts) = Some ts
after_card ts = None

abbrev pub read_kind : List Token → Read Kind
read_kind (Key word.Sd ∷ ts) = Some (Sd, ts)
read_kind (Key word.Emmc ∷ ts) = Some (Emmc, ts)
read_kind ts = None

abbrev pub read_figure : List Token → Read ℕ
read_figure (Number n ∷ ts) = if nat_le n max_number then Some (n, ts) else None
read_figure ts = None

-- a number from 1 to 65,535
abbrev pub read_count : List Token → Read ℕ
read_count (Number n ∷ ts) = if nat_lt 0 n && nat_le n 65535 then Some (n, ts) else None
read_count ts = None

abbrev pub with_rest : {A : Type 0} → List Token → Option A → Read A
with_rest ts found = found >>= λ x. Some (x, ts)

abbrev pub read_flag : Declared → List Token → Read ℕ
read_flag names (Name n ∷ ts) = with_rest ts (place_of n names.flags)
read_flag names ts = None

abbrev pub read_number_name : Declared → List Token → Read ℕ
read_number_name names (Name n ∷ ts) = with_rest ts (place_of n names.numbers)
read_number_name names ts = None

-- COMMANDS

abbrev pub read_unit : Declared → List Token → Read AddressUnit
read_unit names (Key word.Block ∷ ts) = Some (units.Block, ts)
read_unit names (Key word.Byte ∷ ts) = Some (units.Byte, ts)
read_unit names (Key word.By ∷ ts) = read_flag names ts >>= λ f. Some (units.By f.0, f.1)
read_unit names ts = None

abbrev pub read_sum : ℕ → List Token → Read Position
read_sum x (Mark sign.Plus ∷ ts) = read_figure ts >>= λ k. Some (positions.Variable x (Some k.0), k.1)
read_sum x ts = Some (positions.Variable x None, ts)

abbrev pub read_position : Declared → List Token → Read Position
read_position names (Number n ∷ ts) = read_figure (Number n ∷ ts) >>= λ k. Some (positions.Number k.0, k.1)
read_position names ts = read_number_name names ts >>= λ x. read_sum x.0 x.1

abbrev pub read_address : Declared → List Token → Read Address
read_address names ts =
    after_at ts >>= λ ts1. read_unit names ts1 >>= λ u. read_position names u.1
    >>= λ p. Some (record { unit = u.0; position = p.0 }, p.1)

abbrev pub bare_command : Ask → ScriptCommand
bare_command ask = record { ask = ask; address = None }

abbrev pub addressed_command : Ask → Address → ScriptCommand
addressed_command ask address = record { ask = ask; address = Some address }

abbrev pub read_select : ℕ → List Token → Read ScriptCommand
read_select index (Key word.None ∷ ts) = Some (bare_command (ask_with index Plain 0 0), ts)
read_select index ts = Some (bare_command (ask_with index Rca 0 0), ts)

abbrev pub read_conditions : ℕ → List Token → Read ScriptCommand
read_conditions index (Number n ∷ ts) = if is_conditions n then Some
    (bare_command (ask_with index Plain n 0), ts) else None
read_conditions index ts = None

abbrev pub read_counted : Declared → ℕ → List Token → Read ScriptCommand
read_counted names index ts =
    read_address names ts >>= λ a. after_count a.1 >>= λ ts1. read_count ts1 >>= λ n.
    Some (addressed_command (ask_with index Plain 0 n.0) a.0, n.1)

abbrev pub read_preset : ℕ → List Token → Read ScriptCommand
read_preset index ts =
    after_count ts >>= λ ts1. read_count ts1 >>= λ n. Some (bare_command (ask_with index Plain 0 n.0), n.1)

abbrev pub read_erase : ℕ → List Token → Read ScriptCommand
read_erase index (Number n ∷ ts) = if is_erase n then Some (bare_command (ask_with index Plain n 0), ts) else None
read_erase index ts = None

-- a number of data lines that the kind has
abbrev pub read_width : Kind → List Token → Read Width
read_width k (Number n ∷ ts) = width_with n >>= λ width. if has_width k width then Some (width, ts) else None
read_width k ts = None

abbrev pub read_partition : List Token → Read Partition
read_partition (Number n ∷ ts) = with_rest ts (partition_with n)
read_partition ts = None

abbrev pub read_setting : Kind → List Token → Read Setting
read_setting k (Key word.BusLines ∷ ts) = read_width k ts >>= λ w. Some (Lines w.0, w.1)
read_setting k (Key word.PartAccess ∷ ts) =
    if has_partitions k then (read_partition ts >>= λ p. Some (Access p.0, p.1)) else None
read_setting k ts = None

abbrev pub read_switch : Kind → ℕ → List Token → Read ScriptCommand
read_switch k index ts =
    read_setting k ts >>= λ s. Some (bare_command (ask_with index Plain (setting_argument k s.0) 0), s.1)

abbrev pub read_operand : Declared → ℕ → Operand → List Token → Read ScriptCommand
read_operand names index (Bare aim) ts = Some (bare_command (ask_with index aim 0 0), ts)
read_operand names index Select ts = read_select index ts
read_operand names index Conditions ts = read_conditions index ts
read_operand names index (Addressed count) ts =
    read_address names ts >>= λ a. Some (addressed_command (ask_with index Plain 0 count) a.0, a.1)
read_operand names index Counted ts = read_counted names index ts
read_operand names index Preset ts = read_preset index ts
read_operand names index Erase ts = read_erase index ts
read_operand names index Switch ts = read_switch names.kind index ts

abbrev pub read_command : Declared → List Token → Read ScriptCommand
read_command names (Number n ∷ ts) = operand_of names.kind n >>= λ operand. read_operand names n operand ts
read_command names ts = None

-- GUARDS

abbrev pub state_of : Keyword → Option State
state_of word.Idle = Some states.Idle
state_of word.Ready = Some states.Ready
state_of word.Ident = Some states.Ident
state_of word.Stby = Some states.Stby
state_of word.Tran = Some states.Tran
state_of word.Data = Some states.Data
state_of word.Rcv = Some states.Rcv
state_of word.Prg = Some states.Prg
state_of word.Dis = Some states.Dis
state_of keyword = None

abbrev pub read_state : List Token → Read State
read_state (Key k ∷ ts) = with_rest ts (state_of k)
read_state ts = None

-- the guards of one word
abbrev pub guard_of : Keyword → Option Guard
guard_of word.Timeout = Some guards.Timeout
guard_of word.Answer = Some guards.Answer
guard_of word.Clean = Some guards.Clean
guard_of word.Ready = Some guards.Ready
guard_of word.App = Some guards.App
guard_of word.Echo = Some guards.Echo
guard_of word.OcrReady = Some guards.OcrReady
guard_of word.OcrBlock = Some guards.OcrBlock
guard_of keyword = None

abbrev pub read_state_guard : Option Order → List Token → Read Guard
read_state_guard order ts =
    if fits_order (guards.State states.Idle) order
    then (after_equals ts >>= λ ts1. read_state ts1 >>= λ s. Some (guards.State s.0, s.1)) else None

abbrev pub read_word_guard : Option Order → Keyword → List Token → Read Guard
read_word_guard order k ts = guard_of k >>= λ g. if fits_order g order then Some (g, ts) else None

abbrev pub read_guard : Option Order → List Token → Read Guard
read_guard order (Key word.State ∷ ts) = read_state_guard order ts
read_guard order (Key k ∷ ts) = read_word_guard order k ts
read_guard order ts = None

abbrev pub more_if : (List Token → Read (List Guard)) → List Guard → List Token → Option (List Token)
    → Read (List Guard)
more_if further gs ts None = Some (gs, ts)
more_if further gs ts (Some rest) = further rest

abbrev pub more_guards : (List Token → Read (List Guard)) → List Guard → List Token → Read (List Guard)
more_guards further gs ts = more_if further gs ts (after_and ts)

-- at most n guards, after those that were read
unfoldable pub guards_within : ℕ → Option Order → List Guard → List Token → Read (List Guard)
guards_within zero order before ts = None
guards_within (suc n) order before ts =
    read_guard order ts >>= λ g. more_guards (guards_within n order (before ++ g.0 ∷ [])) (before ++ g.0 ∷ []) g.1

-- there are no more guards than tokens
unfoldable pub read_guards : Option Order → List Guard → List Token → Read (List Guard)
read_guards order before ts = guards_within (length ts) order before ts

-- STATEMENTS WITHOUT BLOCKS

abbrev pub read_atom : Declared → List Token → Read Atom
read_atom names (Number n ∷ ts) = read_figure (Number n ∷ ts) >>= λ k. Some (atoms.Number k.0, k.1)
read_atom names (Key word.CsdBlocks ∷ ts) = Some (atoms.CsdBlocks, ts)
read_atom names (Key word.ExtBlocks ∷ ts) = if has_ext_csd names.kind then Some (atoms.ExtBlocks, ts) else None
read_atom names (Key word.ExtBoot ∷ ts) = if has_ext_csd names.kind then Some (atoms.ExtBoot, ts) else None
read_atom names ts = read_number_name names ts >>= λ x. Some (atoms.Variable x.0, x.1)

abbrev pub read_change : List Token → Read Change
read_change (Mark sign.Plus ∷ ts) = read_figure ts >>= λ k. Some (changes.Plus k.0, k.1)
read_change (Mark sign.Minus ∷ ts) = read_figure ts >>= λ k. Some (changes.Minus k.0, k.1)
read_change ts = Some (changes.Same, ts)

-- after `let`
abbrev pub read_let : Declared → List Token → Read Let
read_let names ts =
    read_number_name names ts >>= λ x. after_equals x.1 >>= λ ts1. read_atom names ts1 >>= λ a. read_change a.1 >>= λ c.
    Some (record { target = x.0; atom = a.0; change = c.0 }, c.1)

abbrev pub read_test : ℕ → List Token → Read Condition
read_test x (Mark sign.AtLeast ∷ ts) = read_figure ts >>= λ k. Some (conditions.AtLeast x k.0, k.1)
read_test x (Mark sign.Below ∷ ts) = read_figure ts >>= λ k. Some (conditions.Below x k.0, k.1)
read_test x ts = None

abbrev pub condition_by : (flag number : Option ℕ) → List Token → Read Condition
condition_by (Some f) number ts = Some (conditions.Flag f, ts)
condition_by None (Some x) ts = read_test x ts
condition_by None None ts = None

-- after `if`
abbrev pub read_condition : Declared → List Token → Read Condition
read_condition names (Name n ∷ ts) = condition_by (place_of n names.flags) (place_of n names.numbers) ts
read_condition names ts = None

-- after `recv`
abbrev pub read_receive : List Token → Read Phase
read_receive (Key word.Reg ∷ ts) = Some (phases.ReceiveRegister, ts)
read_receive ts = Some (phases.ReceiveBlocks, ts)

-- after `fault`
abbrev pub read_fault : List Token → Read (List ℕ)
read_fault (Name n ∷ ts) = if nat_le (length n) max_name then Some (n, ts) else None
read_fault ts = None

-- STATEMENTS

-- the tokens from a place on, and how many statements have begun before it
pub record Progress : Type 0 where
  pub tokens : List Token
  pub begun : ℕ

abbrev pub progress_to : List Token → ℕ → Progress
progress_to ts begun = record { tokens = ts; begun = begun }

abbrev pub Reading : Type 0 → Type 0
Reading A = Option (A × Progress)

abbrev pub Blocks : Type 0
Blocks = Depth → Progress → Reading Statements

abbrev pub WaysOf : Type 0
WaysOf = Depth → Option Order → Progress → Reading Ways

-- "{" {stmt} "}"
abbrev pub read_block : Blocks → Depth → Progress → Reading Statements
read_block blocks depth at =
    after_open depth at.tokens >>= λ o. blocks o.0 (progress_to o.1 at.begun) >>= λ b.
    after_close b.1.tokens >>= λ ts1. Some (b.0, progress_to ts1 b.1.begun)

abbrev pub Pair : Type 0
Pair = Statements × Statements

-- block "else" block, of which the first may stand deeper
abbrev pub read_branches : Blocks → (inside depth : Depth) → Progress → Reading Pair
read_branches blocks inside depth at =
    read_block blocks inside at >>= λ a. after_else a.1.tokens >>= λ ts.
    read_block blocks depth (progress_to ts a.1.begun) >>= λ b. Some ((a.0, b.0), b.1)

-- "{" "ok" block "else" block "}"
abbrev pub read_ends : Blocks → Depth → Progress → Reading Pair
read_ends blocks depth at =
    after_open depth at.tokens >>= λ o. after_ok o.1 >>= λ ts1.
    read_branches blocks o.0 o.0 (progress_to ts1 at.begun) >>= λ ab.
    after_close ab.1.tokens >>= λ ts2. Some (ab.0, progress_to ts2 ab.1.begun)

abbrev pub read_phase : Blocks → Depth → Phase → Progress → Reading Statement
read_phase blocks depth p at = read_ends blocks depth at >>= λ ab. Some (phase p ab.0.0 ab.0.1, ab.1)

abbrev pub read_send : WaysOf → Declared → Depth → Progress → Reading Statement
read_send ways names depth at =
    read_command names at.tokens >>= λ c. after_open depth c.1 >>= λ o.
    ways o.0 (order_of names.kind c.0.ask) (progress_to o.1 at.begun) >>= λ w.
    after_close w.1.tokens >>= λ ts1. Some (send c.0 w.0, progress_to ts1 w.1.begun)

abbrev pub read_if : Blocks → Declared → Depth → Progress → Reading Statement
read_if blocks names depth at =
    read_condition names at.tokens >>= λ c. read_branches blocks depth depth (progress_to c.1 at.begun) >>= λ ab.
    Some (choice c.0 ab.0.0 ab.0.1, ab.1)

abbrev pub read_loop : Blocks → Depth → Progress → Reading Statement
read_loop blocks depth at =
    if nat_lt depth.loops max_loops
    then (read_count at.tokens >>= λ n. read_branches blocks (in_loop depth) depth (progress_to n.1 at.begun) >>= λ ab.
    Some (turns n.0 ab.0.0 ab.0.1, ab.1))
    else None

abbrev pub moved : {A : Type 0} → (A → Statement) → ℕ → Read A → Reading Statement
moved make begun read = read >>= λ x. Some (make x.0, progress_to x.1 begun)

-- a statement may begin with the word
abbrev pub begins : Keyword → Bool
begins word.Send = true
begins word.Recv = true
begins word.Give = true
begins word.Wait = true
begins word.Let = true
begins word.If = true
begins word.Set = true
begins word.Clear = true
begins word.BusLines = true
begins word.Loop = true
begins word.Break = true
begins word.Done = true
begins word.Fault = true
begins keyword = false

-- and `break` only in a loop's body
abbrev pub starts : Keyword → Depth → Bool
starts word.Break depth = nat_lt 0 depth.loops
starts keyword depth = begins keyword

-- a statement without blocks, after its first word
abbrev pub read_plain : Declared → Keyword → Progress → Reading Statement
read_plain names word.Let at = moved setting at.begun (read_let names at.tokens)
read_plain names word.Set at = moved set at.begun (read_flag names at.tokens)
read_plain names word.Clear at = moved clear at.begun (read_flag names at.tokens)
read_plain names word.BusLines at = moved bus_lines at.begun (read_width names.kind at.tokens)
read_plain names word.Break at = Some (break, at)
read_plain names word.Done at = Some (done, at)
read_plain names word.Fault at = moved fault at.begun (read_fault at.tokens)
read_plain names keyword at = None

-- a statement after its first word
abbrev pub read_after : Blocks → WaysOf → Declared → Depth → Keyword → Progress → Reading Statement
read_after blocks ways names depth word.Send at = read_send ways names depth at
read_after blocks ways names depth word.Recv at =
    read_receive at.tokens >>= λ p. read_phase blocks depth p.0 (progress_to p.1 at.begun)
read_after blocks ways names depth word.Give at = read_phase blocks depth phases.GiveBlocks at
read_after blocks ways names depth word.Wait at = read_phase blocks depth phases.Wait at
read_after blocks ways names depth word.If at = read_if blocks names depth at
read_after blocks ways names depth word.Loop at = read_loop blocks depth at
read_after blocks ways names depth keyword at = read_plain names keyword at

abbrev pub read_statement : Blocks → WaysOf → Declared → Depth → List Token → ℕ → Reading Statement
read_statement blocks ways names depth (Key k ∷ ts) begun =
    if starts k depth && nat_lt begun max_statements then read_after blocks ways names depth k
    (progress_to ts (begun + 1)) else None
read_statement blocks ways names depth ts begun = None

-- no further statement stands here
abbrev pub closes : List Token → Bool
closes [] = true
closes (Mark sign.CloseBrace ∷ ts) = true
closes ts = false

abbrev pub more_statements : Blocks → WaysOf → Declared → Depth → Progress → Reading Statements
more_statements blocks ways names depth at =
    if closes at.tokens then Some (nothing, at)
    else (read_statement blocks ways names depth at.tokens at.begun >>= λ s. blocks depth s.1
    >>= λ rest. Some (first s.0 rest.0, rest.1))

abbrev pub last_way : Blocks → Depth → Progress → Reading Ways
last_way blocks depth at = read_block blocks depth at >>= λ b. Some (otherwise b.0, b.1)

-- guard {"&" guard} block
abbrev pub read_case : Blocks → Depth → Option Order → Progress → Reading Guarded
read_case blocks depth order at =
    read_guards order [] at.tokens >>= λ gs. read_block blocks depth (progress_to gs.1 at.begun)
    >>= λ b. Some ((gs.0, b.0), b.1)

abbrev pub next_way : Blocks → WaysOf → Depth → Option Order → Progress → Reading Ways
next_way blocks ways depth order at =
    read_case blocks depth order at >>= λ c. ways depth order c.1 >>= λ w. Some (way c.0.0 c.0.1 w.0, w.1)

abbrev pub more_ways : Blocks → WaysOf → Depth → Option Order → List Token → ℕ → Reading Ways
more_ways blocks ways depth order (Key word.Else ∷ ts) begun = last_way blocks depth (progress_to ts begun)
more_ways blocks ways depth order ts begun = next_way blocks ways depth order (progress_to ts begun)

-- with so many levels of the tree left
unfoldable mutual
  pub read_statements : ℕ → Declared → Depth → Progress → Reading Statements
  read_statements zero names depth at = None
  read_statements (suc left) names depth at =
      more_statements (read_statements left names) (read_ways left names) names depth at

  pub read_ways : ℕ → Declared → Depth → Option Order → Progress → Reading Ways
  read_ways zero names depth order at = None
  read_ways (suc left) names depth order at =
      more_ways (read_statements left names) (read_ways left names) depth order at.tokens at.begun

-- SCRIPTS

-- a declared list may end before these tokens: a reserved word there has to begin what follows
abbrev pub may_follow : (with_nums : Bool) → List Token → Bool
may_follow with_nums (Key word.Nums ∷ ts) = with_nums
may_follow with_nums (Key k ∷ ts) = begins k
may_follow with_nums ts = true

abbrev pub name_is_new : (earlier names : List (List ℕ)) → ℕ → List ℕ → Bool
name_is_new earlier names limit n =
    is_none (place_of n earlier) && is_none (place_of n names) && nat_lt (length names) limit && nat_le
    (length n) max_name

-- one name or more, after those that were read
abbrev pub read_names : (with_nums : Bool) → (earlier names : List (List ℕ)) → ℕ → List Token → Read (List (List ℕ))
read_names with_nums earlier names limit (Name n ∷ ts) =
    if name_is_new earlier names limit n then read_names with_nums earlier (names ++ n ∷ []) limit ts else None
read_names with_nums earlier names limit ts =
    if nat_lt 0 (length names) && may_follow with_nums ts then Some (names, ts) else None

abbrev pub read_flags : List Token → Read (List (List ℕ))
read_flags (Key word.Flags ∷ ts) = read_names true [] [] max_flags ts
read_flags ts = Some ([], ts)

abbrev pub read_nums : List (List ℕ) → List Token → Read (List (List ℕ))
read_nums flags (Key word.Nums ∷ ts) = read_names false flags [] max_numbers ts
read_nums flags ts = Some ([], ts)

abbrev pub Whole : Type 0
Whole = Declared × Statements

abbrev pub whole_if : Declared → Statements → List Token → Option Whole
whole_if names body [] = if statements_fall body then None else Some (names, body)
whole_if names body ts = None

abbrev pub start : Depth
start = record { braces = 0; loops = 0 }

abbrev pub read_body : Declared → List Token → Option Whole
read_body names ts = read_statements max_bytes names start (progress_to ts 0) >>= λ b. whole_if names b.0 b.1.tokens

abbrev pub read_declared : List Token → Read Declared
read_declared ts =
    read_kind ts >>= λ kind. read_flags kind.1 >>= λ flags. read_nums flags.0 flags.1 >>= λ numbers.
    Some (record { kind = kind.0; flags = flags.0; numbers = numbers.0 }, numbers.1)

unfoldable pub read_script : List Token → Option Whole
read_script ts = after_card ts >>= λ ts1. read_declared ts1 >>= λ names. read_body names.0 names.1

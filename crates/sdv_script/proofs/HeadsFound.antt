-- The lines that are found are those of the statements' first tokens.
use Rattle.std.proofs.Common.{◌≡◌, ℕ, ◌+◌, Bool, true, false, List, [], ◌∷◌, length, refl, subst, ap, ◌∙◌, arith, Option, Some, None}
use Rattle.sdv_registers.specs.declared.kind.Kind.{Kind}
use Rattle.sdv_registers.specs.declared.kind.Kind.TheVariants.{Sd, Emmc}
use Rattle.sdv_card.specs.declared.event.Aim.{Aim}
use Rattle.sdv_card.specs.declared.event.Aim.TheVariants.{Rca, Plain}
use Rattle.sdv_card.specs.declared.guard.Guard.{Guard}
use Rattle.sdv_card.specs.declared.guard.Guard.TheVariants as guards
use Rattle.sdv_card.specs.declared.state.State.{State}
use Rattle.sdv_card.specs.declared.state.State.TheVariants as states
use Rattle.sdv_card.specs.declared.command.Setting.{Setting}
use Rattle.sdv_card.specs.declared.command.Setting.TheVariants.{Lines, Access}
use Rattle.sdv_card.specs.Modes.{line_count, partition_number}
use Rattle.sdv_graph.specs.declared.tree.ScriptCommand.{ScriptCommand}
use Rattle.sdv_graph.specs.declared.tree.Address.{Address}
use Rattle.sdv_graph.specs.declared.tree.Unit.{Unit as AddressUnit}
use Rattle.sdv_graph.specs.declared.tree.Unit.TheVariants as units
use Rattle.sdv_graph.specs.declared.tree.Position.{Position}
use Rattle.sdv_graph.specs.declared.tree.Position.TheVariants as positions
use Rattle.sdv_graph.specs.declared.tree.Phase.{Phase}
use Rattle.sdv_graph.specs.declared.tree.Phase.TheVariants as phases
use Rattle.sdv_graph.specs.declared.tree.Let.{Let}
use Rattle.sdv_graph.specs.declared.tree.Atom.{Atom}
use Rattle.sdv_graph.specs.declared.tree.Atom.TheVariants as atoms
use Rattle.sdv_graph.specs.declared.tree.Change.{Change}
use Rattle.sdv_graph.specs.declared.tree.Change.TheVariants as changes
use Rattle.sdv_graph.specs.declared.tree.Condition.{Condition}
use Rattle.sdv_graph.specs.declared.tree.Condition.TheVariants as conditions
use Rattle.sdv_graph.specs.Counts.{statements_count, ways_count, statement_count}
use Rattle.sdv_graph.specs.Tree.{Statements, nothing, first, Ways, otherwise, way, Statement, send, phase, setting, choice, set, clear, bus_lines, turns, break, done, fault, Declared}
use Rattle.sdv_script.specs.declared.keyword.Keyword.TheVariants as word
use Rattle.sdv_script.specs.declared.lines.Before.{Before}
use Rattle.sdv_script.specs.declared.lines.Before.TheVariants.{Send, Index, Other}
use Rattle.sdv_script.specs.declared.operand.Operand.{Operand}
use Rattle.sdv_script.specs.declared.operand.Operand.TheVariants.{Bare, Select, Conditions, Addressed, Counted, Preset, Erase, Switch}
use Rattle.sdv_script.specs.declared.token.Sign.TheVariants as sign
use Rattle.sdv_script.specs.Commands.{operand_of, setting_of}
use Rattle.sdv_script.specs.FoundLines.{behind, begins_statement, found_lines}
use Rattle.sdv_script.specs.Grammar.{flag_name, number_name, unit_written, position_written, address_written, address_if_any, select_written, setting_if_any, operand_if_any, command_written, state_word, guard_written, guards_written, atom_written, change_written, let_written, condition_written, phase_written, statements_written, ways_written, statement_written, names_written, list_written, kind_word, script_written}
use Rattle.sdv_script.specs.Lines.{inside, headed, statements_heads, ways_heads, statement_heads, script_heads, marked, token_lines, statement_lines}
use Rattle.sdv_script.specs.Script.{Parsed, IsScript}
use Rattle.sdv_script.specs.Tokens.{Token, Key, Name, Number, Mark, tokens}
use Rattle.sdv_script.proofs.LineLaws.{length-token_lines}

-- whatever the lines of these tokens are: those that are found are the marked ones, and there are n
pub record Reads (before : Before) (n : ℕ) (ts : List Token) (ms : List Bool) : Type 0 where
  pub all : (ls : List ℕ) → length ls ≡ length ts → (found_lines before ts ls ≡ marked ms ls) × (length (marked ms ls) ≡ n)

-- a token that begins no statement
skipped : (before : Before) (t : Token) (n : ℕ) (ts : List Token) (ms : List Bool) → begins_statement before t ≡ false → Reads (behind before t) n ts ms
    → (ls : List ℕ) → length ls ≡ length (t ∷ ts) → (found_lines before (t ∷ ts) ls ≡ marked (false ∷ ms) ls) × (length (marked (false ∷ ms) ls) ≡ n)
skipped before t n ts ms e r [] len = absurd (omega (arith, len))
skipped before t n ts ms e r (l ∷ ls) len = let p = r.all ls (omega (arith, len)) in (rw e p.0, p.1)

pub skip : (before : Before) (t : Token) {n : ℕ} {ts : List Token} {ms : List Bool} → begins_statement before t ≡ false → Reads (behind before t) n ts ms
    → Reads before n (t ∷ ts) (false ∷ ms)
skip before t {n} {ts} {ms} e r = record { all = skipped before t n ts ms e r }

-- and one that does
begun : (before : Before) (t : Token) (n : ℕ) (ts : List Token) (ms : List Bool) → begins_statement before t ≡ true → Reads (behind before t) n ts ms
    → (ls : List ℕ) → length ls ≡ length (t ∷ ts) → (found_lines before (t ∷ ts) ls ≡ marked (true ∷ ms) ls) × (length (marked (true ∷ ms) ls) ≡ 1 + n)
begun before t n ts ms e r [] len = absurd (omega (arith, len))
begun before t n ts ms e r (l ∷ ls) len = let p = r.all ls (omega (arith, len)) in (rw e (ap (λ (found : List ℕ). l ∷ found) p.0), omega (arith, p.1))

pub begin : (t : Token) {n : ℕ} {ts : List Token} {ms : List Bool} → begins_statement Other t ≡ true → Reads (behind Other t) n ts ms
    → Reads Other (1 + n) (t ∷ ts) (true ∷ ms)
begin t {n} {ts} {ms} e r = record { all = begun Other t n ts ms e r }

pub many : {before : Before} {m n : ℕ} {ts : List Token} {ms : List Bool} → m ≡ n → Reads before m ts ms → Reads before n ts ms
many {before} {m} {n} {ts} {ms} e r = subst (λ (k : ℕ). Reads before k ts ms) e r

-- ONE TOKEN

pub open_brace : {n : ℕ} {ts : List Token} {ms : List Bool} → Reads Other n ts ms → Reads Other n (Mark sign.OpenBrace ∷ ts) (false ∷ ms)
open_brace r = skip Other (Mark sign.OpenBrace) refl r

pub close_brace : {n : ℕ} {ts : List Token} {ms : List Bool} → Reads Other n ts ms → Reads Other n (Mark sign.CloseBrace ∷ ts) (false ∷ ms)
close_brace r = skip Other (Mark sign.CloseBrace) refl r

-- "}" "else" "{"
between : {n : ℕ} {ts : List Token} {ms : List Bool} → Reads Other n ts ms
    → Reads Other n (Mark sign.CloseBrace ∷ Key word.Else ∷ Mark sign.OpenBrace ∷ ts) (false ∷ false ∷ false ∷ ms)
between r = close_brace (skip Other (Key word.Else) refl (open_brace r))

-- COMMANDS, of which some tokens are behind these ones

module _ (names : Declared) {n : ℕ} {ts : List Token} (us : List Token) (ms : List Bool) (r : Reads Other n ts (inside us ms)) where
  unit : (u : AddressUnit) → Reads Other n (unit_written names u ts) (inside (unit_written names u us) ms)
  unit units.Block = skip Other (Key word.Block) refl r
  unit units.Byte = skip Other (Key word.Byte) refl r
  unit (units.By f) = skip Other (Key word.By) refl (skip Other (flag_name names f) refl r)

  place : (p : Position) → Reads Other n (position_written names p ts) (inside (position_written names p us) ms)
  place (positions.Number k) = skip Other (Number k) refl r
  place (positions.Variable x None) = skip Other (number_name names x) refl r
  place (positions.Variable x (Some k)) = skip Other (number_name names x) refl (skip Other (Mark sign.Plus) refl (skip Other (Number k) refl r))

address : (names : Declared) {n : ℕ} {ts : List Token} (us : List Token) (ms : List Bool) → Reads Other n ts (inside us ms) → (a : Address)
    → Reads Index n (address_written names a ts) (inside (address_written names a us) ms)
address names us ms r a =
    skip Index (Key word.At) refl (unit names (position_written names a.position us) ms (place names us ms r a.position) a.unit)

-- what may stand behind the index of a command
abbrev Either : ℕ → List Token → List Bool → Type 0
Either n ts ms = Reads Index n ts ms × Reads Other n ts ms

count_behind : {n : ℕ} {ts : List Token} {ms : List Bool} (k : ℕ) → Either n ts ms → Either n (Key word.Count ∷ Number k ∷ ts) (false ∷ false ∷ ms)
count_behind k r = (
  skip Index (Key word.Count) refl (skip Other (Number k) refl r.1),
  skip Other (Key word.Count) refl (skip Other (Number k) refl r.1),
)

module _ (names : Declared) {n : ℕ} {ts : List Token} (us : List Token) (ms : List Bool) (r : Either n ts (inside us ms)) where
  address_may : (o : Option Address) → Reads Index n (address_if_any names o ts) (inside (address_if_any names o us) ms)
  address_may None = r.0
  address_may (Some a) = address names us ms r.1 a

  select : (aim : Aim) → Reads Index n (select_written aim ts) (inside (select_written aim us) ms)
  select Rca = r.0
  select Plain = skip Index (Key word.None) refl r.1

  switch : (o : Option Setting) → Reads Index n (setting_if_any o ts) (inside (setting_if_any o us) ms)
  switch None = r.0
  switch (Some (Lines width)) = skip Index (Key word.BusLines) refl (skip Other (Number (line_count width)) refl r.1)
  switch (Some (Access partition)) = skip Index (Key word.PartAccess) refl (skip Other (Number (partition_number partition)) refl r.1)

module _ (names : Declared) {n : ℕ} {ts : List Token} (us : List Token) (ms : List Bool) (r : Either n ts (inside us ms)) (c : ScriptCommand) where
  operand : (o : Option Operand) → Reads Index n (operand_if_any o names c ts) (inside (operand_if_any o names c us) ms)
  operand None = r.0
  operand (Some (Bare aim)) = r.0
  operand (Some Select) = select names us ms r c.ask.aim
  operand (Some Conditions) = skip Index (Number c.ask.argument) refl r.1
  operand (Some (Addressed count)) = address_may names us ms r c.address
  operand (Some Counted) =
      address_may names (Key word.Count ∷ Number c.ask.count ∷ us) ms (count_behind c.ask.count r) c.address
  operand (Some Preset) = (count_behind c.ask.count r).0
  operand (Some Erase) = skip Index (Number c.ask.argument) refl r.1
  operand (Some Switch) = switch names us ms r (setting_of names.kind c.ask.argument)

  command : Reads Send n (command_written names c ts) (inside (command_written names c us) ms)
  command = skip Send (Number c.ask.index) refl (operand (operand_of names.kind c.ask.index))

-- GUARDS

state_skipped : {n : ℕ} {ts : List Token} {ms : List Bool} (s : State) → Reads Other n ts ms → Reads Other n (Key (state_word s) ∷ ts) (false ∷ ms)
state_skipped states.Idle r = skip Other (Key word.Idle) refl r
state_skipped states.Ready r = skip Other (Key word.Ready) refl r
state_skipped states.Ident r = skip Other (Key word.Ident) refl r
state_skipped states.Stby r = skip Other (Key word.Stby) refl r
state_skipped states.Tran r = skip Other (Key word.Tran) refl r
state_skipped states.Data r = skip Other (Key word.Data) refl r
state_skipped states.Rcv r = skip Other (Key word.Rcv) refl r
state_skipped states.Prg r = skip Other (Key word.Prg) refl r
state_skipped states.Dis r = skip Other (Key word.Dis) refl r

guard : {n : ℕ} {ts : List Token} (us : List Token) (ms : List Bool) (g : Guard) → Reads Other n ts (inside us ms)
    → Reads Other n (guard_written g ts) (inside (guard_written g us) ms)
guard us ms guards.Timeout r = skip Other (Key word.Timeout) refl r
guard us ms guards.Answer r = skip Other (Key word.Answer) refl r
guard us ms guards.Clean r = skip Other (Key word.Clean) refl r
guard us ms guards.Ready r = skip Other (Key word.Ready) refl r
guard us ms guards.App r = skip Other (Key word.App) refl r
guard us ms guards.Echo r = skip Other (Key word.Echo) refl r
guard us ms guards.OcrReady r = skip Other (Key word.OcrReady) refl r
guard us ms guards.OcrBlock r = skip Other (Key word.OcrBlock) refl r
guard us ms (guards.State s) r = skip Other (Key word.State) refl (skip Other (Mark sign.Equals) refl (state_skipped s r))
guard us ms guards.Ok r = skip Other (Key word.Ok) refl r

guard_row : {n : ℕ} {ts : List Token} (us : List Token) (ms : List Bool) (gs : List Guard) → Reads Other n ts (inside us ms)
    → Reads Other n (guards_written gs ts) (inside (guards_written gs us) ms)
guard_row us ms [] r = r
guard_row us ms (g ∷ []) r = guard us ms g r
guard_row us ms (g ∷ h ∷ gs) r =
    guard (Mark sign.And ∷ guards_written (h ∷ gs) us) ms g (skip Other (Mark sign.And) refl (guard_row us ms (h ∷ gs) r))

-- STATEMENTS WITHOUT BLOCKS

module _ (names : Declared) {n : ℕ} {ts : List Token} (us : List Token) (ms : List Bool) (r : Reads Other n ts (inside us ms)) where
  atom : (a : Atom) → Reads Other n (atom_written names a ts) (inside (atom_written names a us) ms)
  atom (atoms.Number k) = skip Other (Number k) refl r
  atom (atoms.Variable x) = skip Other (number_name names x) refl r
  atom atoms.CsdBlocks = skip Other (Key word.CsdBlocks) refl r
  atom atoms.ExtBlocks = skip Other (Key word.ExtBlocks) refl r
  atom atoms.ExtBoot = skip Other (Key word.ExtBoot) refl r

  change : (c : Change) → Reads Other n (change_written c ts) (inside (change_written c us) ms)
  change changes.Same = r
  change (changes.Plus k) = skip Other (Mark sign.Plus) refl (skip Other (Number k) refl r)
  change (changes.Minus k) = skip Other (Mark sign.Minus) refl (skip Other (Number k) refl r)

  condition : (c : Condition) → Reads Other n (condition_written names c ts) (inside (condition_written names c us) ms)
  condition (conditions.Flag f) = skip Other (flag_name names f) refl r
  condition (conditions.AtLeast x k) = skip Other (number_name names x) refl (skip Other (Mark sign.AtLeast) refl (skip Other (Number k) refl r))
  condition (conditions.Below x k) = skip Other (number_name names x) refl (skip Other (Mark sign.Below) refl (skip Other (Number k) refl r))

  -- the words of a phase begin a statement
  phase_begins : (p : Phase) → Reads Other (1 + n) (phase_written p ts) (headed (phase_written p us) ms)
  phase_begins phases.ReceiveBlocks = begin (Key word.Recv) refl r
  phase_begins phases.ReceiveRegister = begin (Key word.Recv) refl (skip Other (Key word.Reg) refl r)
  phase_begins phases.GiveBlocks = begin (Key word.Give) refl r
  phase_begins phases.Wait = begin (Key word.Wait) refl r

let_begins : (names : Declared) {n : ℕ} {ts : List Token} (ms : List Bool) → Reads Other n ts ms → (l : Let)
    → Reads Other (1 + n) (let_written names l ts) (headed (let_written names l []) ms)
let_begins names ms r l =
    begin (Key word.Let) refl (skip Other (number_name names l.target) refl (skip Other (Mark sign.Equals) refl
    (atom names (change_written l.change []) ms (change names [] ms r l.change) l.atom)))

-- STATEMENTS

mutual
  pub rows : (names : Declared) (b : Statements) {n : ℕ} {ts : List Token} (ms : List Bool) → Reads Other n ts ms
      → Reads Other (statements_count b + n) (statements_written names b ts) (statements_heads names b ms)
  rows names nothing ms r = many (omega arith) r
  rows names (first s rest) ms r =
      many (omega arith) (row names s (statements_heads names rest ms) (rows names rest ms r))

  row_ways : (names : Declared) (w : Ways) {n : ℕ} {ts : List Token} (ms : List Bool) → Reads Other n ts ms
      → Reads Other (ways_count w + n) (ways_written names w ts) (ways_heads names w ms)
  row_ways names (otherwise b) ms r = skip Other (Key word.Else) refl (open_brace (rows names b (false ∷ ms) (close_brace r)))
  row_ways names (way gs b rest) ms r =
      many (omega arith) (guard_row (Mark sign.OpenBrace ∷ []) _ gs
      (open_brace (rows names b (false ∷ ways_heads names rest ms) (close_brace (row_ways names rest ms r)))))

  row : (names : Declared) (s : Statement) {n : ℕ} {ts : List Token} (ms : List Bool) → Reads Other n ts ms
      → Reads Other (statement_count s + n) (statement_written names s ts) (statement_heads names s ms)
  row names (send c ways) ms r =
      let w = row_ways names ways (false ∷ ms) (close_brace r) in
      many (omega arith) (begin (Key word.Send) refl
      (command names (Mark sign.OpenBrace ∷ []) (ways_heads names ways (false ∷ ms)) (skip Index (Mark sign.OpenBrace) refl w, open_brace w) c))
  row names (phase p a b) ms r =
      let other = rows names b (false ∷ false ∷ ms) (close_brace (close_brace r)) in
      let well = rows names a _ (between other) in
      many (omega arith) (phase_begins names (Mark sign.OpenBrace ∷ Key word.Ok ∷ Mark sign.OpenBrace ∷ []) _
      (open_brace (skip Other (Key word.Ok) refl (open_brace well))) p)
  row names (setting l) ms r = let_begins names ms r l
  row names (choice c a b) ms r =
      let other = rows names b (false ∷ ms) (close_brace r) in
      let holds = rows names a _ (between other) in
      many (omega arith) (begin (Key word.If) refl (condition names (Mark sign.OpenBrace ∷ []) _ (open_brace holds) c))
  row names (set f) ms r = begin (Key word.Set) refl (skip Other (flag_name names f) refl r)
  row names (clear f) ms r = begin (Key word.Clear) refl (skip Other (flag_name names f) refl r)
  row names (bus_lines width) ms r = begin (Key word.BusLines) refl (skip Other (Number (line_count width)) refl r)
  row names (turns k a b) ms r =
      let other = rows names b (false ∷ ms) (close_brace r) in
      let body = rows names a _ (between other) in
      many (omega arith) (begin (Key word.Loop) refl (skip Other (Number k) refl (open_brace body)))
  row names break ms r = begin (Key word.Break) refl r
  row names done ms r = begin (Key word.Done) refl r
  row names (fault name) ms r = begin (Key word.Fault) refl (skip Other (Name name) refl r)

-- SCRIPTS

pub name_row : (ns : List (List ℕ)) {n : ℕ} {ts : List Token} (us : List Token) (ms : List Bool) → Reads Other n ts (inside us ms)
    → Reads Other n (names_written ns ts) (inside (names_written ns us) ms)
name_row [] us ms r = r
name_row (x ∷ xs) us ms r = skip Other (Name x) refl (name_row xs us ms r)

pub flag_list : (ns : List (List ℕ)) {n : ℕ} {ts : List Token} (us : List Token) (ms : List Bool) → Reads Other n ts (inside us ms)
    → Reads Other n (list_written word.Flags ns ts) (inside (list_written word.Flags ns us) ms)
flag_list [] us ms r = r
flag_list (x ∷ xs) us ms r = skip Other (Key word.Flags) refl (name_row (x ∷ xs) us ms r)

pub number_list : (ns : List (List ℕ)) {n : ℕ} {ts : List Token} (us : List Token) (ms : List Bool) → Reads Other n ts (inside us ms)
    → Reads Other n (list_written word.Nums ns ts) (inside (list_written word.Nums ns us) ms)
number_list [] us ms r = r
number_list (x ∷ xs) us ms r = skip Other (Key word.Nums) refl (name_row (x ∷ xs) us ms r)

pub kind_skipped : (k : Kind) {n : ℕ} {ts : List Token} {ms : List Bool} → Reads Other n ts ms → Reads Other n (Key (kind_word k) ∷ ts) (false ∷ ms)
kind_skipped Sd r = skip Other (Key word.Sd) refl r
kind_skipped Emmc r = skip Other (Key word.Emmc) refl r

pub no_line : (ls : List ℕ) → length ls ≡ 0 → (found_lines Other [] ls ≡ marked [] ls) × (length (marked [] ls) ≡ 0)
no_line ls len = (refl, refl)

whole : (names : Declared) (b : Statements) → Reads Other (statements_count b) (script_written names b) (script_heads names b)
whole names b =
    let body = rows names b [] (record { all = no_line }) in
    let numbers = number_list names.numbers [] (statements_heads names b []) body in
    let flags = flag_list names.flags (list_written word.Nums names.numbers []) (statements_heads names b []) numbers in
    many (omega arith) (skip Other (Key word.Card) refl (kind_skipped names.kind flags))

line_each : (s : Parsed) → IsScript s → length (token_lines 1 s.text) ≡ length (script_written s.names s.body)
line_each s is = length-token_lines 1 s.text ∙ ap length is.written

-- what is found in a script's text is the line of each statement
pub lines_found : (s : Parsed) → IsScript s → found_lines Other (tokens s.text) (token_lines 1 s.text) ≡ statement_lines s
lines_found s is =
    ap (λ (ts : List Token). found_lines Other ts (token_lines 1 s.text)) is.written
    ∙ ((whole s.names s.body).all (token_lines 1 s.text) (line_each s is)).0

-- and each statement has one
pub each_has_line : (s : Parsed) → IsScript s → length (statement_lines s) ≡ statements_count s.body
each_has_line s is = ((whole s.names s.body).all (token_lines 1 s.text) (line_each s is)).1
